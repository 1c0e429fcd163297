-- Demand 1: "Every input gets the full answer or one numbered refusal; which and when is fixed; a refused call writes nothing into the buffers it
-- was lent."
use mathlib.Core.Path.{◌≡◌, refl, sym, subst, subst₂}
use mathlib.Core.List.{List}
use mathlib.Core.Logic.{◌↔◌}
use Prim.Native.Nat.{ℕ, ◌≤◌}
use native.Mathlib.Omega.{arith}
use Rattle.cycles.specs.Compound.{Compound}
use Rattle.cycles.specs.Ring.{Relevant}
use Rattle.cycles.specs.Family.{Kept}
use Rattle.cycles.specs.Rows.{Report}
use Rattle.cycles.specs.Refusal.{Refused}
use Rattle.cycles.proofs.Refusals.{accepted_sound}
use Rattle.answers.specs.Answered.{Told, full, refused, Answered}
use Rattle.answers.specs.Cases.{Case1, Case2, Case3, Case4, Case5, Case6, Case7, Case8, Case9, Reports, AsLent}
use Rattle.answers.specs.Bytes.{Exactly, ClassCount}
use Rattle.answers.proofs.Unique.{answered_unique}
use Rattle.answers.proofs.Counts.{right_families, right_classes, right_rings}

module _ (n : ℕ) (bonds rows class_rows : List ℕ) (i : ℕ) where
  abbrev c : Compound
  c = record { n = n; bytes = bonds }

  abbrev Answers : Told → List ℕ → List ℕ → Type 0
  Answers = Answered n bonds rows class_rows i

  abbrev Lent : List ℕ → List ℕ → Type 0
  Lent = AsLent n bonds rows class_rows i

  -- "A refused call writes nothing into the buffers it was lent."
  pub refused_writes_nothing : {number place : ℕ} {left left' : List ℕ} → Answers (refused number place) left left' → (left ≡ rows) × (left' ≡ class_rows)
  refused_writes_nothing (Answered.by_input r) = (refl, refl)
  refused_writes_nothing (Answered.by_rows a r h) = (refl, refl)
  refused_writes_nothing (Answered.by_class_rows a r h l) = (refl, refl)
  refused_writes_nothing (Answered.by_rings a r h l m) = (refl, refl)

  refused_input_number : {number place : ℕ} → Refused c number place → (1 ≤ number) × (number ≤ 6)
  refused_input_number (Refused.atoms w) = (omega arith, omega arith)
  refused_input_number (Refused.bytes s w) = (omega arith, omega arith)
  refused_input_number (Refused.no_atom f h b w) = (omega arith, omega arith)
  refused_input_number (Refused.loop f h b s w) = (omega arith, omega arith)
  refused_input_number (Refused.again f h b s t w) = (omega arith, omega arith)
  refused_input_number (Refused.pieces f b w) = (omega arith, omega arith)

  -- "One numbered refusal": the numbers are 1 to 9.
  pub refused_number : {number place : ℕ} {left left' : List ℕ} → Answers (refused number place) left left' → (1 ≤ number) × (number ≤ 9)
  refused_number (Answered.by_input r) = let (h, l) = refused_input_number r in (h, omega arith)
  refused_number (Answered.by_rows a r h) = (omega arith, omega arith)
  refused_number (Answered.by_class_rows a r h l) = (omega arith, omega arith)
  refused_number (Answered.by_rings a r h l m) = (omega arith, omega arith)

  -- "The full answer or one numbered refusal": never both.
  pub full_not_refused : {cyclomatic families classes total rings size number place : ℕ} {left left' other other' : List ℕ}
      → Answers (full cyclomatic families classes total rings size) left left' → Answers (refused number place) other other' → ⊥
  full_not_refused a b = let e = (answered_unique n bonds rows class_rows i a b).0 in let z : ◌≡◌ {A = ℕ} 0 1 = cc in omega arith

  -- ---- each refusal exactly in its stated case, no earlier one holding
  moved : {number place at : ℕ} {left left' : List ℕ} → Answers (refused number at) rows class_rows → place ≡ at → Lent left left'
      → Answers (refused number place) left left'
  moved {number} {at} {left} {left'} a e (l, l') =
      subst (λ (x : ℕ). Answers (refused number x) left left') (sym e) (subst₂ (Answers (refused number at)) (sym l) (sym l') a)

  refused_1_case : {place : ℕ} {left left' : List ℕ} → Answers (refused 1 place) left left' → Case1 n bonds rows class_rows i place
  refused_1_case (Answered.by_input (Refused.atoms w)) = (w, refl)

  -- Refusal 1: "n is 0 or above 64".
  pub refused_1_exactly : {place : ℕ} {left left' : List ℕ} → Answers (refused 1 place) left left' ↔ (Case1 n bonds rows class_rows i place × Lent left left')
  refused_1_exactly = (
    λ a. (refused_1_case a, refused_writes_nothing a),
    λ ((w, e), lent). moved (Answered.by_input (Refused.atoms w)) e lent,
  )

  refused_2_case : {place : ℕ} {left left' : List ℕ} → Answers (refused 2 place) left left' → Case2 n bonds rows class_rows i place
  refused_2_case (Answered.by_input (Refused.bytes s w)) = (s, w, refl)

  -- Refusal 2: "bond bytes are odd in number, or there are more than 96 bonds".
  pub refused_2_exactly : {place : ℕ} {left left' : List ℕ} → Answers (refused 2 place) left left' ↔ (Case2 n bonds rows class_rows i place × Lent left left')
  refused_2_exactly = (
    λ a. (refused_2_case a, refused_writes_nothing a),
    λ ((s, w, e), lent). moved (Answered.by_input (Refused.bytes s w)) e lent,
  )

  refused_3_case : {place : ℕ} {left left' : List ℕ} → Answers (refused 3 place) left left' → Case3 n bonds rows class_rows i place
  refused_3_case (Answered.by_input (Refused.no_atom f h b w)) = (record { fits = f; bond = h; before = b }, w)

  -- Refusal 3: "a bond names an atom n or above".
  pub refused_3_exactly : {place : ℕ} {left left' : List ℕ} → Answers (refused 3 place) left left' ↔ (Case3 n bonds rows class_rows i place × Lent left left')
  refused_3_exactly = (
    λ a. (refused_3_case a, refused_writes_nothing a),
    λ ((r, w), lent). moved (Answered.by_input (Refused.no_atom r.fits r.bond r.before w)) refl lent,
  )

  refused_4_case : {place : ℕ} {left left' : List ℕ} → Answers (refused 4 place) left left' → Case4 n bonds rows class_rows i place
  refused_4_case (Answered.by_input (Refused.loop f h b s w)) = (record { fits = f; bond = h; before = b }, s, w)

  -- Refusal 4: "a bond joins an atom to itself".
  pub refused_4_exactly : {place : ℕ} {left left' : List ℕ} → Answers (refused 4 place) left left' ↔ (Case4 n bonds rows class_rows i place × Lent left left')
  refused_4_exactly = (
    λ a. (refused_4_case a, refused_writes_nothing a),
    λ ((r, s, w), lent). moved (Answered.by_input (Refused.loop r.fits r.bond r.before s w)) refl lent,
  )

  refused_5_case : {place : ℕ} {left left' : List ℕ} → Answers (refused 5 place) left left' → Case5 n bonds rows class_rows i place
  refused_5_case (Answered.by_input (Refused.again f h b s t w)) = (record { fits = f; bond = h; before = b }, s, t, w)

  -- Refusal 5: "an earlier bond joins the same two atoms, either way round".
  pub refused_5_exactly : {place : ℕ} {left left' : List ℕ} → Answers (refused 5 place) left left' ↔ (Case5 n bonds rows class_rows i place × Lent left left')
  refused_5_exactly = (
    λ a. (refused_5_case a, refused_writes_nothing a),
    λ ((r, s, t, w), lent). moved (Answered.by_input (Refused.again r.fits r.bond r.before s t w)) refl lent,
  )

  refused_6_case : {place : ℕ} {left left' : List ℕ} → Answers (refused 6 place) left left' → Case6 n bonds rows class_rows i place
  refused_6_case (Answered.by_input (Refused.pieces f b w)) = (f, b, w, refl)

  -- Refusal 6: "the compound is in more than one piece".
  pub refused_6_exactly : {place : ℕ} {left left' : List ℕ} → Answers (refused 6 place) left left' ↔ (Case6 n bonds rows class_rows i place × Lent left left')
  refused_6_exactly = (
    λ a. (refused_6_case a, refused_writes_nothing a),
    λ ((f, b, w, e), lent). moved (Answered.by_input (Refused.pieces f b w)) e lent,
  )

  refused_7_case : {place : ℕ} {left left' : List ℕ} → Answers (refused 7 place) left left' → Case7 n bonds rows class_rows i place
  refused_7_case (Answered.by_input h) = elim h [ ]
  refused_7_case (Answered.by_rows {R = R} a r h) = (R, record { accepted = a; right = r }, h, refl)

  -- Refusal 7: "kept families exceed the lent rows".
  pub refused_7_exactly : {place : ℕ} {left left' : List ℕ} → Answers (refused 7 place) left left' ↔ (Case7 n bonds rows class_rows i place × Lent left left')
  refused_7_exactly = (
    λ a. (refused_7_case a, refused_writes_nothing a),
    λ ((R, r, h, e), lent). moved (Answered.by_rows r.accepted r.right h) e lent,
  )

  refused_8_case : {place : ℕ} {left left' : List ℕ} → Answers (refused 8 place) left left' → Case8 n bonds rows class_rows i place
  refused_8_case (Answered.by_input h) = elim h [ ]
  refused_8_case (Answered.by_class_rows {R = R} a r h l) = (R, record { accepted = a; right = r }, h, l, refl)

  -- Refusal 8: "classes exceed the lent rows".
  pub refused_8_exactly : {place : ℕ} {left left' : List ℕ} → Answers (refused 8 place) left left' ↔ (Case8 n bonds rows class_rows i place × Lent left left')
  refused_8_exactly = (
    λ a. (refused_8_case a, refused_writes_nothing a),
    λ ((R, r, h, l, e), lent). moved (Answered.by_class_rows r.accepted r.right h l) e lent,
  )

  refused_9_case : {place : ℕ} {left left' : List ℕ} → Answers (refused 9 place) left left' → Case9 n bonds rows class_rows i place
  refused_9_case (Answered.by_input h) = elim h [ ]
  refused_9_case (Answered.by_rings {R = R} a r h l m) = (R, record { accepted = a; right = r }, h, l, m, refl)

  -- Refusal 9: "rings would exceed 18,446,744,073,709,551,615".
  pub refused_9_exactly : {place : ℕ} {left left' : List ℕ} → Answers (refused 9 place) left left' ↔ (Case9 n bonds rows class_rows i place × Lent left left')
  refused_9_exactly = (
    λ a. (refused_9_case a, refused_writes_nothing a),
    λ ((R, r, h, l, m, e), lent). moved (Answered.by_rings r.accepted r.right h l m) e lent,
  )

  -- ---- what the table's numbers count
  module _ {R : Report} (reports : Reports n bonds rows class_rows i R) where
    -- "Kept families": the number in refusal 7 is that of the kept families.
    pub families_are_kept : Exactly R.families (Kept c (λ a. a))
    families_are_kept = right_families c (accepted_sound c reports.accepted) (λ a. a) (λ a b h l e. e) reports.right

    -- "Classes": the number in refusal 8 is that of the classes of interchangeable relevant rings.
    pub classes_are_of_rings : ClassCount c R.classes
    classes_are_of_rings = right_classes c (accepted_sound c reports.accepted) (λ a. a) (λ a b h l e. e) reports.right

    -- "Rings": the number in refusal 9 is that of the relevant rings.
    pub rings_are_relevant : Exactly R.rings (Relevant c)
    rings_are_relevant = right_rings c (accepted_sound c reports.accepted) (λ a. a) (λ a b h l e. e) reports.right
