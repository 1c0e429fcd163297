-- The claim of a call from what the engine found and what was delivered.
use mathlib.Core.Path.{◌≡◌, refl, sym, ◌∙◌, subst}
use mathlib.Core.Logic.{inl, inr}
use mathlib.Core.List.{List}
use Prim.Native.Nat.{ℕ, ◌+◌, ◌*◌, ◌/◌, ◌<◌, ◌≤◌}
use native.Mathlib.Omega.{arith}
use native.Mathlib.Nat.{zero-add}
use lib.ListN.{length, get_or, drop, replicate, length-replicate, get_or-eq_default}
use lib.Seq.{paste, take_at}
use Rattle.std.specs.Prelude.{Option, Some, None, Ok, Err}
use Rattle.bondset.proofs.Laws.{lt_or_ge}
use Rattle.cycles.specs.Compound.{Compound, cyclomatic}
use Rattle.cycles.specs.Refusal.{Accepted}
use Rattle.cycles.specs.Rows.{Report, Right, most}
use Rattle.answers.specs.Answered.{full, refused, Answered, by_input, by_rows, by_class_rows, by_rings, in_full}
use Rattle.answers.specs.Answered.{family_bytes, class_bytes, over, size_of}
use Rattle.answers.proofs.Places.{length_family_bytes, length_class_bytes}
use Rattle.answers.proofs.Demand2.{size_of_past}
use Rattle.model.specs.Run.{report, report_by}
use Rattle.model.proofs.Meets.{report_accepted}
use Rattle.counting.specs.Counts.{counted}
use Rattle.counting.proofs.Added.{counted_past, counted_within}
use Rattle.reading.specs.Reading.{compound}
use Rattle.engine.specs.declared.Found.{Found}
use Rattle.rings.specs.declared.Full.{Full}
use Rattle.rings.specs.declared.Refusal.{Refusal}
use Rattle.rings.specs.declared.Refusal.TheVariants.{FewRows, FewClassRows, ManyRings}
use Rattle.engine.specs.Reports.{Reports}
use Rattle.rings.specs.Calls.{number_of, place_of, Answer, told, RefusedBy, Fit, Unfit, few_rows, few_class_rows, many_rings, full_of, Fitting, Delivered, Answers}

-- ---- the number of rings

-- There are more rings than can be told.
counted_over : (rings : Option ℕ) (total : ℕ) → rings ≡ counted most total → rings ≡ None → most < total
counted_over rings total e none = elim (lt_or_ge most total) [ inl l ↦ l | inr l ↦ let some = counted_within most total l in absurd (cc) ]

-- So many rings there are, and they can be told.
counted_is : (rings : Option ℕ) (total told : ℕ) → rings ≡ counted most total → rings ≡ Some told → (total ≤ most) × (told ≡ total)
counted_is rings total told e some = elim (lt_or_ge most total) [
  | inl l ↦ let none = counted_past most total l in absurd (cc)
  | inr l ↦ let all = counted_within most total l in (l, cc)
]

-- None of 7 to 9 holds.
pub fitting : {c : Compound} {from : ℕ} {out table few out' table' few' rows class_rows : List ℕ} {found : Found} {rings : ℕ}
    → Reports c from out table few found out' table' few' → Fit found (length rows) (length class_rows) rings → Fitting c rows class_rows
fitting {c} {rows = rows} {class_rows} {found} {rings} reports fit =
    record {
      families = omega (arith, fit.families, reports.families);
      classes = omega (arith, fit.classes, reports.classes);
      rings = (counted_is found.rings (report c).rings rings reports.rings fit.rings_are).0;
    }

-- ---- what is delivered

-- The first bytes of what stands over one buffer, copied to another, stand over that.
paste_over : (bytes lent d : List ℕ) (n : ℕ) → length bytes ≡ n → paste d 0 (over bytes lent) n ≡ over bytes d
unfolding over
paste_over bytes lent d n e = rw (take_at bytes (drop (length bytes) lent) n e, zero-add n, e)

families_count : (c : Compound) → length (family_bytes (report c).rows) ≡ 8 * (report c).families
unfolding report report_by
families_count c = length_family_bytes (report c).rows

classes_count : (c : Compound) → length (class_bytes (report c).class_rows) ≡ 5 * (report c).classes
unfolding report report_by
classes_count c = length_class_bytes (report c).class_rows

families_length : (c : Compound) → (report c).families ≡ length (report c).rows
unfolding report report_by
families_length c = refl

zeros : (k : ℕ) → replicate {A = ℕ} k 0 ≡ replicate (length (replicate {A = ℕ} k 0)) 0
zeros k = rw (length-replicate {A = ℕ} k 0)

module _ {c : Compound} {from : ℕ} {rows class_rows sizes rows' class_rows' sizes' : List ℕ} (fits : Fitting c rows class_rows) where
  -- The first run's rows and sizes, copied.
  pub copied_delivered : {found : Found} {out table few : List ℕ} → Reports c from (replicate 128 0) (replicate 40 0) (replicate 16 0) found out table few
      → found.families ≤ 16 → found.classes ≤ 8
      → rows' ≡ paste rows 0 out (8 * found.families) → class_rows' ≡ paste class_rows 0 table (5 * found.classes)
      → ((j : ℕ) → j < length sizes → get_or sizes' j 0 ≡ get_or few j 0)
      → Delivered c from rows class_rows sizes rows' class_rows' sizes'
  copied_delivered {found} {out} {table} {few} first f k a b s =
      let room : (report c).families ≤ length (replicate {A = ℕ} 128 0) / 8 = omega (arith, first.families, length-replicate {A = ℕ} 128 0) in
      let class_room_lem : (report c).classes ≤ length (replicate {A = ℕ} 40 0) / 5 = omega (arith, first.classes, length-replicate {A = ℕ} 40 0) in
      let many : (report c).families ≤ 4096 = omega (arith, first.families) in
      record {
        families =
            a
            ∙ rw (first.families, first.rows room) (paste_over (family_bytes (report c).rows) (replicate 128 0) rows (8 * (report c).families) (families_count c));
        classes =
            b
            ∙ rw (first.classes, first.class_rows many class_room_lem)
            (paste_over (class_bytes (report c).class_rows) (replicate 40 0) class_rows (5 * (report c).classes) (classes_count c));
        sized = λ j h. s j h ∙ size j;
      }
    where
      size : (j : ℕ) → get_or few j 0 ≡ size_of (report c).rows (from + j)
      size j = elim (lt_or_ge j 16) [
        | inl l ↦ first.sized (zeros 16) fits.rings j (omega (arith, l, length-replicate {A = ℕ} 16 0))
        | inr l ↦
            get_or-eq_default few 0 (omega (arith, first.sizes_kept, length-replicate {A = ℕ} 16 0))
            ∙ sym (size_of_past (report c).rows (from + j) (omega (arith, families_length c, first.families)))
      ]

-- ---- the claim

-- The report of the compound.
abbrev reported : ℕ → List ℕ → Report
reported n bonds = report (compound n bonds)

module _ {n : ℕ} {bonds : List ℕ} {from : ℕ} {rows class_rows sizes : List ℕ} where
  -- A refusal, of which the claim holds for every row number.
  answers_refused : (r : Refusal) → ((i : ℕ) → Answered n bonds rows class_rows i (refused (number_of r) (place_of r)) rows class_rows)
      → Answers n bonds from rows class_rows sizes (Err r) rows class_rows sizes
  unfolding told
  answers_refused r claim = record { answered = λ i. (0, claim i); sized = λ j h. claim (from + j); kept = refl }

  -- One of 1 to 6.
  pub answers_input : (r : Refusal) → RefusedBy (compound n bonds) r → Answers n bonds from rows class_rows sizes (Err r) rows class_rows sizes
  answers_input r rightly = answers_refused r (λ i. by_input rightly)

  module _ (accepted : Accepted (compound n bonds)) where
    -- One of 7 to 9, as the engine looks for them.
    pub answers_unfit : {r : Refusal} {found : Found} {out table few out' table' few' : List ℕ}
        → Reports (compound n bonds) from out table few found out' table' few'
        → Unfit found (length rows) (length class_rows) r → Answers n bonds from rows class_rows sizes (Err r) rows class_rows sizes
    answers_unfit reports (few_rows h) =
        answers_refused (FewRows _) (λ i. rw reports.families (by_rows {R = reported n bonds} accepted (report_accepted _ accepted) (omega (arith, h, reports.families))))
    answers_unfit reports (few_class_rows f h) =
        answers_refused (FewClassRows _)
        (λ i.
        rw reports.classes
        (by_class_rows {R = reported n bonds} accepted (report_accepted _ accepted) (omega (arith, f, reports.families)) (omega (arith, h, reports.classes))))
    answers_unfit reports (many_rings f k h) =
        answers_refused ManyRings
        (λ i.
        by_rings {R = reported n bonds} accepted (report_accepted _ accepted) (omega (arith, f, reports.families)) (omega (arith, k, reports.classes))
        (counted_over _ _ reports.rings h))

    -- The full answer.
    pub answers_full : {rows' class_rows' sizes' : List ℕ} {f : Full} {found : Found} {told : ℕ} {out table few out' table' few' : List ℕ}
        → Reports (compound n bonds) from out table few found out' table' few'
        → Fit found (length rows) (length class_rows) told
        → Delivered (compound n bonds) from rows class_rows sizes rows' class_rows' sizes'
        → f ≡ full_of (compound n bonds) found told
        → Answers n bonds from rows class_rows sizes (Ok f) rows' class_rows' sizes'
    unfolding told full_of
    answers_full {rows'} {class_rows'} {sizes'} {f} {found} {told} reports fit delivered is =
        subst (λ (f : Full). Answers n bonds from rows class_rows sizes (Ok f) rows' class_rows' sizes') (sym is)
        (record {
          answered = λ i. (size_of (reported n bonds).rows i, claim i (size_of (reported n bonds).rows i) refl);
          sized = λ j h. claim (from + j) (get_or sizes' j 0) (delivered.sized j h);
          kept = tt;
        })
      where
        right : Right (compound n bonds) (λ a. a) (reported n bonds)
        right = report_accepted (compound n bonds) accepted

        fits : Fitting (compound n bonds) rows class_rows
        fits = fitting reports fit

        rings : told ≡ (reported n bonds).rings
        rings = (counted_is found.rings (reported n bonds).rings told reports.rings fit.rings_are).1

        claim : (i size : ℕ) → size ≡ size_of (reported n bonds).rows i
            → Answered n bonds rows class_rows i
            (full (cyclomatic (compound n bonds)) found.families found.classes found.total told size) rows' class_rows'
        claim i size is =
            rw (is, sym right.cyclomatic_is, reports.families, reports.classes, reports.total, rings, delivered.families, delivered.classes)
            (in_full {R = reported n bonds} accepted right fits.families fits.classes fits.rings)

-- The claim at a row, with its size.
pub answers_at : {n : ℕ} {bonds : List ℕ} {from : ℕ} {rows class_rows sizes rows' class_rows' sizes' : List ℕ} {a : Answer}
    → Answers n bonds from rows class_rows sizes a rows' class_rows' sizes' → (i j : ℕ) → from + j ≡ i → j < length sizes
    → Answered n bonds rows class_rows i (told a (get_or sizes' j 0)) rows' class_rows'
answers_at {n} {bonds} {from} {rows} {class_rows} {sizes} {rows'} {class_rows'} {sizes'} {a} claims i j e h =
    subst (λ (i : ℕ). Answered n bonds rows class_rows i (told a (get_or sizes' j 0)) rows' class_rows') e (claims.sized j h)
