-- The classes of rule 2: their numbers, the rings that they hold, and how they lie in the classes of rule 1.
use mathlib.Core.Path.{◌≡◌, refl, sym, ◌∙◌, ap, ap₂, subst}
use mathlib.Core.Bool.{Bool, cond}
use mathlib.Core.List.{List, [], ◌∷◌, ◌++◌, map}
use mathlib.Core.Logic.{◌↔◌, ◌⊎◌, inl, inr, ⊎_elim}
use Prim.Native.Nat.{ℕ, suc, ◌+◌, ◌<◌}
use native.Mathlib.Nat.{zero-add}
use native.Mathlib.Decide.{map_dec, ℕ_discrete}
use borrow.Author.Tests.{eq-eqb, ne_eqb}
use lib.ListN.{length, length-append}
use Rattle.spans.specs.Elements.{◌∈◌, Once}
use Rattle.spans.specs.Basis.{All}
use Rattle.spans.proofs.Lists.{all_map, in_left, in_right, in_append}
use Rattle.cycles.specs.Compound.{Compound, Sound}
use Rattle.cycles.specs.Ring.{Relevant}
use Rattle.cycles.specs.Basis.{Minimum, Interchangeable}
use Rattle.cycles.specs.Family.{Family, Prototype, Member, Kept, Size}
use Rattle.cycles.specs.Rows.{Row, At, Ascending, Report, Right}
use Rattle.cycles.specs.Near.{Near, NearFamilies, NearClassRow, near_class_rows, RightNear, sizes_of}
use Rattle.cycles.proofs.PathsDecide.{not_in_none}
use Rattle.cycles.proofs.Families.{prototype_member, prototype_unique}
use Rattle.cycles.proofs.MembersLists.{once_append}
use Rattle.cycles.proofs.MembersCorners.{member_family}
use Rattle.cycles.proofs.Bases.{ascending_rest}
use Rattle.cycles.proofs.Ranks.{in_map, at_element, at_unique, element_at, all_each, relevant_in_row, same_class_iff}
use Rattle.cycles.proofs.Swaps.{interchangeable_same_length}
use Rattle.cycles.proofs.Unique.{ascending_fresh}
use Rattle.cycles.proofs.OneRow.{at_map, row_member_relevant}
use Rattle.cycles.proofs.Near.{near_refl, near_sym, near_trans, near_dec, near_same_class, minimum_near_once}
use Rattle.cycles.proofs.NearRows.{members_near_iff}
use Rattle.cycles.proofs.NearNumbers.{numbered_at, same_number_iff, numbered_unique, numbered_exists}

-- So many numbers have P: a list of them all, each once.
pub record Counted (n : ℕ) (P : ℕ → Type 0) : Type 0 where
  pub listed : List ℕ
  pub once : Once listed
  pub all : (C : ℕ) → (C ∈ listed) ↔ P C
  pub count : length listed ≡ n

-- As many have what is the same.
pub counted_iff : {n : ℕ} {P Q : ℕ → Type 0} → ((C : ℕ) → P C ↔ Q C) → Counted n P → Counted n Q
counted_iff f t =
    record { listed = t.listed; once = t.once; all = λ C. (λ h. (f C).0 ((t.all C).0 h), λ q. (t.all C).1 ((f C).1 q)); count = t.count }

at_none : {X : Type 0} {i : ℕ} {x : X} → At [] i x → ⊥
at_none = elim [ ]

sizes_of_in : (k j : ℕ) (numbers : List ℕ) (row : Row) (rows : List Row) → j ≡ k → sizes_of k (j ∷ numbers) (row ∷ rows) ≡ row.size + sizes_of k numbers rows
unfolding sizes_of
sizes_of_in k j numbers row rows e = ap (λ (b : Bool). cond b row.size 0 + sizes_of k numbers rows) (eq-eqb j k e)

sizes_of_out : (k j : ℕ) (numbers : List ℕ) (row : Row) (rows : List Row) → (j ≡ k → ⊥) → sizes_of k (j ∷ numbers) (row ∷ rows) ≡ sizes_of k numbers rows
unfolding sizes_of
sizes_of_out k j numbers row rows n = ap (λ (b : Bool). cond b row.size 0 + sizes_of k numbers rows) (ne_eqb j k n) ∙ zero-add (sizes_of k numbers rows)

sizes_of_nothing : (k : ℕ) (rows : List Row) → sizes_of k [] rows ≡ 0
unfolding sizes_of
sizes_of_nothing k rows = refl

sizes_of_none : (k : ℕ) (numbers : List ℕ) → sizes_of k numbers [] ≡ 0
unfolding sizes_of
sizes_of_none k [] = refl
sizes_of_none k (j ∷ numbers) = refl

module _ (c : Compound) (rank : ℕ → ℕ) where
  -- C is a member of the family of a row with number k.
  pub record InNumber (k : ℕ) (numbers : List ℕ) (rows : List Row) (C : ℕ) : Type 0 where
    pub place : ℕ
    pub row : Row
    pub at : At rows place row
    pub number : At numbers place k
    pub member : Member c rank row.family C

  in_number_first : {k : ℕ} {numbers : List ℕ} {row : Row} {rows : List Row} {C j : ℕ} → j ≡ k → Member c rank row.family C
      → InNumber k (j ∷ numbers) (row ∷ rows) C
  in_number_first {k} {numbers} {row} {j = j} e m =
      record { place = 0; row = row; at = At.here; number = subst (λ (i : ℕ). At (j ∷ numbers) 0 i) e At.here; member = m }

  in_number_later : {k : ℕ} {numbers : List ℕ} {row : Row} {rows : List Row} {C j : ℕ} → InNumber k numbers rows C → InNumber k (j ∷ numbers) (row ∷ rows) C
  in_number_later w = record { place = suc w.place; row = w.row; at = At.later w.at; number = At.later w.number; member = w.member }

  in_number_cases : {k : ℕ} {numbers : List ℕ} {row : Row} {rows : List Row} {C i j : ℕ} {u : Row} → At (row ∷ rows) i u → At (j ∷ numbers) i k
      → Member c rank u.family C → ((j ≡ k) × Member c rank row.family C) ⊎ InNumber k numbers rows C
  in_number_cases At.here At.here m = inl (refl, m)
  in_number_cases (At.later a) (At.later b) m = inr (record { place = _; row = _; at = a; number = b; member = m })

module _ (c : Compound) (sound : Sound c) (rank : ℕ → ℕ) where
  number_apart : {f : Family} {k : ℕ} {numbers : List ℕ} {rows : List Row} {C : ℕ} → Ascending (f ∷ map (λ row. row.family) rows) → Member c rank f C
      → InNumber c rank k numbers rows C → ⊥
  number_apart {rows = rows} a m w =
      ascending_fresh a
      (subst (λ (f : Family). f ∈ map (λ row. row.family) rows) (member_family c sound rank w.member m)
      (in_map (λ row. row.family) (at_element w.at)))

  -- The rings of the rows with number k are as many as the sum of their sizes.
  pub number_rings : (k : ℕ) (numbers : List ℕ) {rows : List Row} → All (λ row. Size c rank row.family row.size) rows
      → Ascending (map (λ row. row.family) rows) → Counted (sizes_of k numbers rows) (InNumber c rank k numbers rows)
  number_rings k numbers All.nil a =
      record { listed = []; once = Once.none; all = λ C. (λ h. absurd (not_in_none h), λ w. absurd (at_none w.at)); count = sym (sizes_of_none k numbers) }
  number_rings k [] (All.cons s ss) a =
      record { listed = []; once = Once.none; all = λ C. (λ h. absurd (not_in_none h), λ w. absurd (at_none w.number)); count = sym (sizes_of_nothing k _) }
  number_rings k (j ∷ numbers) (All.cons {x = row} {xs = rows} s ss) a = go (ℕ_discrete j k) (number_rings k numbers ss (ascending_rest a))
    where
      go : Dec (j ≡ k) → Counted (sizes_of k numbers rows) (InNumber c rank k numbers rows)
          → Counted (sizes_of k (j ∷ numbers) (row ∷ rows)) (InNumber c rank k (j ∷ numbers) (row ∷ rows))
      go (yes e) t =
          record {
            listed = s.members ++ t.listed;
            once = once_append s.once t.once (λ C h l. number_apart a ((s.all C).0 h) ((t.all C).0 l));
            all = λ C. (
              λ h. ⊎_elim (λ l. in_number_first c rank e ((s.all C).0 l)) (λ l. in_number_later c rank ((t.all C).0 l)) (in_append s.members t.listed h),
              λ w. ⊎_elim (λ p. in_left t.listed ((s.all C).1 p.1)) (λ v. in_right s.members ((t.all C).1 v))
                  (in_number_cases c rank w.at w.number w.member),
            );
            count = length-append s.members t.listed ∙ ap₂ ◌+◌ s.count t.count ∙ sym (sizes_of_in k j numbers row rows e);
          }
      go (no n) t =
          record {
            listed = t.listed;
            once = t.once;
            all = λ C. (
              λ h. in_number_later c rank ((t.all C).0 h),
              λ w. ⊎_elim (λ p. absurd (n p.0)) (λ v. (t.all C).1 v) (in_number_cases c rank w.at w.number w.member),
            );
            count = t.count ∙ sym (sizes_of_out k j numbers row rows n);
          }

  -- ---- what puts families together
  -- Families are put together exactly if their members are near.
  pub near_families : {f g : Family} {C D S T : ℕ} → Prototype c rank f S → Prototype c rank g T → Member c rank f C → Member c rank g D
      → NearFamilies c rank f g ↔ Near c C D
  near_families {f} {g} {C} {D} {S} {T} p q a b =
      (to, λ n. record { C = S; D = T; prototype_c = p; prototype_d = q; near = (members_near_iff c sound rank a b p q).0 n })
    where
      to : NearFamilies c rank f g → Near c C D
      to n = (members_near_iff c sound rank a b n.prototype_c n.prototype_d).1 n.near

  -- The relation between rows.
  abbrev NearRows : Row → Row → Type 0
  NearRows u v = NearFamilies c rank u.family v.family

  near_rows_sym : (u v : Row) → NearRows u v → NearRows v u
  near_rows_sym u v n = record { C = n.D; D = n.C; prototype_c = n.prototype_d; prototype_d = n.prototype_c; near = near_sym c n.near }

  near_rows_trans : (u v w : Row) → NearRows u v → NearRows v w → NearRows u w
  near_rows_trans u v w n m =
      record {
        C = n.C;
        D = m.D;
        prototype_c = n.prototype_c;
        prototype_d = m.prototype_d;
        near = near_trans c n.near
            (subst (λ (X : ℕ). Near c X m.D) (prototype_unique c sound rank m.prototype_c n.prototype_d) m.near);
      }

  near_rows_refl : (u : Row) → Kept c rank u.family → NearRows u u
  near_rows_refl u k = record { C = k.ring; D = k.ring; prototype_c = k.prototype; prototype_d = k.prototype; near = near_refl c k.ring }

  near_rows_dec : (u v : Row) → Kept c rank u.family → Kept c rank v.family → Dec (NearRows u v)
  near_rows_dec u v k l =
      let w = near_families k.prototype l.prototype (prototype_member c sound rank k.prototype) (prototype_member c sound rank l.prototype) in
      map_dec w.1 w.0 (near_dec c sound k.ring l.ring)

  -- Numbers and class rows of rule 2 are one.
  pub right_near_unique : {R : Report} {numbers others : List ℕ} {classes classes' : List NearClassRow} → RightNear c rank R numbers classes
      → RightNear c rank R others classes' → (numbers ≡ others) × (classes ≡ classes')
  right_near_unique {R} s t =
      let (e, f) = numbered_unique NearRows near_rows_sym near_rows_trans s.classed t.classed in
      (e, s.classes_are ∙ ap₂ (λ (ns : List ℕ) (us : List Row). near_class_rows R.rows ns 0 us) e f ∙ sym t.classes_are)

  module _ (injective : (a b : ℕ) → a < c.n → b < c.n → rank a ≡ rank b → a ≡ b) {R : Report} (right : Right c rank R) where
    kept : All (λ row. Kept c rank row.family) R.rows
    kept = all_each R.rows (λ row i. (right.kept row.family).0 (in_map (λ row. row.family) i))

    row_kept : {i : ℕ} {u : Row} → At R.rows i u → Kept c rank u.family
    row_kept {u = u} a = (right.kept u.family).0 (in_map (λ row. row.family) (at_element a))

    -- A right report has them.
    pub right_near_exists : (numbers : List ℕ) × (classes : List NearClassRow) × RightNear c rank R numbers classes
    right_near_exists =
        let (numbers, firsts, n) = numbered_exists NearRows {P = λ row. Kept c rank row.family} near_rows_dec [] R.rows All.nil kept in
        (numbers, near_class_rows R.rows numbers 0 firsts, record { firsts = firsts; classed = n; classes_are = refl })

    module _ {numbers : List ℕ} {classes : List NearClassRow} (near : RightNear c rank R numbers classes) where
      -- Two rings are in one class of rule 2 exactly if they are near.
      pub rule2_iff_near : {i j k l C D : ℕ} {u v : Row} → At R.rows i u → At numbers i k → At R.rows j v → At numbers j l
          → Member c rank u.family C → Member c rank v.family D → (k ≡ l) ↔ Near c C D
      rule2_iff_near a p b q m n =
          let same = same_number_iff NearRows near_rows_sym near_rows_trans (all_map near_rows_refl kept) near.classed a p b q in
          let both = near_families (row_kept a).prototype (row_kept b).prototype m n in
          (λ e. both.0 (same.0 e), λ s. same.1 (both.1 s))

      -- "each rule 2 class lies within one rule 1 class."
      pub rule2_within_rule1 : {i j k : ℕ} {u v : Row} → At R.rows i u → At numbers i k → At R.rows j v → At numbers j k → u.class ≡ v.class
      rule2_within_rule1 a p b q =
          let k = row_kept a in
          let l = row_kept b in
          let m = prototype_member c sound rank k.prototype in
          let n = prototype_member c sound rank l.prototype in
          near_same_class c sound rank injective right (at_element a) (at_element b) k.relevant l.relevant m n ((rule2_iff_near a p b q m n).0 refl)

      -- "no minimum basis holds two rings of it."
      pub rule2_minimum_once : {B : List ℕ} {i j k x y C D : ℕ} {u v : Row} → Minimum c B → At B x C → At B y D → At R.rows i u → At numbers i k
          → At R.rows j v → At numbers j k → Member c rank u.family C → Member c rank v.family D → x ≡ y
      rule2_minimum_once minimum s t a p b q m n = minimum_near_once c sound minimum s t ((rule2_iff_near a p b q m n).0 refl)

      -- "counts its own rings": the sizes of the rows with the number of C add up to the number of the relevant rings near C.
      pub rule2_rings : {i k C : ℕ} {u : Row} → At R.rows i u → At numbers i k → Member c rank u.family C
          → Counted (sizes_of k numbers R.rows) (λ D. Relevant c D × Near c C D)
      rule2_rings {k = k} {C = C} a p m = counted_iff (λ D. (to D, λ n. back D n.0 n.1)) (number_rings k numbers right.sized right.ordered)
        where
          to : (D : ℕ) → InNumber c rank k numbers R.rows D → Relevant c D × Near c C D
          to D w =
              (row_member_relevant c sound rank right (at_element w.at) w.member, (rule2_iff_near a p w.at w.number m w.member).0 refl)

          back : (D : ℕ) → Relevant c D → Near c C D → InNumber c rank k numbers R.rows D
          back D r n =
              let w = relevant_in_row c sound rank injective right r in
              let (j, b) = element_at w.listed in
              let (l, q) = numbered_at near.classed b in
              record {
                place = j;
                row = w.row;
                at = b;
                number = subst (At numbers j) (sym ((rule2_iff_near a p b q m w.member).1 n)) q;
                member = w.member;
              }

    -- The same of rule 1: the sizes of the rows of the class of C add up to the number of the relevant rings interchangeable with C.
    pub rule1_rings : {C : ℕ} {u : Row} → u ∈ R.rows → Member c rank u.family C
        → Counted (sizes_of u.class (map (λ row. row.class) R.rows) R.rows) (λ D. Relevant c D × Interchangeable c C D)
    rule1_rings {C} {u} i m = counted_iff (λ D. (to D, λ n. back D n.0 n.1)) (number_rings u.class classes right.sized right.ordered)
      where
        classes : List ℕ
        classes = map (λ row. row.class) R.rows

        to : (D : ℕ) → InNumber c rank u.class classes R.rows D → Relevant c D × Interchangeable c C D
        to D w =
            let e : u.class ≡ w.row.class = at_unique w.number (at_map (λ row. row.class) w.at) in (
              row_member_relevant c sound rank right (at_element w.at) w.member,
              ((same_class_iff c sound rank injective right i (at_element w.at) m w.member).0 e).1,
            )

        back : (D : ℕ) → Relevant c D → Interchangeable c C D → InNumber c rank u.class classes R.rows D
        back D r n =
            let w = relevant_in_row c sound rank injective right r in
            let (j, b) = element_at w.listed in
            let e = (same_class_iff c sound rank injective right i w.listed m w.member).1 (interchangeable_same_length c n, n) in
            record { place = j; row = w.row; at = b; number = subst (At classes j) (sym e) (at_map (λ row. row.class) b); member = w.member }
