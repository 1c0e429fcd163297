-- Each class has a marked ring, so there are no more classes than marked rings, and at most 82.
use mathlib.Core.Path.{◌≡◌, refl, sym, ◌∙◌, ap, subst}
use mathlib.Core.List.{List, [], ◌∷◌}
use mathlib.Core.Logic.{◌⊎◌, inl, inr}
use Prim.Native.Nat.{ℕ, zero, suc, ◌<◌, ◌≤◌}
use native.Mathlib.Omega.{arith}
use lib.ListN.{length}
use Rattle.spans.specs.Elements.{◌∈◌, Once}
use Rattle.spans.specs.Basis.{Holding}
use Rattle.spans.proofs.Marking.{all_element}
use Rattle.cycles.specs.Compound.{Compound, m, Sound}
use Rattle.cycles.specs.Ring.{Relevant}
use Rattle.cycles.specs.Basis.{Minimum, Interchangeable}
use Rattle.cycles.specs.Rows.{ClassRow, At, Report, Right}
use Rattle.cycles.proofs.PathsDecide.{not_in_none, in_cases}
use Rattle.cycles.proofs.Families.{prototype_member}
use Rattle.cycles.proofs.MembersLists.{once_length_le}
use Rattle.cycles.proofs.Bases.{relevant_in_some_minimum, marked_minimum, marked_relevant}
use Rattle.cycles.proofs.PiecesBases.{basis_few}
use Rattle.cycles.proofs.Swaps.{interchangeable_same_length}
use Rattle.cycles.proofs.Ranks.{in_map, at_exists, InRow, relevant_in_row, same_class_iff, class_row_of, class_rows_length, relative_rank_in_every_minimum}

module _ {X : Type 0} {K : X → Type 0} where
  holding_first : {x : X} {xs : List X} {n : ℕ} → K x → Holding K (x ∷ xs) n → 0 < n
  holding_first k (Holding.inn j h) = omega arith
  holding_first k (Holding.out j h) = absurd (j k)

  holding_some : {xs : List X} {n : ℕ} → 0 < n → Holding K xs n → (x : X) × (x ∈ xs) × K x
  holding_some l Holding.none = absurd (omega arith)
  holding_some l (Holding.inn {x = x} k h) = (x, ◌∈◌.first, k)
  holding_some l (Holding.out k h) = let (x, i, j) = holding_some l h in (x, ◌∈◌.later i, j)

module _ (c : Compound) (sound : Sound c) (rank : ℕ → ℕ) (injective : (a b : ℕ) → a < c.n → b < c.n → rank a ≡ rank b → a ≡ b)
    {R : Report} (right : Right c rank R) where
  -- C is a marked ring, and a member of the family of a row of class g.
  record MarkedOf (g C : ℕ) : Type 0 where
    marked : C ∈ right.basis
    found : InRow c rank R.rows C
    class : found.row.class ≡ g

  marked_of_unique : {g h C : ℕ} → MarkedOf g C → MarkedOf h C → g ≡ h
  marked_of_unique s t =
      sym s.class
      ∙ (same_class_iff c sound rank injective right s.found.listed t.found.listed s.found.member t.found.member).1
      (refl, Interchangeable.same refl)
      ∙ t.class

  module _ {g : ℕ} {t : ClassRow} (a : At R.class_rows g t) where
    -- A row of the class, its prototype, and how many rings interchangeable with that every minimum basis holds.
    record Standing : Type 0 where
      ring : ℕ
      found : InRow c rank R.rows ring
      class : found.row.class ≡ g
      relevant : Relevant c ring
      held : {B : List ℕ} → Minimum c B → Holding (λ D. Interchangeable c D ring) B t.rank

    standing : Standing
    standing =
        let (u, l, e) = class_row_of c sound rank injective right a in
        let k = (right.kept u.family).0 (in_map (λ row. row.family) l) in
        let p = prototype_member c sound rank k.prototype in
        let b = subst (λ (i : ℕ). At R.class_rows i t) (sym e) a in
        record {
          ring = k.ring;
          found = record { row = u; listed = l; member = p };
          class = e;
          relevant = k.relevant;
          held = relative_rank_in_every_minimum c sound rank injective right l p b;
        }

    -- The relative rank of a class is not 0.
    pub class_row_rank_positive : 0 < t.rank
    class_row_rank_positive =
        let s = standing in
        let (others, least) = relevant_in_some_minimum c sound s.relevant in
        holding_first (Interchangeable.same refl) (s.held least)

    class_marked : (C : ℕ) × MarkedOf g C
    class_marked =
        let s = standing in
        let (C, i, like) = holding_some class_row_rank_positive (s.held (marked_minimum c sound rank injective right)) in
        let w = relevant_in_row c sound rank injective right (all_element (marked_relevant c sound rank injective right) i) in
        let e = (same_class_iff c sound rank injective right w.listed s.found.listed w.member s.found.member).1
        (interchangeable_same_length c like, like) in
        (C, record { marked = i; found = w; class = e ∙ s.class })

  -- A marked ring of each of the first k classes.
  record Picked (k : ℕ) : Type 0 where
    rings : List ℕ
    once : Once rings
    count : length rings ≡ k
    of : (C : ℕ) → C ∈ rings → (g : ℕ) × (g < k) × MarkedOf g C

  pick_more : {k C : ℕ} → MarkedOf k C → Picked k → Picked (suc k)
  pick_more {k} {C} t p =
      record {
        rings = C ∷ p.rings;
        once = Once.more (λ i. let (g, h, s) = p.of C i in omega (arith, marked_of_unique s t)) p.once;
        count = ap suc p.count;
        of = λ D i. of_either (in_cases i);
      }
    where
      of_either : {D : ℕ} → (C ≡ D) ⊎ (D ∈ p.rings) → (g : ℕ) × (g < suc k) × MarkedOf g D
      of_either (inl e) = (k, omega arith, subst (MarkedOf k) e t)
      of_either {D} (inr i) = let (g, h, s) = p.of D i in (g, omega arith, s)

  picked : (k : ℕ) → k ≤ R.classes → Picked k
  picked zero h = record { rings = []; once = Once.none; count = refl; of = λ C i. absurd (not_in_none i) }
  picked (suc k) h =
      let (t, a) = at_exists R.class_rows k (omega (arith, class_rows_length c sound rank injective right)) in
      pick_more (class_marked a).1 (picked k (omega arith))

  -- There are no more classes than marked rings.
  pub classes_le_marked : R.classes ≤ length right.basis
  classes_le_marked =
      let p = picked R.classes (omega arith) in
      omega (arith, p.count, once_length_le p.once (λ C i. (p.of C i).2.marked))

  -- At most 82 prototypes are marked, in however many pieces the compound is.
  pub marked_few : m c ≤ 96 → length right.basis ≤ 82
  marked_few few = basis_few c sound few (marked_minimum c sound rank injective right).basis

  -- "There are at most 82 classes, since 96 bonds on fewer than 15 atoms can't be had."
  pub classes_few : m c ≤ 96 → R.classes ≤ 82
  classes_few few = omega (arith, classes_le_marked, marked_few few)
