-- The plain method against a right report: as many rings in all, of each length and in each class as are marked, and the same total.
use mathlib.Core.Path.{◌≡◌, sym, ◌∙◌, subst}
use mathlib.Core.List.{List}
use Prim.Native.Nat.{ℕ, ◌<◌}
use lib.ListN.{length}
use Rattle.spans.specs.Elements.{◌∈◌}
use Rattle.spans.specs.Basis.{Holding}
use Rattle.spans.specs.Graded.{total}
use Rattle.spans.proofs.Sift.{sift_holding}
use Rattle.spans.proofs.Steinitz.{same_length}
use Rattle.spans.proofs.Profile.{exact, exact_sift, minimum_same_length_counts}
use Rattle.bondset.proofs.Group.{bond_sets}
use Rattle.cycles.specs.Compound.{Compound, Sound}
use Rattle.cycles.specs.Ring.{len, Closed}
use Rattle.cycles.specs.Basis.{Minimum}
use Rattle.cycles.specs.Family.{Member}
use Rattle.cycles.specs.Rows.{Row, ClassRow, Report, Right, At}
use Rattle.cycles.specs.Plain.{Plain}
use Rattle.cycles.proofs.Families.{prototype_member}
use Rattle.cycles.proofs.Bases.{marked_minimum, marked_total}
use Rattle.cycles.proofs.Swaps.{interchangeable_sym, interchangeable_same_length, interchangeable_relevant}
use Rattle.cycles.proofs.Ranks.{in_map, holding_iff, relevant_in_row, same_class_iff, class_row_of, relative_rank_in_every_minimum}
use Rattle.cycles.proofs.PlainBasis.{plain_minimum}

-- Both lists have so many members with K.
pub record SameNumber (K : ℕ → Type 0) (A B : List ℕ) : Type 0 where
  pub number : ℕ
  pub first : Holding K A number
  pub second : Holding K B number

-- Two minimum bases have as many rings of each length.
pub minimum_same_lengths : (c : Compound) {A B : List ℕ} → Minimum c A → Minimum c B → (k : ℕ) → SameNumber (λ C. len c C ≡ k) A B
minimum_same_lengths c {A} {B} a b k =
    record {
      number = length (exact (len c) k A);
      first = sift_holding (λ C. len c C ≡ k) (exact_sift (len c) k A);
      second = subst (Holding (λ C. len c C ≡ k) B) (minimum_same_length_counts bond_sets (len c) (Closed c) b a k)
          (sift_holding (λ C. len c C ≡ k) (exact_sift (len c) k B));
    }

module _ (c : Compound) (rank : ℕ → ℕ) where
  -- C is a member of the family of a row of class g.
  pub record InClass (rows : List Row) (g C : ℕ) : Type 0 where
    pub row : Row
    pub listed : row ∈ rows
    pub class : row.class ≡ g
    pub member : Member c rank row.family C

module _ (c : Compound) (sound : Sound c) (rank : ℕ → ℕ) (injective : (a b : ℕ) → a < c.n → b < c.n → rank a ≡ rank b → a ≡ b) {R : Report}
    (right : Right c rank R) where
  -- Any minimum basis holds of the rings of class g exactly as many as the row of the class says.
  pub class_rank_in_every_minimum : {g : ℕ} {t : ClassRow} {B : List ℕ} → At R.class_rows g t → Minimum c B
      → Holding (InClass c rank R.rows g) B t.rank
  class_rank_in_every_minimum {g} {t} {B} at b = go (class_row_of c sound rank injective right at)
    where
      go : (u : Row) × (u ∈ R.rows) × (u.class ≡ g) → Holding (InClass c rank R.rows g) B t.rank
      go (u, l, e) =
          let kept = (right.kept u.family).0 (in_map (λ row. row.family) l) in
          let m = prototype_member c sound rank kept.prototype in
          holding_iff
          (λ D s.
          let w = relevant_in_row c sound rank injective right (interchangeable_relevant c sound (interchangeable_sym c s) kept.relevant) in
          let d = (same_class_iff c sound rank injective right w.listed l w.member m).1 (interchangeable_same_length c s, s) in
          record { row = w.row; listed = w.listed; class = d ∙ e; member = w.member })
          (λ D w. ((same_class_iff c sound rank injective right w.listed l w.member m).0 (w.class ∙ sym e)).1)
          (relative_rank_in_every_minimum c sound rank injective right l m (subst (λ (i : ℕ). At R.class_rows i t) (sym e) at) b)

  module _ {chosen : List ℕ} (plain : Plain c chosen) where
    basis_minimum : Minimum c right.basis
    basis_minimum = marked_minimum c sound rank injective right

    -- As many rings are chosen as are marked.
    pub plain_same_number : length chosen ≡ length right.basis
    plain_same_number = same_length bond_sets (plain_minimum c sound plain).basis basis_minimum.basis

    -- "The same number of rings of each length as the marked one".
    pub plain_same_lengths : (k : ℕ) → SameNumber (λ C. len c C ≡ k) chosen right.basis
    plain_same_lengths k = minimum_same_lengths c (plain_minimum c sound plain) basis_minimum k

    -- "The same total".
    pub plain_same_total : total (len c) chosen ≡ R.total
    plain_same_total = sym (marked_total c sound rank injective right (plain_minimum c sound plain))

    -- "The same number in each class": it is the relative rank.
    pub plain_class_rank : {g : ℕ} {t : ClassRow} → At R.class_rows g t → Holding (InClass c rank R.rows g) chosen t.rank
    plain_class_rank at = class_rank_in_every_minimum at (plain_minimum c sound plain)

    -- .. and as many are marked.
    pub plain_same_in_class : {g : ℕ} {t : ClassRow} → At R.class_rows g t → SameNumber (InClass c rank R.rows g) chosen right.basis
    plain_same_in_class {t} at =
        record { number = t.rank; first = plain_class_rank at; second = class_rank_in_every_minimum at basis_minimum }
