-- Rule 2 by keys: two rings of one length are near exactly if their expansions over a minimum basis have the same members of that length.
use mathlib.Core.Path.{◌≡◌, sym, ◌∙◌, ap₂, subst}
use mathlib.Core.List.{List}
use mathlib.Core.Logic.Dec
use mathlib.Core.Logic.{◌↔◌}
use Prim.Native.Nat.{ℕ, suc, ◌<◌}
use native.Mathlib.Omega.{arith}
use native.Mathlib.Decide.{dec_lt}
use lib.Bits.{bit_xor}
use Rattle.spans.specs.Basis.{Part, All, Sum}
use Rattle.spans.proofs.Lists.{part_all, part_trans}
use Rattle.spans.proofs.Sift.{Sift, sift, sifted}
use Rattle.spans.proofs.Span.{at}
use Rattle.spans.proofs.Indep.{by_recursion, part_unique}
use Rattle.spans.proofs.Graded.{split, split_part, split_low}
use Rattle.spans.proofs.Profile.{exact, exact_sift}
use Rattle.spans.proofs.Minimum.{minimum_graded}
use Rattle.spans.proofs.Agree.{agree_spans, spans_agree}
use Rattle.bondset.proofs.Group.{bond_sets}
use Rattle.cycles.specs.Compound.{Compound, Sound}
use Rattle.cycles.specs.Ring.{len, Closed, Relevant}
use Rattle.cycles.specs.Basis.{Minimum}
use Rattle.cycles.specs.Rows.{Report, Right}
use Rattle.cycles.specs.Near.{Near}
use Rattle.cycles.proofs.Bases.{marked_minimum}
use Rattle.cycles.proofs.Near.{near_span, span_near}

-- ---- the members of one length
module _ {X : Type 0} (ℓ : X → ℕ) where
  -- Of members that are not longer than k those of length k are those that are not shorter.
  exact_high : {k : ℕ} {xs ys : List X} → All (λ x. ℓ x < suc k) xs → Sift (λ x. ℓ x ≡ k) xs ys → Sift (λ x. ¬ (ℓ x < k)) xs ys
  exact_high All.nil Sift.nil = Sift.nil
  exact_high {k} (All.cons h a) (Sift.inn {x = x} e s) = let n : ¬ (ℓ x < k) = λ (l : ℓ x < k). omega arith in Sift.inn n (exact_high a s)
  exact_high {k} (All.cons h a) (Sift.out {x = x} n s) = let l : ℓ x < k = omega arith in Sift.out (λ m. m l) (exact_high a s)

  -- The members that are not shorter than k.
  high_sift : (k : ℕ) (xs : List X) → Sift (λ x. ¬ (ℓ x < k)) xs (sift (λ x. ¬ (ℓ x < k)) (λ x. Dec.not (dec_lt (ℓ x) k)) xs)
  high_sift k xs = sifted (λ x. ¬ (ℓ x < k)) (λ x. Dec.not (dec_lt (ℓ x) k)) xs

module _ (c : Compound) (sound : Sound c) {B : List ℕ} (minimum : Minimum c B) where
  -- The members of a minimum basis that sum to a closed set are not longer than it.
  pub expansion_no_longer : {C : ℕ} {Cs : List ℕ} → Closed c C → Part B Cs → Sum bond_sets Cs ≡ C → All (λ S. len c S < suc (len c C)) Cs
  expansion_no_longer {C} closed p e =
      let low = split (len c) (suc (len c C)) B in
      let (Es, q, d) = ((minimum_graded bond_sets (len c) (Closed c) minimum).spans (suc (len c C))).part C (closed, omega arith) in
      let same = part_unique bond_sets minimum.basis.independent (part_trans (split_part (len c) low) q) p (d ∙ sym e) in
      subst (All (λ S. len c S < suc (len c C))) same (part_all q (split_low (len c) low))

  module _ {C D : ℕ} {Cs Ds : List ℕ} (closed_c : Closed c C) (closed_d : Closed c D) (long : len c C ≡ len c D) (p : Part B Cs) (q : Part B Ds)
      (sum_c : Sum bond_sets Cs ≡ C) (sum_d : Sum bond_sets Ds ≡ D) where
    high_c : Sift (λ S. ¬ (len c S < len c C)) Cs (exact (len c) (len c C) Cs)
    high_c = exact_high (len c) (expansion_no_longer closed_c p sum_c) (exact_sift (len c) (len c C) Cs)

    high_d : Sift (λ S. ¬ (len c S < len c C)) Ds (exact (len c) (len c C) Ds)
    high_d =
        exact_high (len c) (subst (λ (k : ℕ). All (λ S. len c S < suc k) Ds) (sym long) (expansion_no_longer closed_d q sum_d))
        (exact_sift (len c) (len c C) Ds)

    -- Near exactly if the members of their own length that they are sums of are the same.
    pub near_iff_same_level : Near c C D ↔ (exact (len c) (len c C) Cs ≡ exact (len c) (len c C) Ds)
    unfolding bond_sets
    near_iff_same_level =
        let i = by_recursion bond_sets B minimum.basis.independent in
        let k = len c C in (
          λ s. spans_agree bond_sets i p q (split (len c) k B) (high_sift (len c) k B) (split (len c) k Cs) high_c (split (len c) k Ds) high_d
              (at bond_sets (sym (ap₂ bit_xor sum_c sum_d)) (near_span c sound minimum s)),
          λ e. span_near c sound minimum long
              (at bond_sets (ap₂ bit_xor sum_c sum_d)
              (agree_spans bond_sets i p q (split (len c) k B) (high_sift (len c) k B) (split (len c) k Cs) high_c (split (len c) k Ds) high_d e)),
        )

module _ (c : Compound) (sound : Sound c) (rank : ℕ → ℕ) (injective : (a b : ℕ) → a < c.n → b < c.n → rank a ≡ rank b → a ≡ b)
    {R : Report} (right : Right c rank R) where
  -- Two relevant rings of one length are near exactly if the same marked rings of that length are among those that sum to them.
  pub marked_near_iff_same_level : {C D : ℕ} {Cs Ds : List ℕ} → Relevant c C → Relevant c D → len c C ≡ len c D → Part right.basis Cs
      → Part right.basis Ds → Sum bond_sets Cs ≡ C → Sum bond_sets Ds ≡ D
      → Near c C D ↔ (exact (len c) (len c C) Cs ≡ exact (len c) (len c C) Ds)
  marked_near_iff_same_level r q long p t e d =
      near_iff_same_level c sound (marked_minimum c sound rank injective right) r.ring.closed q.ring.closed long p t e d
