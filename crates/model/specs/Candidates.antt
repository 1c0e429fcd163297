-- The candidates of a length and a top atom as one list, in the order of the rows.
use Rattle.std.specs.Prelude.{cond, List, [], ◌∷◌, ℕ, ◌%◌, eqb}
use Rattle.std.specs.Int.Bits.{bit_and}
use Rattle.bondset.specs.Sets.{members}
use Rattle.cycles.specs.Family.{Family}
use Rattle.model.specs.Fold.{each}
use Rattle.model.specs.Net.{Net, nbrs}
use Rattle.model.specs.Loops.{above, fam}

module _ (G : Net) (k r : ℕ) where
  -- All q of a set, with p.
  unfoldable pub pairs : ℕ → ℕ → ℕ → List Family
  pairs x p qs = each (λ q. fam k r x p q ∷ []) (members 64 qs)

  -- Odd: p and q in one layer, bonded.
  unfoldable pub odds : ℕ → List Family
  odds u = each (λ p. pairs 255 p (bit_and (above u p) (nbrs G p))) (members 64 u)

  -- Two of a set, with x.
  unfoldable pub tips : ℕ → ℕ → List Family
  tips x ps = each (λ p. pairs x p (above ps p)) (members 64 ps)

  -- Even: p and q in the layer before that of x, both bonded to x.
  unfoldable pub evens : ℕ → ℕ → List Family
  evens u below = each (λ x. tips x (bit_and (nbrs G x) below)) (members 64 u)

  -- All candidates of length k with top atom r, from the layers k / 2 and the one before.
  unfoldable pub found : ℕ → ℕ → List Family
  found u below = cond (eqb (k % 2) 1) (odds u) (evens u below)
