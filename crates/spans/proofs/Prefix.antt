-- In a list that rises in length the members shorter than k stand in front of the others.
use mathlib.Core.Path.{◌≡◌, refl, ap}
use mathlib.Core.List.{List, [], ◌∷◌}
use Prim.Native.Nat.{ℕ, ◌<◌, ◌≤◌}
use native.Mathlib.Omega.{arith}
use lib.ListN.{length, take}
use Rattle.spans.specs.Basis.{Part, All}
use Rattle.spans.specs.Graded.{below}
use Rattle.spans.proofs.Lists.{part_all, all_map}
use Rattle.spans.proofs.Sift.{Sift}
use Rattle.spans.proofs.Graded.{split}
use Rattle.spans.proofs.Marking.{Rising}

module _ {X : Type 0} (ℓ : X → ℕ) where
  -- A part of a rising list rises.
  pub rising_part : {xs ys : List X} → Part xs ys → Rising ℓ xs → Rising ℓ ys
  rising_part Part.nil r = r
  rising_part (Part.keep p) (Rising.cons h r) = Rising.cons (part_all p h) (rising_part p r)
  rising_part (Part.skip p) (Rising.cons h r) = rising_part p r

  sift_none : {k : ℕ} {xs ys : List X} → All (λ x. k ≤ ℓ x) xs → Sift (λ x. ℓ x < k) xs ys → ys ≡ []
  sift_none All.nil Sift.nil = refl
  sift_none (All.cons h a) (Sift.inn l s) = absurd (omega arith)
  sift_none (All.cons h a) (Sift.out n s) = sift_none a s

  sift_front : {k : ℕ} {xs ys : List X} → Rising ℓ xs → Sift (λ x. ℓ x < k) xs ys → take (length ys) xs ≡ ys
  sift_front Rising.nil Sift.nil = refl
  sift_front (Rising.cons h r) (Sift.inn {x = x} l s) = ap (λ (zs : List X). x ∷ zs) (sift_front r s)
  sift_front {k} (Rising.cons {x = x} {xs = xs} h r) (Sift.out n s) = none (sift_none (all_map (λ z l. omega arith) h) s)
    where
      none : {ys : List X} → ys ≡ [] → take (length ys) (x ∷ xs) ≡ ys
      none e = rw e refl

  -- The members shorter than k are the first ones.
  pub below_front : (k : ℕ) {xs : List X} → Rising ℓ xs → take (length (below ℓ k xs)) xs ≡ below ℓ k xs
  below_front k {xs} r = sift_front r (split ℓ k xs)
