-- A graded basis is minimum: below each length no basis has more members, so the capped totals are no more.
use mathlib.Core.Path.{◌≡◌, refl}
use mathlib.Core.List.{List, [], ◌∷◌, ◌++◌}
use mathlib.Core.Logic.Dec
use Prim.Native.Nat.{ℕ, zero, suc, ◌+◌, ◌<◌, ◌≤◌, min}
use native.Mathlib.Omega.{arith}
use native.Mathlib.Decide.{dec_lt}
use lib.ListN.{length}
use Rattle.spans.specs.Group.{Space}
use Rattle.spans.specs.Basis.{Part, All, Basis}
use Rattle.spans.specs.Graded.{total, below, Graded, Minimum}
use Rattle.spans.proofs.Lists.{part_all, all_map, all_and, Perm, perm_comm}
use Rattle.spans.proofs.Sift.{Sift, sift_step, sift_part, sift_all, sift_perm, sifted}
use Rattle.spans.proofs.Span.{Span}
use Rattle.spans.proofs.Indep.{Indep, by_recursion, indep_part}
use Rattle.spans.proofs.Steinitz.{steinitz, spanned, same_length}

module _ {X : Type 0} (ℓ : X → ℕ) where
  -- How `below k` takes a list apart.
  pub split : (k : ℕ) (xs : List X) → Sift (λ x. ℓ x < k) xs (below ℓ k xs)
  unfolding below
  split k [] = Sift.nil
  split k (x ∷ xs) = sift_step (λ x. ℓ x < k) x (split k xs) (dec_lt (ℓ x) k)

  pub split_part : {k : ℕ} {xs ys : List X} → Sift (λ x. ℓ x < k) xs ys → Part xs ys
  split_part s = sift_part _ s

  pub split_low : {k : ℕ} {xs ys : List X} → Sift (λ x. ℓ x < k) xs ys → All (λ x. ℓ x < k) ys
  split_low s = sift_all _ s

  -- The other members: those that are not shorter than k.
  pub record Long (k : ℕ) (xs ys : List X) : Type 0 where
    pub long : List X
    pub perm : Perm xs (long ++ ys)
    pub high : All (λ x. ¬ (ℓ x < k)) long

  pub split_long : {k : ℕ} {xs ys : List X} → Sift (λ x. ℓ x < k) xs ys → Long k xs ys
  split_long {k} {xs} {ys} s =
      let t = sifted (λ x. ¬ (ℓ x < k)) (λ x. Dec.not (dec_lt (ℓ x) k)) xs in
      record { long = _; perm = Perm.trans (sift_perm s t) (perm_comm ys _); high = sift_all _ t }

  pub total_perm : {xs ys : List X} → Perm xs ys → total ℓ xs ≡ total ℓ ys
  unfolding total
  total_perm Perm.nil = refl
  total_perm (Perm.cons p) = omega (arith, total_perm p)
  total_perm Perm.swap = omega arith
  total_perm (Perm.trans p q) = omega (arith, total_perm p, total_perm q)

  -- The total of the lengths, each cut at n.
  capped : ℕ → List X → ℕ
  capped n [] = 0
  capped n (x ∷ xs) = min (ℓ x) n + capped n xs

  capped_suc : {k : ℕ} {xs ys : List X} → Sift (λ x. ℓ x < suc k) xs ys → capped (suc k) xs + length ys ≡ capped k xs + length xs
  unfolding capped
  capped_suc Sift.nil = refl
  capped_suc (Sift.inn p s) = omega (arith, capped_suc s)
  capped_suc (Sift.out p s) = omega (arith, capped_suc s)

  capped_zero : (xs : List X) → capped 0 xs ≡ 0
  unfolding capped
  capped_zero [] = refl
  capped_zero (x ∷ xs) = omega (arith, capped_zero xs)

  capped_all : (n : ℕ) (xs : List X) → total ℓ xs ≤ n → capped n xs ≡ total ℓ xs
  unfolding capped total
  capped_all n [] h = refl
  capped_all n (x ∷ xs) h = let r = capped_all n xs (omega arith) in omega arith

module _ {X : Type 0} (G : Space X) (ℓ : X → ℕ) (W : X → Type 0) where
  pub below_indep : {C : List X} → Basis G W C → (k : ℕ) → Indep G (below ℓ k C)
  below_indep {C} c k = indep_part G (split_part ℓ (split ℓ k C)) (by_recursion G C c.independent)

  pub below_inside : {B C : List X} → Graded G ℓ W B → Basis G W C → (k : ℕ) → All (Span G (below ℓ k B)) (below ℓ k C)
  below_inside {C} g c k =
      all_map (spanned G (g.spans k)) (all_and (part_all (split_part ℓ (split ℓ k C)) c.inside) (split_low ℓ (split ℓ k C)))

  module _ (B C : List X) (b : Basis G W B) (c : Basis G W C) (g : Graded G ℓ W B) where
    below_length_le : (k : ℕ) → length (below ℓ k C) ≤ length (below ℓ k B)
    below_length_le k = steinitz G (below_indep c k) (below_inside g c k)

    capped_le : (n : ℕ) → capped ℓ n B ≤ capped ℓ n C
    capped_le zero = omega (arith, capped_zero ℓ B, capped_zero ℓ C)
    capped_le (suc n) =
        let e = same_length G b c in
        let p = capped_suc ℓ (split ℓ (suc n) B) in
        let q = capped_suc ℓ (split ℓ (suc n) C) in
        omega (arith, capped_le n, below_length_le (suc n))

    total_le : total ℓ B ≤ total ℓ C
    total_le =
        let n = total ℓ B + total ℓ C in
        omega (arith, capped_le n, capped_all ℓ n B (omega arith), capped_all ℓ n C (omega arith))

  pub graded_minimum : {B : List X} → Basis G W B → Graded G ℓ W B → Minimum G ℓ W B
  graded_minimum {B} b g = record { basis = b; least = λ C c. total_le B C b c g }
