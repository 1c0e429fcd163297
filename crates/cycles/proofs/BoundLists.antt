-- Lists to count with: numbers below a bound, all pairs, the two parts of a list by a decision, and what elements bring along.
use mathlib.Core.Path.{◌≡◌, refl, sym, ap, ◌∙◌, subst}
use mathlib.Core.List.{List, [], ◌∷◌, ◌++◌, map}
use mathlib.Core.Logic.{inl, inr, ⊎_elim}
use Prim.Native.Nat.{ℕ, zero, suc, ◌+◌, ◌*◌, ◌<◌, ◌≤◌}
use native.Mathlib.Nat.{zero-mul, suc-mul}
use native.Mathlib.Omega.{arith}
use lib.ListN.{length, length-append, length-map}
use Rattle.bondset.proofs.Laws.{lt_or_ge}
use Rattle.spans.specs.Elements.{◌∈◌}
use Rattle.spans.proofs.Lists.{in_left, in_right, in_append}
use Rattle.spans.proofs.Sift.{Sift}
use Rattle.cycles.proofs.PathsDecide.{not_in_none}
use Rattle.cycles.proofs.Few.{pairs}
use Rattle.cycles.proofs.Ranks.{in_map}

-- The numbers below n.
unfoldable pub numbers : ℕ → List ℕ
numbers zero = []
numbers (suc n) = n ∷ numbers n

-- There are n numbers below n.
pub numbers_length : (n : ℕ) → length (numbers n) ≡ n
unfolding numbers
numbers_length zero = refl
numbers_length (suc n) = ap suc (numbers_length n)

-- Each number below n is among them.
pub in_numbers : (a n : ℕ) → a < n → a ∈ numbers n
unfolding numbers
in_numbers a zero h = absurd (omega arith)
in_numbers a (suc n) h =
    ⊎_elim
    (λ (l : a < n). ◌∈◌.later (in_numbers a n l))
    (λ (l : n ≤ a). let e : a ≡ n = omega arith in subst (λ (x : ℕ). a ∈ (x ∷ numbers n)) e ◌∈◌.first)
    (lt_or_ge a n)

module _ {A B X : Type 0} (make : A → B → X) where
  -- What each element of one list makes with each of another.
  unfoldable pub both : List A → List B → List X
  both [] bs = []
  both (a ∷ rest) bs = map (make a) bs ++ both rest bs

  -- There are as many as pairs.
  pub both_length : (xs : List A) (bs : List B) → length (both xs bs) ≡ length xs * length bs
  unfolding both
  both_length [] bs = sym (zero-mul (length bs))
  both_length (a ∷ xs) bs =
      length-append (map (make a) bs) (both xs bs) ∙ omega (arith, length-map bs (make a), both_length xs bs, suc-mul (length xs) (length bs))

  pub in_both : {a : A} {b : B} {xs : List A} {bs : List B} → a ∈ xs → b ∈ bs → make a b ∈ both xs bs
  unfolding both
  in_both {a} {bs = bs} (◌∈◌.first {xs = xs}) h = in_left (both xs bs) (in_map (make a) h)
  in_both {bs = bs} (◌∈◌.later {y = y} g) h = in_right (map (make y) bs) (in_both g h)

-- The lower and the higher of two numbers.
abbrev pub pair : ℕ → ℕ → ℕ × ℕ
pair j i = (i, j)

-- The pairs of numbers i ≤ j below n.
unfoldable pub triangle : ℕ → List (ℕ × ℕ)
triangle zero = []
triangle (suc n) = map (pair n) (numbers (suc n)) ++ triangle n

-- There are n (n + 1) / 2 of them.
pub triangle_length : (n : ℕ) → length (triangle n) ≡ pairs (suc n)
unfolding triangle pairs
triangle_length zero = refl
triangle_length (suc n) =
    length-append (map (pair n) (numbers (suc n))) (triangle n)
    ∙ omega (arith, length-map (numbers (suc n)) (pair n), numbers_length (suc n), triangle_length n)

pub in_triangle : (i j n : ℕ) → i ≤ j → j < n → pair j i ∈ triangle n
unfolding triangle
in_triangle i j zero h l = absurd (omega arith)
in_triangle i j (suc n) h l =
    ⊎_elim
    (λ (k : j < n). in_right (map (pair n) (numbers (suc n))) (in_triangle i j n h k))
    (λ (k : n ≤ j).
    let e : n ≡ j = omega arith in
    in_left (triangle n)
    (subst (λ (x : ℕ). pair x i ∈ map (pair n) (numbers (suc n))) e (in_map (pair n) (in_numbers i (suc n) (omega arith)))))
    (lt_or_ge j n)

module _ {X : Type 0} {K : X → Type 0} where
  -- An element that has K is among those that have it.
  pub sift_in : {a : X} {xs ys : List X} → Sift K xs ys → a ∈ xs → K a → a ∈ ys
  sift_in Sift.nil i k = i
  sift_in (Sift.inn j s) ◌∈◌.first k = ◌∈◌.first
  sift_in (Sift.inn j s) (◌∈◌.later i) k = ◌∈◌.later (sift_in s i k)
  sift_in (Sift.out n s) ◌∈◌.first k = absurd (n k)
  sift_in (Sift.out n s) (◌∈◌.later i) k = sift_in s i k

  -- Those that have K and those that have not are all together.
  pub sift_count : {xs ys zs : List X} → Sift K xs ys → Sift (λ x. ¬ K x) xs zs → length ys + length zs ≡ length xs
  sift_count Sift.nil Sift.nil = refl
  sift_count (Sift.inn k s) (Sift.inn n t) = absurd (n k)
  sift_count (Sift.inn k s) (Sift.out n t) = omega (arith, sift_count s t)
  sift_count (Sift.out n s) (Sift.inn m t) = omega (arith, sift_count s t)
  sift_count (Sift.out n s) (Sift.out m t) = absurd (m n)

module _ {X Y : Type 0} where
  -- What the elements of a list bring along, in one list.
  unfoldable pub gather : (xs : List X) → ((x : X) → x ∈ xs → List Y) → List Y
  gather [] g = []
  gather (x ∷ xs) g = g x ◌∈◌.first ++ gather xs (λ y h. g y (◌∈◌.later h))

  pub gather_has : {x : X} {a : Y} {xs : List X} (g : (x : X) → x ∈ xs → List Y) (h : x ∈ xs) → a ∈ g x h → a ∈ gather xs g
  unfolding gather
  gather_has g (◌∈◌.first {xs = xs}) i = in_left (gather xs (λ y h. g y (◌∈◌.later h))) i
  gather_has g (◌∈◌.later {y = y} h) i = in_right (g y ◌∈◌.first) (gather_has (λ y h. g y (◌∈◌.later h)) h i)

  pub gather_from : {a : Y} (xs : List X) (g : (x : X) → x ∈ xs → List Y) → a ∈ gather xs g → (x : X) × (h : x ∈ xs) × (a ∈ g x h)
  unfolding gather
  gather_from [] g i = absurd (not_in_none i)
  gather_from (x ∷ xs) g i =
      elim (in_append (g x ◌∈◌.first) (gather xs (λ y h. g y (◌∈◌.later h))) i) [
        | inl j ↦ (x, ◌∈◌.first, j)
        | inr j ↦ let (y, h, k) = gather_from xs (λ y h. g y (◌∈◌.later h)) j in (y, ◌∈◌.later h, k)
      ]
