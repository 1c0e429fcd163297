-- Tags: the chosen sets that a tag names, and their sum.
use mathlib.Core.Path.{◌≡◌, refl, sym, ap, ap₂, ◌∙◌, subst}
use mathlib.Core.List.{List, [], ◌∷◌}
use Prim.Native.Nat.{ℕ, zero, suc, ◌+◌, ◌*◌, ◌/◌, ◌%◌, ◌^◌, ◌<◌}
use native.Mathlib.Nat.{add_comm, zero-mul, one-mul, mod-lt, mod-eq_of_lt, zero-lt-suc}
use native.Mathlib.Numerals.{add-one}
use native.Mathlib.Omega.{arith}
use lib.Arith.{lt-one}
use lib.ListN.{length, get_or, take, drop}
use lib.Bits.{bit_xor, differ, xor_self, xor_zero_r, xor_shr, xor_lt, xor_shifted, shifted_half, shifted_even}
use lib.Pow.{shr_lt, pow_pos, split}
use Rattle.spans.specs.Basis.{Part, Sum}
use Rattle.spans.proofs.Span.{Span, at, from_part}
use Rattle.bondset.specs.Sets.{bit}
use Rattle.bondset.specs.Reduction.{combine, keep_if_one, named_by}
use Rattle.bondset.proofs.Laws.{cases2, bit_xor_lem, bit_zero, xor_swap}
use Rattle.bondset.proofs.Group.{bond_sets}

-- ---- sums

-- a digit times a set: the set or nothing
pub scale_xor : (w x y : ℕ) → x < 2 → y < 2 → differ x y * w ≡ bit_xor (x * w) (y * w)
scale_xor w x y hx hy =
    cases2 (λ (x : ℕ). differ x y * w ≡ bit_xor (x * w) (y * w))
    (sym (ap (λ (z : ℕ). bit_xor z (y * w)) (zero-mul w)))
    (cases2 (λ (y : ℕ). differ 1 y * w ≡ bit_xor (1 * w) (y * w))
    (sym (ap (bit_xor (1 * w)) (zero-mul w) ∙ xor_zero_r (1 * w)))
    (zero-mul w ∙ sym (xor_self (1 * w))) y hy) x hx

pub digit_lt : (n d x : ℕ) → d < 2 → x < n → d * x < n
digit_lt n d x l h = cases2 (λ (d : ℕ). d * x < n) (omega arith) (omega arith) d l

-- ---- the sum that a tag names

odd_lt : (t : ℕ) → t % 2 < 2
odd_lt t = mod-lt t (zero-lt-suc 1)

odd_xor : (t u : ℕ) → bit_xor t u % 2 ≡ differ (t % 2) (u % 2)
odd_xor t u = sym (bit_zero (bit_xor t u)) ∙ bit_xor_lem t u 0 ∙ ap₂ differ (bit_zero t) (bit_zero u)

half_lt : {t : ℕ} (k : ℕ) → t < 2 ^ suc k → t / 2 < 2 ^ k
half_lt k h = shr_lt k 1 (rw add-one h)

pub combine_zero : (xs : List ℕ) → combine xs 0 ≡ 0
unfolding combine
combine_zero [] = refl
combine_zero (x ∷ xs) = ap₂ bit_xor (zero-mul x) (combine_zero xs)

-- the sum of two tags names the sum of the two sums
pub combine_xor : (xs : List ℕ) (t u : ℕ) → combine xs (bit_xor t u) ≡ bit_xor (combine xs t) (combine xs u)
unfolding combine
combine_xor [] t u = refl
combine_xor (x ∷ xs) t u =
    ap₂ bit_xor
    (ap (λ (d : ℕ). d * x) (odd_xor t u) ∙ scale_xor x (t % 2) (u % 2) (odd_lt t) (odd_lt u))
    (ap (combine xs) (xor_shr t u 1) ∙ combine_xor xs (t / 2) (u / 2))
    ∙ xor_swap (t % 2 * x) (u % 2 * x) (combine xs (t / 2)) (combine xs (u / 2))

pub combine_scale : (xs : List ℕ) (d t : ℕ) → d < 2 → combine xs (d * t) ≡ d * combine xs t
combine_scale xs d t h =
    cases2 (λ (d : ℕ). combine xs (d * t) ≡ d * combine xs t)
    (ap (combine xs) (zero-mul t) ∙ combine_zero xs ∙ sym (zero-mul (combine xs t)))
    (ap (combine xs) (one-mul t) ∙ sym (one-mul (combine xs t))) d h

-- a tag whose first k digits are 0 names only sets from the k-th on
pub combine_shifted : (k a : ℕ) (xs : List ℕ) → combine xs (a * 2 ^ k) ≡ combine (drop k xs) a
unfolding combine
combine_shifted zero a xs = ap (combine xs) (omega arith)
combine_shifted (suc k) a [] = refl
combine_shifted (suc k) a (x ∷ xs) =
    ap₂ (λ (d t : ℕ). bit_xor (d * x) (combine xs t)) (shifted_even a k) (shifted_half a k)
    ∙ ap (λ (y : ℕ). bit_xor y (combine xs (a * 2 ^ k))) (zero-mul x)
    ∙ combine_shifted k a xs

-- the tag of one digit names one set
pub combine_single : (xs : List ℕ) (i : ℕ) → combine xs (2 ^ i) ≡ get_or xs i 0
unfolding combine
combine_single xs i = ap (combine xs) (sym (one-mul (2 ^ i))) ∙ combine_shifted i 1 xs ∙ first i xs
  where
    first : (i : ℕ) (xs : List ℕ) → combine (drop i xs) 1 ≡ get_or xs i 0
    first zero [] = refl
    first zero (x ∷ xs) = ap₂ bit_xor (one-mul x) (combine_zero xs) ∙ xor_zero_r x
    first (suc i) [] = refl
    first (suc i) (x ∷ xs) = first i xs

-- a tag below 2 ^ s names only the first s sets
pub combine_take : (s : ℕ) (xs : List ℕ) (t : ℕ) → t < 2 ^ s → combine xs t ≡ combine (take s xs) t
unfolding combine
combine_take zero xs t h = ap (combine xs) (lt-one h) ∙ combine_zero xs
combine_take (suc s) [] t h = refl
combine_take (suc s) (x ∷ xs) t h = ap (bit_xor (t % 2 * x)) (combine_take s xs (t / 2) (half_lt s h))

pub combine_lt : (w : ℕ) (xs : List ℕ) (t : ℕ) → ((i : ℕ) → i < length xs → get_or xs i 0 < 2 ^ w) → combine xs t < 2 ^ w
unfolding combine
combine_lt w [] t h = pow_pos w
combine_lt w (x ∷ xs) t h =
    xor_lt w (t % 2 * x) (combine xs (t / 2)) (digit_lt (2 ^ w) (t % 2) x (odd_lt t) (h 0 (omega arith)))
    (combine_lt w xs (t / 2) (λ i l. h (suc i) (omega arith)))

-- ---- the list that a tag names

-- the sets that a tag names are a part of the chosen sets
pub named_by_part : (xs : List ℕ) (t : ℕ) → Part xs (named_by xs t)
unfolding named_by
named_by_part [] t = Part.nil
named_by_part (x ∷ xs) t = kept (t % 2) (named_by_part xs (t / 2))
  where
    kept : {x : ℕ} {xs ys : List ℕ} (d : ℕ) → Part xs ys → Part (x ∷ xs) (keep_if_one d x ys)
    kept zero p = Part.skip p
    kept (suc d) p = Part.keep p

-- and their sum is the tag's
pub named_by_sum : (xs : List ℕ) (t : ℕ) → Sum bond_sets (named_by xs t) ≡ combine xs t
unfolding named_by combine Sum bond_sets
named_by_sum [] t = refl
named_by_sum (x ∷ xs) t = kept x (named_by xs (t / 2)) (t % 2) (odd_lt t) ∙ ap (bit_xor (t % 2 * x)) (named_by_sum xs (t / 2))
  where
    kept : (x : ℕ) (ys : List ℕ) (d : ℕ) → d < 2 → Sum bond_sets (keep_if_one d x ys) ≡ bit_xor (d * x) (Sum bond_sets ys)
    kept x ys d h =
        cases2 (λ (d : ℕ). Sum bond_sets (keep_if_one d x ys) ≡ bit_xor (d * x) (Sum bond_sets ys))
        (ap (λ (y : ℕ). bit_xor y (Sum bond_sets ys)) (sym (zero-mul x)))
        (ap (λ (y : ℕ). bit_xor y (Sum bond_sets ys)) (sym (one-mul x))) d h

-- what a tag names lies in the span of the chosen sets
pub combine_span : (xs : List ℕ) (t : ℕ) → Span bond_sets xs (combine xs t)
combine_span xs t = at bond_sets (named_by_sum xs t) (from_part bond_sets (named_by_part xs t))

-- a tag below 2 ^ s: in the span of the first s
pub combine_span_take : (s : ℕ) (xs : List ℕ) (t : ℕ) → t < 2 ^ s → Span bond_sets (take s xs) (combine xs t)
combine_span_take s xs t h = at bond_sets (sym (combine_take s xs t h)) (combine_span (take s xs) t)

-- ---- a tag cut in two

-- a tag names the sets from the short-th on by its high digits, and the sets before by its low digits
pub combine_split : (short : ℕ) (xs : List ℕ) (t : ℕ)
    → combine xs t ≡ bit_xor (combine xs (t / 2 ^ short * 2 ^ short)) (combine xs (t % 2 ^ short))
combine_split short xs t =
    ap (combine xs) (sym (split t short) ∙ sym (xor_shifted (t / 2 ^ short) short (t % 2 ^ short) (mod-lt t (pow_pos short))))
    ∙ combine_xor xs (t / 2 ^ short * 2 ^ short) (t % 2 ^ short)

-- a tag whose last digit is i names set i and sets before
pub combine_last : (xs : List ℕ) (i t : ℕ) → t < 2 ^ (i + 1) → bit t i ≡ 1 → combine xs t ≡ bit_xor (get_or xs i 0) (combine xs (t % 2 ^ i))
combine_last xs i t h b =
    combine_split i xs t
    ∙ ap (λ (y : ℕ). bit_xor y (combine xs (t % 2 ^ i)))
    (ap (λ (q : ℕ). combine xs (q * 2 ^ i)) top ∙ ap (combine xs) (one-mul (2 ^ i)) ∙ combine_single xs i)
  where
    small : t / 2 ^ i < 2 ^ 1
    small = shr_lt 1 i (subst (λ (n : ℕ). t < 2 ^ n) (add_comm i 1) h)

    top : t / 2 ^ i ≡ 1
    top = sym (mod-eq_of_lt small) ∙ b
