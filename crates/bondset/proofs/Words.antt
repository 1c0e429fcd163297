-- Laws of a number of two words, for the functions that work on each word.
use mathlib.Core.Path.{◌≡◌, refl, sym, ap, ap₂, ◌∙◌}
use mathlib.Core.List.{List, [], ◌∷◌}
use Prim.Native.Nat.{ℕ, zero, suc, ◌+◌, ◌-◌, ◌*◌, ◌/◌, ◌%◌, ◌^◌, ◌≤◌, ◌<◌}
use native.Mathlib.Nat.{zero-add, mul-one, suc-add, suc-mul, zero-mul, add-mul, mul_assoc, mul-add-div_right, div-eq_of_lt, lt_of_lt_of_le}
use native.Mathlib.Numerals.{add-one}
use native.Mathlib.Omega.{arith}
use borrow.Author.Tests.{ne_eqb}
use lib.Arith.{lt-one}
use lib.Bits.{bit_or, bit_and, or_zero_r, or_add_and, and_le_l, and_self, and_zero_l, and_block, block_half, block_odd, shifted_half, shifted_even}
use lib.Count.{count_trailing_zeros, under}
use lib.Dec.{eqb}
use lib.ListN.{get_or}
use lib.Pow.{pow_pos, pow-add, pow_mono, shr_lt}
use Rattle.bondset.specs.Sets.{bit}
use Rattle.bondset.proofs.Laws.{zero_bit, bit_beyond, shr_word_hi, bit_word_lo, bit_word_hi, words_lt}

pub words_zero : (w hi lo : ℕ) → eqb (bit_or lo hi) 0 ≡ eqb (hi * 2 ^ w + lo) 0
words_zero w zero lo = ap (λ (x : ℕ). eqb x 0) (or_zero_r lo ∙ same)
  where
    same : lo ≡ 0 * 2 ^ w + lo
    same = omega (arith, zero-mul (2 ^ w))
words_zero w (suc hi) lo =
    ne_eqb (bit_or lo (suc hi)) 0 (λ z. omega (arith, or_add_and lo (suc hi), and_le_l lo (suc hi)))
    ∙ sym (ne_eqb (suc hi * 2 ^ w + lo) 0 (λ z. omega (arith, suc-mul hi (2 ^ w), pow_pos w)))

-- ---- the words of a set, and as many empty ones

-- The set of two words, in the first half of a list in which any byte finds its word.
abbrev pub spread : ℕ → ℕ → List ℕ
spread lo hi = lo ∷ hi ∷ 0 ∷ 0 ∷ []

pub bit_spread : (lo hi k : ℕ) → lo < 2 ^ 64 → hi < 2 ^ 64 → k < 256 → bit (get_or (spread lo hi) (k / 64) 0) (k % 64) ≡ bit (hi * 2 ^ 64 + lo) k
bit_spread lo hi k l h small = go (k / 64) refl
  where
    beyond : 128 ≤ k → bit 0 (k % 64) ≡ bit (hi * 2 ^ 64 + lo) k
    beyond far = zero_bit (k % 64) ∙ sym (bit_beyond 128 (hi * 2 ^ 64 + lo) k (words_lt 64 hi lo h l) far)

    go : (q : ℕ) → k / 64 ≡ q → bit (get_or (spread lo hi) q 0) (k % 64) ≡ bit (hi * 2 ^ 64 + lo) k
    go zero e = ap (bit lo) (omega arith) ∙ sym (bit_word_lo 64 hi lo l k (omega arith))
    go (suc zero) e = ap (bit hi) (omega arith) ∙ sym (bit_word_hi 64 hi lo l k (omega arith))
    go (suc (suc zero)) e = beyond (omega arith)
    go (suc (suc (suc zero))) e = beyond (omega arith)
    go (suc (suc (suc (suc q)))) e = absurd (omega arith)

-- ---- the bonds from bond k on

pub since_lo : (w hi lo k : ℕ) → k ≤ w → (hi * 2 ^ w + lo) / 2 ^ k * 2 ^ k ≡ hi * 2 ^ w + lo / 2 ^ k * 2 ^ k
since_lo w hi lo k h =
    let e : hi * 2 ^ w ≡ hi * 2 ^ (w - k) * 2 ^ k =
    ap (λ (x : ℕ). hi * 2 ^ x) (omega arith) ∙ ap (λ (x : ℕ). hi * x) (pow-add 2 (w - k) k) ∙ sym (mul_assoc hi (2 ^ (w - k)) (2 ^ k)) in
    rw (e, mul-add-div_right (pow_pos k), add-mul)

pub since_hi : (w hi lo k : ℕ) → lo < 2 ^ w → w ≤ k → (hi * 2 ^ w + lo) / 2 ^ k * 2 ^ k ≡ hi / 2 ^ (k - w) * 2 ^ (k - w) * 2 ^ w
since_hi w hi lo k hl h =
    ap₂ (λ (x y : ℕ). x * 2 ^ y) (shr_word_hi w hi lo hl k h) (omega arith)
    ∙ ap (λ (x : ℕ). hi / 2 ^ (k - w) * x) (pow-add 2 (k - w) w)
    ∙ sym (mul_assoc (hi / 2 ^ (k - w)) (2 ^ (k - w)) (2 ^ w))

pub since_beyond : (n s k : ℕ) → s < 2 ^ n → n ≤ k → s / 2 ^ k * 2 ^ k ≡ 0
since_beyond n s k h l = ap (λ (x : ℕ). x * 2 ^ k) (div-eq_of_lt (lt_of_lt_of_le h (pow_mono l))) ∙ zero-mul (2 ^ k)

-- ---- the lowest bond is in the low word, or the low word is empty

pub trailing_lo : (w v hi lo : ℕ) → 0 < lo → lo < 2 ^ w → count_trailing_zeros (w + v) (hi * 2 ^ w + lo) ≡ count_trailing_zeros w lo
unfolding count_trailing_zeros
trailing_lo zero v hi lo p h = absurd (omega (arith, lt-one h))
trailing_lo (suc w) v hi lo p h =
    rw (suc-add, block_half, block_odd) (go (lo % 2) refl (λ q. trailing_lo w v hi (lo / 2) q (shr_lt w 1 (rw add-one h))))
  where
    go : (d : ℕ) → lo % 2 ≡ d → (0 < lo / 2 → count_trailing_zeros (w + v) (hi * 2 ^ w + lo / 2) ≡ count_trailing_zeros w (lo / 2))
        → under d (count_trailing_zeros (w + v) (hi * 2 ^ w + lo / 2)) ≡ under d (count_trailing_zeros w (lo / 2))
    go zero e ih = ap suc (ih (omega arith))
    go (suc d) e ih = refl

pub trailing_hi : (w v hi : ℕ) → count_trailing_zeros (w + v) (hi * 2 ^ w) ≡ w + count_trailing_zeros v hi
unfolding count_trailing_zeros
trailing_hi zero v hi = simp (zero-add, mul-one)
trailing_hi (suc w) v hi = rw (suc-add w v, suc-add w (count_trailing_zeros v hi), shifted_half, shifted_even) (ap suc (trailing_hi w v hi))

-- ---- a set without its lowest bond: that is in the low word, or the low word is empty

pub others_lo : (w hi lo : ℕ) → 0 < lo → lo < 2 ^ w → bit_and (hi * 2 ^ w + lo) (hi * 2 ^ w + lo - 1) ≡ hi * 2 ^ w + bit_and lo (lo - 1)
others_lo w hi lo p h =
    let e : hi * 2 ^ w + lo - 1 ≡ hi * 2 ^ w + (lo - 1) = omega arith in
    ap (bit_and (hi * 2 ^ w + lo)) e ∙ and_block w hi hi lo (lo - 1) h (omega arith) ∙ ap (λ (x : ℕ). x * 2 ^ w + bit_and lo (lo - 1)) (and_self hi)

pub others_hi : (w hi : ℕ) → 0 < hi → bit_and (hi * 2 ^ w + 0) (hi * 2 ^ w + 0 - 1) ≡ bit_and hi (hi - 1) * 2 ^ w + 0
others_hi w hi p =
    let q : suc (hi - 1) ≡ hi = omega arith in
    let e : hi * 2 ^ w + 0 - 1 ≡ (hi - 1) * 2 ^ w + (2 ^ w - 1) = omega (arith, ap (λ (x : ℕ). x * 2 ^ w) q, suc-mul (hi - 1) (2 ^ w), pow_pos w) in
    ap (bit_and (hi * 2 ^ w + 0)) e ∙ and_block w hi (hi - 1) 0 (2 ^ w - 1) (pow_pos w) (omega (arith, pow_pos w))
    ∙ ap (λ (x : ℕ). bit_and hi (hi - 1) * 2 ^ w + x) (and_zero_l (2 ^ w - 1))
