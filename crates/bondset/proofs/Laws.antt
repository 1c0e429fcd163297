-- Laws of bond sets as numbers: membership, equality, sums, lengths, the lowest bond, and the bits of a number of two words.
use mathlib.Core.Path.{◌≡◌, refl, sym, ap, ap₂, ◌∙◌, subst}
use mathlib.Core.Bool.{Bool, true, false}
use mathlib.Core.Logic.{◌⊎◌, inl, inr, ⊎_elim}
use Prim.Native.Nat.{ℕ, zero, suc, ◌+◌, ◌-◌, ◌*◌, ◌/◌, ◌%◌, ◌^◌, ◌≤◌, ◌<◌, suc-le-suc, min, max}
use native.Mathlib.Nat.{zero-div, mod-lt, mod-eq_of_lt, zero-lt-suc, le_of_suc-le-suc, not-suc-le-zero, div-eq_of_lt, div_self, lt_of_lt_of_le, mul-mod_left, pow-suc}
use native.Mathlib.Numerals.{add-one, one-add}
use native.Mathlib.Omega.{arith}
use native.Mathlib.Decide.{dec_lt}
use borrow.Author.Tests.{lt-ltb, le-ltb, eqb-true, eqb-false}
use lib.Dec.{eqb}
use lib.Arith.{digits_lt, bin_ind, digits_mod, lt-one}
use lib.Pow.{shr_lt, shl-shr, pow_pos, pow-lt, pow_mono, pow-add, high, low, field, mod-pow-add, mod-mod-pow, shr-shr}
use lib.Bits.{bit_xor, bit_and, bit_or, differ, xor_comm, xor_self, xor_zero_l, xor_zero_r, xor_step, xor_shr, xor_disjoint}
use lib.Bits.{and_step, and_shr, and_zero_r, or_step, or_shr, or_zero_l, or_disjoint}
use lib.Count.{ones, ones_cat, count_trailing_zeros, under}
use Rattle.bondset.specs.Sets.{bit, single, length_to, Lowest}

two_pos : zero < 2
two_pos = zero-lt-suc 1

pub lt_or_ge : (m n : ℕ) → (m < n) ⊎ (n ≤ m)
lt_or_ge m n = elim (dec_lt m n) [ yes p ↦ inl p | no q ↦ inr (omega arith) ]

pub pos_of_ne : (n : ℕ) → (n ≡ 0 → ⊥) → 0 < n
pos_of_ne n h = omega arith

-- a set that the test finds empty, or not empty
pub empty_set : (s : ℕ) (b : Bool) → b ≡ eqb s 0 → b ≡ true → s ≡ 0
empty_set s b e h = eqb-true s 0 (sym e ∙ h)

pub some_set : (s : ℕ) (b : Bool) → b ≡ eqb s 0 → b ≡ false → 0 < s
some_set s b e h = pos_of_ne s (eqb-false s 0 (sym e ∙ h))

-- what holds of 0 and of 1 holds of a bit
pub cases2 : (P : ℕ → Type 0) → P 0 → P 1 → (x : ℕ) → x < 2 → P x
cases2 P p q zero h = p
cases2 P p q (suc zero) h = q
cases2 P p q (suc (suc x)) h = absurd (not-suc-le-zero (le_of_suc-le-suc (le_of_suc-le-suc h)))

pub bit_lt : (s k : ℕ) → bit s k < 2
bit_lt s k = mod-lt (s / 2 ^ k) two_pos

differ_lt : (x y : ℕ) → x < 2 → y < 2 → differ x y < 2
differ_lt x y hx hy =
    cases2 (λ (x : ℕ). differ x y < 2) hy (cases2 (λ (y : ℕ). differ 1 y < 2) (omega arith) (omega arith) y hy) x hx

pub differ_zero : (x : ℕ) → differ x 0 ≡ x
differ_zero zero = refl
differ_zero (suc x) = refl

min_lt : (x y : ℕ) → x < 2 → min x y < 2
min_lt x y h = omega arith

-- ---- membership: of the empty set, of a sum, of an intersection, of a single bond, and beyond the last bond

pub zero_bit : (k : ℕ) → bit 0 k ≡ 0
zero_bit k = ap (λ (x : ℕ). x % 2) (zero-div (2 ^ k))

pub bit_xor_lem : (a b k : ℕ) → bit (bit_xor a b) k ≡ differ (bit a k) (bit b k)
bit_xor_lem a b k =
    ap (λ (x : ℕ). x % 2) (xor_shr a b k ∙ xor_step (a / 2 ^ k) (b / 2 ^ k))
    ∙ digits_mod _ (differ_lt (bit a k) (bit b k) (bit_lt a k) (bit_lt b k))

pub bit_and_lem : (a b k : ℕ) → bit (bit_and a b) k ≡ min (bit a k) (bit b k)
bit_and_lem a b k =
    ap (λ (x : ℕ). x % 2) (and_shr a b k ∙ and_step (a / 2 ^ k) (b / 2 ^ k)) ∙ digits_mod _ (min_lt (bit a k) (bit b k) (bit_lt a k))

max_lt : (x y : ℕ) → x < 2 → y < 2 → max x y < 2
max_lt x y hx hy = omega arith

pub bit_or_lem : (a b k : ℕ) → bit (bit_or a b) k ≡ max (bit a k) (bit b k)
bit_or_lem a b k =
    ap (λ (x : ℕ). x % 2) (or_shr a b k ∙ or_step (a / 2 ^ k) (b / 2 ^ k))
    ∙ digits_mod _ (max_lt (bit a k) (bit b k) (bit_lt a k) (bit_lt b k))

pub bit_pow_same : (k : ℕ) → bit (2 ^ k) k ≡ 1
bit_pow_same k = ap (λ (x : ℕ). x % 2) (div_self (pow_pos k))

pub bit_pow_other : (j k : ℕ) → (j ≡ k → ⊥) → bit (2 ^ j) k ≡ 0
bit_pow_other j k ne = ⊎_elim (λ (h : j < k). ap (λ (x : ℕ). x % 2) (div-eq_of_lt (pow-lt h))) (λ (h : k ≤ j). above (j - suc k) (omega arith)) (lt_or_ge j k)
  where
    above : (m : ℕ) → j ≡ suc m + k → bit (2 ^ j) k ≡ 0
    above m e = rw (e, pow-add, shl-shr, pow-suc) (mul-mod_left (2 ^ m) 2)

pub bit_beyond : (n s k : ℕ) → s < 2 ^ n → n ≤ k → bit s k ≡ 0
bit_beyond n s k h l = ap (λ (x : ℕ). x % 2) (div-eq_of_lt (lt_of_lt_of_le h (pow_mono l)))

pub single_below : (k : ℕ) → k < 128 → single k ≡ 2 ^ k
unfolding single
single_below k h = simp (lt-ltb k 128 h)

pub single_beyond : (k : ℕ) → 128 ≤ k → single k ≡ 0
unfolding single
single_beyond k h = simp (le-ltb k 128 h)

-- ---- equal members, equal number

ext_mod : (n a b : ℕ) → ((k : ℕ) → k < n → bit a k ≡ bit b k) → a % 2 ^ n ≡ b % 2 ^ n
ext_mod zero a b h = lt-one (mod-lt a (pow_pos 0)) ∙ sym (lt-one (mod-lt b (pow_pos 0)))
ext_mod (suc n) a b h =
    rw (← one-add n, mod-pow-add a 1 n, mod-pow-add b 1 n)
    (ap₂ (λ (x y : ℕ). x * 2 ^ n + y) (h n (omega arith)) (ext_mod n a b (λ k l. h k (omega arith))))

pub ext : (n a b : ℕ) → a < 2 ^ n → b < 2 ^ n → ((k : ℕ) → k < n → bit a k ≡ bit b k) → a ≡ b
ext n a b ha hb h = sym (mod-eq_of_lt ha) ∙ ext_mod n a b h ∙ mod-eq_of_lt hb

-- ---- the sum is associative

differ_assoc : (x y z : ℕ) → x < 2 → y < 2 → z < 2 → differ (differ x y) z ≡ differ x (differ y z)
differ_assoc x y z hx hy hz =
    cases2 (λ (x : ℕ). differ (differ x y) z ≡ differ x (differ y z)) refl
    (cases2 (λ (y : ℕ). differ (differ 1 y) z ≡ differ 1 (differ y z)) refl
    (cases2 (λ (z : ℕ). differ (differ 1 1) z ≡ differ 1 (differ 1 z)) refl refl z hz) y hy) x hx

xor_odd : (a b : ℕ) → bit_xor a b % 2 ≡ differ (a % 2) (b % 2)
xor_odd a b = ap (λ (x : ℕ). x % 2) (xor_step a b) ∙ digits_mod _ (differ_lt (a % 2) (b % 2) (mod-lt a two_pos) (mod-lt b two_pos))

pub xor_assoc : (a b c : ℕ) → bit_xor (bit_xor a b) c ≡ bit_xor a (bit_xor b c)
xor_assoc a =
    bin_ind (λ (n : ℕ). (b c : ℕ) → bit_xor (bit_xor n b) c ≡ bit_xor n (bit_xor b c)) (λ b c. refl)
    (λ n ih b c. xor_step (bit_xor n b) c
    ∙ ap₂ (λ (x y : ℕ). bit_xor x (c / 2) * 2 + differ y (c % 2)) (xor_shr n b 1) (xor_odd n b)
    ∙ ap₂ (λ (x y : ℕ). x * 2 + y) (ih (b / 2) (c / 2)) (differ_assoc (n % 2) (b % 2) (c % 2) (mod-lt n two_pos) (mod-lt b two_pos) (mod-lt c two_pos))
    ∙ ap₂ (λ (x y : ℕ). bit_xor (n / 2) x * 2 + differ (n % 2) y) (sym (xor_shr b c 1)) (sym (xor_odd b c))
    ∙ sym (xor_step n (bit_xor b c))) a

pub xor_swap : (a b c d : ℕ) → bit_xor (bit_xor a b) (bit_xor c d) ≡ bit_xor (bit_xor a c) (bit_xor b d)
xor_swap a b c d =
    xor_assoc a b (bit_xor c d)
    ∙ ap (bit_xor a) (sym (xor_assoc b c d) ∙ ap (λ (x : ℕ). bit_xor x d) (xor_comm b c) ∙ xor_assoc c b d)
    ∙ sym (xor_assoc a c (bit_xor b d))

pub xor_cancel : (a b : ℕ) → bit_xor (bit_xor a b) b ≡ a
xor_cancel a b = xor_assoc a b b ∙ ap (bit_xor a) (xor_self b) ∙ xor_zero_r a

-- ---- a union is one set and what the other has besides

or_digit : (x y : ℕ) → x < 2 → y < 2 → differ x (differ y (min y x)) ≡ max x y
or_digit x y hx hy =
    cases2 (λ (x : ℕ). differ x (differ y (min y x)) ≡ max x y)
    (cases2 (λ (y : ℕ). differ 0 (differ y (min y 0)) ≡ max 0 y) refl refl y hy)
    (cases2 (λ (y : ℕ). differ 1 (differ y (min y 1)) ≡ max 1 y) refl refl y hy) x hx

pub xor_besides : (a b : ℕ) → bit_xor a (bit_xor b (bit_and b a)) ≡ bit_or a b
xor_besides a =
    bin_ind (λ (n : ℕ). (b : ℕ) → bit_xor n (bit_xor b (bit_and b n)) ≡ bit_or n b)
    (λ b. xor_zero_l (bit_xor b (bit_and b 0)) ∙ ap (bit_xor b) (and_zero_r b) ∙ xor_zero_r b ∙ sym (or_zero_l b))
    (λ n ih b. xor_step n (bit_xor b (bit_and b n))
    ∙ ap₂ (λ (x y : ℕ). bit_xor (n / 2) x * 2 + differ (n % 2) y)
    (xor_shr b (bit_and b n) 1 ∙ ap (bit_xor (b / 2)) (and_shr b n 1)) (xor_odd b (bit_and b n) ∙ ap (differ (b % 2)) (and_odd b n))
    ∙ ap₂ (λ (x y : ℕ). x * 2 + y) (ih (b / 2)) (or_digit (n % 2) (b % 2) (mod-lt n two_pos) (mod-lt b two_pos))
    ∙ sym (or_step n b)) a
  where
    and_odd : (a b : ℕ) → bit_and a b % 2 ≡ min (a % 2) (b % 2)
    and_odd a b = ap (λ (x : ℕ). x % 2) (and_step a b) ∙ digits_mod _ (min_lt (a % 2) (b % 2) (mod-lt a two_pos))

-- ---- lengths

ones_bit : (r : ℕ) → r < 2 → ones r ≡ r
unfolding ones
ones_bit r h = cases2 (λ (r : ℕ). ones r ≡ r) refl refl r h

differ_min : (x y : ℕ) → x < 2 → y < 2 → differ x y + 2 * min x y ≡ x + y
differ_min x y hx hy =
    cases2 (λ (x : ℕ). differ x y + 2 * min x y ≡ x + y)
    (cases2 (λ (y : ℕ). differ 0 y + 2 * min 0 y ≡ 0 + y) refl refl y hy)
    (cases2 (λ (y : ℕ). differ 1 y + 2 * min 1 y ≡ 1 + y) refl refl y hy) x hx

-- the same, of the members below n
pub length_sum : (n a b : ℕ) → length_to n (bit_xor a b) + 2 * length_to n (bit_and a b) ≡ length_to n a + length_to n b
unfolding length_to
length_sum zero a b = refl
length_sum (suc n) a b =
    omega (arith, length_sum n a b, bit_xor_lem a b n, bit_and_lem a b n, differ_min (bit a n) (bit b n) (bit_lt a n) (bit_lt b n))

pub length_le : (n s : ℕ) → length_to n s ≤ n
unfolding length_to
length_le zero s = omega arith
length_le (suc n) s = omega (arith, bit_lt s n, length_le n s)

pub length_none : (n : ℕ) → length_to n 0 ≡ 0
unfolding length_to
length_none zero = refl
length_none (suc n) = omega (arith, zero_bit n, length_none n)

-- sets that share no member
pub length_disjoint : (n s t : ℕ) → bit_and s t ≡ 0 → length_to n (bit_or s t) ≡ length_to n s + length_to n t
length_disjoint n s t e =
    let same : bit_or s t ≡ bit_xor s t = or_disjoint s t e ∙ sym (xor_disjoint s t e) in
    omega (arith, ap (length_to n) same, length_sum n s t, ap (length_to n) e, length_none n)

-- a set of length 0 has no member
pub bit_of_length_zero : (n s : ℕ) → length_to n s ≡ 0 → (k : ℕ) → k < n → bit s k ≡ 0
unfolding length_to
bit_of_length_zero zero s e k h = absurd (omega arith)
bit_of_length_zero (suc n) s e k h =
    ⊎_elim (λ (l : k < n). bit_of_length_zero n s (omega arith) k l) (λ (l : n ≤ k). let q : k ≡ n = omega arith in rw q (omega arith)) (lt_or_ge k n)

-- the language's count of ones counts the members
pub length_to_ones : (n s : ℕ) → length_to n s ≡ ones (s % 2 ^ n)
unfolding length_to
length_to_ones zero s = sym (ap ones (lt-one (mod-lt s (pow_pos 0))) ∙ ones_bit 0 two_pos)
length_to_ones (suc n) s =
    ap (λ (x : ℕ). bit s n + x) (length_to_ones n s)
    ∙ ap (λ (x : ℕ). x + ones (s % 2 ^ n)) (sym (ones_bit (bit s n) (bit_lt s n)))
    ∙ sym (ones_cat n (bit s n) (s % 2 ^ n) (mod-lt s (pow_pos n)))
    ∙ ap ones (sym (mod-pow-add s 1 n) ∙ ap (λ (x : ℕ). s % 2 ^ x) (one-add n))

pub length_ones : (n s : ℕ) → s < 2 ^ n → length_to n s ≡ ones s
length_ones n s h = length_to_ones n s ∙ ap ones (mod-eq_of_lt h)

-- ---- the bits of a number of two words

pub bit_low : (j s k : ℕ) → bit (s % 2 ^ (j + (1 + k))) k ≡ bit s k
bit_low j s k =
    sym (field (s % 2 ^ (j + (1 + k))) 1 k) ∙ ap (λ (x : ℕ). x / 2 ^ k) (mod-mod-pow s j (1 + k)) ∙ field s 1 k

module _ (w hi lo : ℕ) (hl : lo < 2 ^ w) where
  pub field_word_lo : (m k : ℕ) → m + k ≤ w → (hi * 2 ^ w + lo) / 2 ^ k % 2 ^ m ≡ lo / 2 ^ k % 2 ^ m
  field_word_lo m k h =
      let e : (w - (m + k)) + (m + k) ≡ w = omega arith in
      sym (field (hi * 2 ^ w + lo) m k)
      ∙ ap (λ (x : ℕ). x / 2 ^ k) (sym (mod-mod-pow (hi * 2 ^ w + lo) (w - (m + k)) (m + k))
      ∙ ap (λ (x : ℕ). (hi * 2 ^ w + lo) % 2 ^ x % 2 ^ (m + k)) e
      ∙ ap (λ (x : ℕ). x % 2 ^ (m + k)) (low hi w hl))
      ∙ field lo m k

  pub shr_word_hi : (k : ℕ) → w ≤ k → (hi * 2 ^ w + lo) / 2 ^ k ≡ hi / 2 ^ (k - w)
  shr_word_hi k h =
      let e : k ≡ w + (k - w) = omega arith in
      ap (λ (x : ℕ). (hi * 2 ^ w + lo) / 2 ^ x) e
      ∙ sym (shr-shr (hi * 2 ^ w + lo) w (k - w))
      ∙ ap (λ (x : ℕ). x / 2 ^ (k - w)) (high hi w hl)

  pub bit_word_lo : (k : ℕ) → k < w → bit (hi * 2 ^ w + lo) k ≡ bit lo k
  bit_word_lo k h = field_word_lo 1 k (omega arith)

  pub bit_word_hi : (k : ℕ) → w ≤ k → bit (hi * 2 ^ w + lo) k ≡ bit hi (k - w)
  bit_word_hi k h = ap (λ (x : ℕ). x % 2) (shr_word_hi k h)

pub words_lt : (w hi lo : ℕ) → hi < 2 ^ w → lo < 2 ^ w → hi * 2 ^ w + lo < 2 ^ (w + w)
words_lt w hi lo hh hl = subst (λ (x : ℕ). hi * 2 ^ w + lo < x) (sym (pow-add 2 w w)) (digits_lt hh hl)

-- ---- the lowest bond

pub bit_suc : (s k : ℕ) → bit s (suc k) ≡ bit (s / 2) k
bit_suc s k = ap (λ (x : ℕ). s / 2 ^ x % 2) (sym (one-add k)) ∙ ap (λ (x : ℕ). x % 2) (sym (shr-shr s 1 k))

pub bit_zero : (s : ℕ) → bit s 0 ≡ s % 2
bit_zero s = omega arith

-- t is the lowest bond of x, and below k
pub record Trailing (k x t : ℕ) : Type 0 where
  pub here : bit x t ≡ 1
  pub below : (j : ℕ) → j < t → bit x j ≡ 0
  pub small : t < k

pub trailing : (k x : ℕ) → 0 < x → x < 2 ^ k → Trailing k x (count_trailing_zeros k x)
unfolding count_trailing_zeros
trailing zero x p h = absurd (omega arith)
trailing (suc k) x p h = go (x % 2) refl (λ q. trailing k (x / 2) q (shr_lt k 1 (rw add-one h)))
  where
    go : (d : ℕ) → x % 2 ≡ d → (0 < x / 2 → Trailing k (x / 2) (count_trailing_zeros k (x / 2))) → Trailing (suc k) x (under d (count_trailing_zeros k (x / 2)))
    go zero e ih =
        let r = ih (omega arith) in
        record {
          here = bit_suc x (count_trailing_zeros k (x / 2)) ∙ r.here;
          below = elim [ zero ↦ λ l. bit_zero x ∙ e | suc j ↦ λ l. bit_suc x j ∙ r.below j (omega arith) ];
          small = suc-le-suc r.small;
        }
    go (suc d) e ih = record { here = omega (arith, bit_zero x, mod-lt x two_pos); below = λ j l. absurd (omega arith); small = omega arith }

pub lowest : (n s : ℕ) → 0 < s → s < 2 ^ n → Lowest s (count_trailing_zeros n s)
lowest n s p h = let t = trailing n s p h in record { here = t.here; below = t.below }
