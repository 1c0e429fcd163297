-- Laws of decimal numbers: one digit more, their length, their first digit.
use mathlib.Core.Path.{◌≡◌, refl, sym, ap, ◌∙◌}
use mathlib.Core.List.{List, [], ◌∷◌, ◌++◌}
use mathlib.Core.Logic.{◌⊎◌, inl, inr}
use Prim.Native.Nat.{ℕ, zero, suc, ◌+◌, ◌*◌, ◌/◌, ◌%◌, ◌^◌, ◌<◌, ◌≤◌}
use native.Mathlib.Omega.{arith}
use native.Mathlib.Nat.{pow-succ'}
use native.Mathlib.Decide.{dec_lt}
use lib.ListN.{length, length-append}
use borrow.Author.Tests.{lt-ltb, le-ltb}
use Rattle.housetext.specs.Decimal.{digits, decimal}

pub lt_or_ge : (m n : ℕ) → (m < n) ⊎ (n ≤ m)
lt_or_ge m n = elim (dec_lt m n) [ yes p ↦ inl p | no q ↦ inr (omega arith) ]

digits_small : (more n : ℕ) → n < 10 → digits more n ≡ (n + 48) ∷ []
unfolding digits
digits_small zero n h = refl
digits_small (suc more) n h = rw (lt-ltb n 10 h)

digits_step : (more n : ℕ) → 10 ≤ n → digits (suc more) n ≡ digits more (n / 10) ++ (n % 10 + 48) ∷ []
unfolding digits
digits_step more n h = rw (le-ltb n 10 h)

digits_enough : (k j n : ℕ) → n ≤ k → n ≤ j → digits k n ≡ digits j n
digits_enough zero j n p q = digits_small zero n (omega arith) ∙ sym (digits_small j n (omega arith))
digits_enough (suc k) zero n p q = digits_small (suc k) n (omega arith) ∙ sym (digits_small zero n (omega arith))
digits_enough (suc k) (suc j) n p q = go (λ h. digits_enough k j (n / 10) (omega arith) (omega arith)) (lt_or_ge n 10)
  where
    go : (10 ≤ n → digits k (n / 10) ≡ digits j (n / 10)) → (n < 10) ⊎ (10 ≤ n) → digits (suc k) n ≡ digits (suc j) n
    go less (inl h) = digits_small (suc k) n h ∙ sym (digits_small (suc j) n h)
    go less (inr h) = digits_step k n h ∙ ap (λ (l : List ℕ). l ++ (n % 10 + 48) ∷ []) (less h) ∙ sym (digits_step j n h)

pub decimal_small : (n : ℕ) → n < 10 → decimal n ≡ (n + 48) ∷ []
unfolding decimal
decimal_small n h = digits_small n n h

pub decimal_step : (n : ℕ) → 10 ≤ n → decimal n ≡ decimal (n / 10) ++ (n % 10 + 48) ∷ []
unfolding decimal
decimal_step zero h = absurd (omega arith)
decimal_step (suc k) h =
    digits_step k (suc k) h
    ∙ ap (λ (l : List ℕ). l ++ (suc k % 10 + 48) ∷ []) (digits_enough k (suc k / 10) (suc k / 10) (omega arith) (omega arith))

pub decimal_two : (a b : ℕ) → 0 < a → a < 10 → b < 10 → decimal (10 * a + b) ≡ (a + 48) ∷ (b + 48) ∷ []
decimal_two a b p q r =
    let d : (10 * a + b) / 10 ≡ a = omega arith in
    let m : (10 * a + b) % 10 ≡ b = omega arith in
    decimal_step (10 * a + b) (omega arith) ∙ rw (d, m, decimal_small a q)

pub decimal_three : (a b c : ℕ) → 0 < a → a < 10 → b < 10 → c < 10 → decimal (100 * a + 10 * b + c) ≡ (a + 48) ∷ (b + 48) ∷ (c + 48) ∷ []
decimal_three a b c p q r s =
    let d : (100 * a + 10 * b + c) / 10 ≡ 10 * a + b = omega arith in
    let m : (100 * a + 10 * b + c) % 10 ≡ c = omega arith in
    decimal_step (100 * a + 10 * b + c) (omega arith) ∙ rw (d, m, decimal_two a b p q r)

tenth : (m n : ℕ) → n < 10 * m → n / 10 < m
tenth m n h = omega arith

-- a number below 10 ^ k has at most k digits, for a k of at least 1
pub decimal_length : (k n : ℕ) → n < 10 ^ suc k → length (decimal n) ≤ suc k
decimal_length zero n h = rw (decimal_small n h) (omega arith)
decimal_length (suc k) n h = go (λ p. decimal_length k (n / 10) (tenth (10 ^ suc k) n (rw (pow-succ' 10 (suc k)) at h))) (lt_or_ge n 10)
  where
    go : (10 ≤ n → length (decimal (n / 10)) ≤ suc k) → (n < 10) ⊎ (10 ≤ n) → length (decimal n) ≤ suc (suc k)
    go less (inl p) = rw (decimal_small n p) (omega arith)
    go less (inr p) = rw (decimal_step n p, length-append) (omega (arith, less p))
