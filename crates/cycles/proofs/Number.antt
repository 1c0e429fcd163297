-- The bond set of a number as a function, and the number of such a function: members and sums.
use mathlib.Core.Path.{◌≡◌, refl, sym, ap, ◌∙◌}
use mathlib.Core.Bool.{Bool, true, false}
use mathlib.Core.Logic.{◌⊎◌, inl, inr, ⊎_elim}
use Prim.Native.Nat.{ℕ, zero, suc, ◌+◌, ◌*◌, ◌/◌, ◌%◌, ◌^◌, ◌<◌}
use native.Mathlib.Omega.{arith}
use native.Mathlib.Nat.{pow-suc}
use lib.Arith.{digits_div, digits_mod}
use lib.Pow.{shr-shr}
use lib.Bits.{bit_xor, xor_step, differ}
use Rattle.graphs.specs.Count.{xor, same, val}
use Rattle.graphs.proofs.Basics.{same_refl, same_ne, same_suc}

-- The set of number N has bond k.
unfoldable pub holds : ℕ → ℕ → Bool
holds N k = same (N / 2 ^ k % 2) 1

-- The number of the set of the k < m that S has.
unfoldable pub num : (ℕ → Bool) → ℕ → ℕ
num S zero = 0
num S (suc m) = num (λ k. S (suc k)) m * 2 + val (S 0)

-- Digits.

mod_two_lt : (n : ℕ) → n % 2 < 2
mod_two_lt n = omega arith

digit_cases : (x : ℕ) → x < 2 → (x ≡ 0) ⊎ (x ≡ 1)
digit_cases zero h = inl refl
digit_cases (suc zero) h = inr refl
digit_cases (suc (suc x)) h = absurd (omega arith)

same_zero_one : same 0 1 ≡ false
same_zero_one = same_ne 0 1 (omega arith)

differ_digit : (x y : ℕ) → x < 2 → y < 2 → (differ x y < 2) × (same (differ x y) 1 ≡ xor (same x 1) (same y 1))
differ_digit x y hx hy =
    ⊎_elim
    (λ p. rw p (hy, rw same_zero_one))
    (λ p. rw p (⊎_elim (λ q. rw q (omega arith, rw (same_zero_one, same_refl 1))) (λ q. rw q (omega arith, rw (same_zero_one, same_refl 1))) (digit_cases y hy)))
    (digit_cases x hx)

mod_xor : (a b : ℕ) → bit_xor a b % 2 ≡ differ (a % 2) (b % 2)
mod_xor a b = ap (λ (x : ℕ). x % 2) (xor_step a b) ∙ digits_mod (bit_xor (a / 2) (b / 2)) (differ_digit (a % 2) (b % 2) (mod_two_lt a) (mod_two_lt b)).0

half_xor : (a b : ℕ) → bit_xor a b / 2 ≡ bit_xor (a / 2) (b / 2)
half_xor a b = ap (λ (x : ℕ). x / 2) (xor_step a b) ∙ digits_div (bit_xor (a / 2) (b / 2)) (differ_digit (a % 2) (b % 2) (mod_two_lt a) (mod_two_lt b)).0

val_digit : (x : ℕ) → x < 2 → val (same x 1) ≡ x
val_digit x h = ⊎_elim (λ p. rw p (ap val same_zero_one)) (λ p. rw p (ap val (same_refl 1))) (digit_cases x h)

val_two : (b : Bool) → val b < 2
val_two true = omega arith
val_two false = omega arith

same_val : (b : Bool) → same (val b) 1 ≡ b
same_val true = same_refl 1
same_val false = same_zero_one

-- Members.

pub holds_is : (N k : ℕ) → holds N k ≡ same (N / 2 ^ k % 2) 1
unfolding holds
holds_is N k = refl

holds_none : (N : ℕ) → holds N 0 ≡ same (N % 2) 1
unfolding holds
holds_none N = let e : N / 1 ≡ N = omega arith in rw e

holds_more : (N k : ℕ) → holds N (suc k) ≡ holds (N / 2) k
unfolding holds
holds_more N k =
    let e : 1 + k ≡ suc k = omega arith in
    ap (λ (x : ℕ). same (x % 2) 1) (sym (shr-shr N 1 k ∙ ap (λ (x : ℕ). N / 2 ^ x) e))

pub holds_xor : (a b k : ℕ) → holds (bit_xor a b) k ≡ xor (holds a k) (holds b k)
holds_xor a b zero =
    rw (holds_none (bit_xor a b), holds_none a, holds_none b, mod_xor a b) (differ_digit (a % 2) (b % 2) (mod_two_lt a) (mod_two_lt b)).1
holds_xor a b (suc k) = rw (holds_more (bit_xor a b) k, holds_more a k, holds_more b k, half_xor a b) (holds_xor (a / 2) (b / 2) k)

pub holds_zero : (k : ℕ) → holds 0 k ≡ false
holds_zero zero = holds_none 0 ∙ same_zero_one
holds_zero (suc k) = holds_more 0 k ∙ holds_zero k

pub holds_pow : (j k : ℕ) → holds (2 ^ j) k ≡ same j k
holds_pow zero zero = holds_none 1 ∙ same_refl 1 ∙ sym (same_refl 0)
holds_pow zero (suc k) = holds_more 1 k ∙ holds_zero k ∙ sym (same_ne 0 (suc k) (omega arith))
holds_pow (suc j) zero =
    let e : 2 ^ suc j % 2 ≡ 0 = omega (arith, pow-suc 2 j) in
    holds_none (2 ^ suc j) ∙ ap (λ (x : ℕ). same x 1) e ∙ same_zero_one ∙ sym (same_ne (suc j) 0 (omega arith))
holds_pow (suc j) (suc k) =
    let e : 2 ^ suc j / 2 ≡ 2 ^ j = omega (arith, pow-suc 2 j) in
    holds_more (2 ^ suc j) k ∙ ap (λ (x : ℕ). holds x k) e ∙ holds_pow j k ∙ same_suc j k

pub holds_ext : (m a b : ℕ) → a < 2 ^ m → b < 2 ^ m → ((k : ℕ) → k < m → holds a k ≡ holds b k) → a ≡ b
holds_ext zero a b ha hb h = omega arith
holds_ext (suc m) a b ha hb h =
    let z : same (a % 2) 1 ≡ same (b % 2) 1 = sym (holds_none a) ∙ h 0 (omega arith) ∙ holds_none b in
    let p : a % 2 ≡ b % 2 = sym (val_digit (a % 2) (mod_two_lt a)) ∙ ap val z ∙ val_digit (b % 2) (mod_two_lt b) in
    let q : a / 2 ≡ b / 2 =
    holds_ext m (a / 2) (b / 2) (omega (arith, pow-suc 2 m)) (omega (arith, pow-suc 2 m))
    (λ k l. sym (holds_more a k) ∙ h (suc k) (omega arith) ∙ holds_more b k) in
    omega arith

-- The number of a set.

pub num_lt : (S : ℕ → Bool) (m : ℕ) → num S m < 2 ^ m
unfolding num
num_lt S zero = omega arith
num_lt S (suc m) = omega (arith, num_lt (λ k. S (suc k)) m, val_two (S 0), pow-suc 2 m)

pub holds_num : (S : ℕ → Bool) (m k : ℕ) → k < m → holds (num S m) k ≡ S k
unfolding num
holds_num S zero k h = absurd (omega arith)
holds_num S (suc m) zero h =
    holds_none _ ∙ ap (λ (x : ℕ). same x 1) (digits_mod (num (λ k. S (suc k)) m) (val_two (S 0))) ∙ same_val (S 0)
holds_num S (suc m) (suc k) h =
    holds_more _ k ∙ ap (λ (x : ℕ). holds x k) (digits_div (num (λ k. S (suc k)) m) (val_two (S 0))) ∙ holds_num (λ k. S (suc k)) m k (omega arith)
