-- What is in a union, an intersection, a difference or a sum of sets held as numbers.
use mathlib.Core.Path.{◌≡◌, refl, sym, ap, ◌∙◌}
use mathlib.Core.Logic.{◌⊎◌, inl, inr, ⊎_elim, ◌↔◌}
use Prim.Native.Nat.{ℕ, zero, suc, ◌+◌, ◌-◌, ◌/◌, ◌%◌, ◌^◌, ◌<◌, min, max}
use native.Mathlib.Nat.{mod-eq_of_lt}
use native.Mathlib.Omega.{arith}
use native.Mathlib.Decide.{ℕ_discrete}
use lib.Arith.{digits_mod}
use lib.Pow.{pow_pos, pow-lt}
use lib.Bits.{bit_and, bit_or, bit_xor, differ, or_step, or_shr, and_lt, and_le_l, and_mask, xor_add_and, or_disjoint}
use Rattle.bondset.specs.Sets.{bit}
use Rattle.bondset.proofs.Laws.{lt_or_ge, cases2, bit_lt, bit_and_lem, bit_xor_lem, bit_pow_same, bit_pow_other, bit_beyond, zero_bit, ext}

max_lt : (x y : ℕ) → x < 2 → y < 2 → max x y < 2
max_lt x y hx hy = omega arith

bit_or_lem : (a b k : ℕ) → bit (bit_or a b) k ≡ max (bit a k) (bit b k)
bit_or_lem a b k =
    ap (λ (x : ℕ). x % 2) (or_shr a b k ∙ or_step (a / 2 ^ k) (b / 2 ^ k))
    ∙ digits_mod _ (max_lt (bit a k) (bit b k) (bit_lt a k) (bit_lt b k))

max_one : (x y : ℕ) → x < 2 → max x y ≡ 1 → (x ≡ 1) ⊎ (y ≡ 1)
max_one zero y h e = inr (omega arith)
max_one (suc x) y h e = inl (omega arith)

-- The union of two sets.
pub or_has : (a b k : ℕ) → (bit (bit_or a b) k ≡ 1) ↔ ((bit a k ≡ 1) ⊎ (bit b k ≡ 1))
or_has a b k = (
  λ e. max_one (bit a k) (bit b k) (bit_lt a k) (sym (bit_or_lem a b k) ∙ e),
  ⊎_elim (λ (h : bit a k ≡ 1). omega (arith, bit_or_lem a b k, bit_lt b k)) (λ (h : bit b k ≡ 1). omega (arith, bit_or_lem a b k, bit_lt a k)),
)

-- What two sets share.
pub and_has : (a b k : ℕ) → (bit (bit_and a b) k ≡ 1) ↔ ((bit a k ≡ 1) × (bit b k ≡ 1))
and_has a b k = (
  λ e. (omega (arith, bit_and_lem a b k, bit_lt a k, bit_lt b k), omega (arith, bit_and_lem a b k, bit_lt a k, bit_lt b k)),
  λ h. omega (arith, bit_and_lem a b k, h.0, h.1),
)

-- The set of j alone.
pub pow_has : (j k : ℕ) → (bit (2 ^ j) k ≡ 1) ↔ (j ≡ k)
pow_has j k = (
  λ e. elim (ℕ_discrete j k) [ yes same ↦ same | no other ↦ absurd (omega (arith, bit_pow_other j k other)) ],
  λ e. rw e (bit_pow_same k),
)

-- What is in a set below 2^n is below n.
pub lt_of_has : (n s k : ℕ) → s < 2 ^ n → bit s k ≡ 1 → k < n
lt_of_has n s k h e = elim (lt_or_ge k n) [ inl l ↦ l | inr l ↦ absurd (omega (arith, bit_beyond n s k h l)) ]

-- A set is empty if nothing is in it.
pub zero_of_none : (n s : ℕ) → s < 2 ^ n → ((k : ℕ) → bit s k ≡ 1 → ⊥) → s ≡ 0
zero_of_none n s h none = ext n s 0 h (pow_pos n) (λ k l. empty k ∙ sym (zero_bit k))
  where
    empty : (k : ℕ) → bit s k ≡ 0
    empty k = cases2 (λ (x : ℕ). bit s k ≡ x → bit s k ≡ 0) (λ e. e) (λ e. absurd (none k e)) (bit s k) (bit_lt s k) refl

min_min : (x y : ℕ) → min x (min x y) ≡ min x y
min_min x y = omega arith

-- The difference as a sum.
without_xor : (n s t : ℕ) → s < 2 ^ n → s - bit_and s t ≡ bit_xor s (bit_and s t)
without_xor n s t h =
    let small : bit_and s t < 2 ^ n = omega (arith, and_le_l s t) in
    let same : bit_and s (bit_and s t) ≡ bit_and s t =
    ext n (bit_and s (bit_and s t)) (bit_and s t) (and_lt n s (bit_and s t) h small) small
    (λ k l. bit_and_lem s (bit_and s t) k ∙ ap (λ (x : ℕ). min (bit s k) x) (bit_and_lem s t k) ∙ min_min (bit s k) (bit t k) ∙ sym (bit_and_lem s t k)) in
    omega (arith, xor_add_and s (bit_and s t), same, and_le_l s t)

differ_min_one : (x y : ℕ) → x < 2 → y < 2 → differ x (min x y) ≡ x - y
differ_min_one x y hx hy =
    cases2 (λ (x : ℕ). differ x (min x y) ≡ x - y) (omega arith)
    (cases2 (λ (y : ℕ). differ 1 (min 1 y) ≡ 1 - y) refl refl y hy) x hx

bit_without : (n s t k : ℕ) → s < 2 ^ n → bit (s - bit_and s t) k ≡ bit s k - bit t k
bit_without n s t k h =
    ap (λ (x : ℕ). bit x k) (without_xor n s t h) ∙ bit_xor_lem s (bit_and s t) k ∙ ap (λ (x : ℕ). differ (bit s k) x) (bit_and_lem s t k)
    ∙ differ_min_one (bit s k) (bit t k) (bit_lt s k) (bit_lt t k)

-- The difference of two sets.
pub without_has : (n s t k : ℕ) → s < 2 ^ n → (bit (s - bit_and s t) k ≡ 1) ↔ ((bit s k ≡ 1) × (bit t k ≡ 1 → ⊥))
without_has n s t k h = (
  λ e. (omega (arith, bit_without n s t k h, bit_lt s k), λ (f : bit t k ≡ 1). omega (arith, bit_without n s t k h, bit_lt s k)),
  λ p. take p.0 p.1,
)
  where
    take : bit s k ≡ 1 → (bit t k ≡ 1 → ⊥) → bit (s - bit_and s t) k ≡ 1
    take e ne = omega (arith, bit_without n s t k h, bit_lt t k)

-- The sum of two numbers with nothing in common is their union.
pub add_or : (n s t : ℕ) → s < 2 ^ n → t < 2 ^ n → ((k : ℕ) → bit s k ≡ 1 → bit t k ≡ 1 → ⊥) → s + t ≡ bit_or s t
add_or n s t hs ht apart =
    sym (or_disjoint s t (zero_of_none n (bit_and s t) (and_lt n s t hs ht) (λ k e. let p = (and_has s t k).0 e in apart k p.0 p.1)))

-- 2 ^ n - 1 holds all below n.
pub full_has : (n k : ℕ) → k < n → bit (2 ^ n - 1) k ≡ 1
full_has n k h =
    let same : bit_and (2 ^ k) (2 ^ n - 1) ≡ 2 ^ k = and_mask (2 ^ k) n ∙ mod-eq_of_lt (pow-lt h) in
    omega (arith, bit_and_lem (2 ^ k) (2 ^ n - 1) k, ap (λ (x : ℕ). bit x k) same, bit_pow_same k, bit_lt (2 ^ n - 1) k)
