-- The word of the atoms below one.
use mathlib.Core.Path.{◌≡◌, sym, ap, ◌∙◌}
use Prim.Native.Nat.{ℕ, ◌+◌, ◌-◌, ◌*◌, ◌/◌, ◌^◌, ◌≤◌}
use native.Mathlib.Nat.{div-eq_of_lt-le}
use Rattle.std.proofs.lemmas.Nat.{pow-add}
use native.Mathlib.Omega.{arith}
use lib.Pow.{pow_pos}

-- The word of the atoms below n, from the word of all.
pub below_all : (n : ℕ) → n ≤ 64 → (2 ^ 64 - 1) / 2 ^ (64 - n) ≡ 2 ^ n - 1
below_all n h =
    let high = 2 ^ n in
    let low = 2 ^ (64 - n) in
    let e : n + (64 - n) ≡ 64 = omega arith in
    let whole : high * low ≡ 2 ^ 64 = sym (pow-add 2 n (64 - n)) ∙ ap (λ (k : ℕ). 2 ^ k) e in
    let some : high - 1 + 1 ≡ high = omega (arith, pow_pos n) in
    div-eq_of_lt-le low (omega (arith, whole, pow_pos n, pow_pos (64 - n), ap (λ (x : ℕ). x * low) some))
    (omega (arith, whole, ap (λ (x : ℕ). x * low) some))
