-- Exclusive or, the test of equality, and counting below a bound: how many k < n have a property, and whether that number is odd.
use Rattle.std.specs.Prelude.{Bool, true, false, not, ℕ, zero, suc, ◌+◌, eqb}

-- Exclusive or.
abbrev pub xor : Bool → Bool → Bool
xor true b = not b
xor false b = b

-- Whether two numbers are equal.
unfoldable pub same : ℕ → ℕ → Bool
same a b = eqb a b

-- A truth value as a number.
abbrev pub val : Bool → ℕ
val true = 1
val false = 0

-- How many k < n have f.
unfoldable pub cnt : (ℕ → Bool) → ℕ → ℕ
cnt f zero = 0
cnt f (suc n) = val (f n) + cnt f n

-- Whether the number of k < n that have f is odd.
unfoldable pub par : (ℕ → Bool) → ℕ → Bool
par f zero = false
par f (suc n) = xor (f n) (par f n)

-- The set g with k put in, or taken out where it has k.
abbrev pub flip : ℕ → (ℕ → Bool) → ℕ → Bool
flip k g j = xor (same k j) (g j)
