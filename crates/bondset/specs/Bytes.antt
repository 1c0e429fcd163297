-- Bond sets as bytes: bond k is bit k mod 8 of byte k / 8.
use Rattle.std.specs.Prelude.{List, [], ◌∷◌, ◌++◌, ℕ, zero, suc, ◌+◌, ◌*◌, ◌/◌, ◌%◌, ◌^◌, get_or}

-- byte j of s: its bonds 8j to 8j + 7
abbrev pub byte_of : ℕ → ℕ → ℕ
byte_of s j = s / 2 ^ (8 * j) % 256

-- the first n bytes of s, byte 0 first
unfoldable pub bytes_of : ℕ → ℕ → List ℕ
bytes_of zero s = []
bytes_of (suc n) s = bytes_of n s ++ (byte_of s n ∷ [])

-- the set that the first n bytes of a list stand for, where a missing byte counts as 0
unfoldable pub of_first : ℕ → List ℕ → ℕ
of_first zero bs = 0
of_first (suc n) bs = get_or bs n 0 * 2 ^ (8 * n) + of_first n bs

-- the set that 12 bytes stand for: 96 bonds
abbrev pub of_bytes : List ℕ → ℕ
of_bytes = of_first 12
