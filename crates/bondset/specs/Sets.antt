-- Sets of bonds as numbers: the definitions that the contracts cite.
-- A bond set is any set of bonds: one bit for each, bond k having weight 2^k. Its length is the number of bonds in it.
-- The sum of two sets holds the bonds in exactly one of them: it is `bit_xor` of `std`, and the bonds in both are its `bit_and`.
use Rattle.std.specs.Prelude.{◌≡◌, Bool, cond, List, [], ◌∷◌, ◌++◌, ℕ, zero, suc, ◌+◌, ◌*◌, ◌/◌, ◌%◌, ◌^◌, ◌<◌, eqb, ltb}
use Rattle.spans.specs.Elements.{◌∈◌}
use Rattle.bondset.specs.declared.BondSet.{BondSet}

-- one bit for each bond: 1 if bond k is in s, and 0 if not
abbrev pub bit : ℕ → ℕ → ℕ
bit s k = s / 2 ^ k % 2

-- whether bond k is in s
abbrev pub has : ℕ → ℕ → Bool
has s k = eqb (bit s k) 1

-- the number that two words stand for: bond k has weight 2^k
abbrev pub value : BondSet → ℕ
value b = b.hi * 2 ^ 64 + b.lo

-- the set of bond k alone, of the 128 bonds that there is room for: empty beyond
unfoldable pub single : ℕ → ℕ
single k = cond (ltb k 128) (2 ^ k) 0

-- the number of bonds below n that are in s: its length, if all its bonds are below n
unfoldable pub length_to : ℕ → ℕ → ℕ
length_to zero s = zero
length_to (suc n) s = bit s n + length_to n s

-- k, if the bit is 1
abbrev pub if_set : ℕ → ℕ → List ℕ
if_set zero k = []
if_set (suc b) k = k ∷ []

-- the bonds below n that are in s, ascending
unfoldable pub members : ℕ → ℕ → List ℕ
members zero s = []
members (suc n) s = members n s ++ if_set (bit s n) n

-- each number of the list is below all that follow it
pub data Climbs : List ℕ → Type 0 where
  none : Climbs []
  next : {x : ℕ} {xs : List ℕ} → ((y : ℕ) → y ∈ xs → x < y) → Climbs xs → Climbs (x ∷ xs)

-- k is the lowest bond of s
pub record Lowest (s k : ℕ) : Type 0 where
  pub here : bit s k ≡ 1
  pub below : (j : ℕ) → j < k → bit s j ≡ 0
