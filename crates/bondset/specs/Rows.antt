-- Sets that stand in a flat array of words: row i is the set in words 2i and 2i + 1.
use Rattle.std.specs.Prelude.{List, [], ◌∷◌, ℕ, ◌+◌, ◌*◌, ◌/◌, ◌%◌, ◌^◌, get_or, set}
use Rattle.bondset.specs.declared.BondSet.{BondSet}

-- row i of a flat array of rows of two words
unfoldable pub row_at : List ℕ → ℕ → ℕ
row_at rows i = get_or rows (2 * i + 1) 0 * 2 ^ 64 + get_or rows (2 * i) 0

-- the array with the set v stored as row i
unfoldable pub put_row : List ℕ → ℕ → ℕ → List ℕ
put_row rows i v = set (set rows (2 * i) (v % 2 ^ 64)) (2 * i + 1) (v / 2 ^ 64)

-- bond sets as a flat array
unfoldable pub flat : List BondSet → List ℕ
flat [] = []
flat (v ∷ vs) = v.lo ∷ v.hi ∷ flat vs
