-- Counts of rings in a lent buffer.
use Rattle.std.specs.Prelude.{List, [], ◌∷◌, ◌++◌, ℕ, ◌*◌, drop}
use Rattle.bondset.specs.Bytes.{bytes_of, of_first}

-- "8 bytes a bond, low byte first."
unfoldable pub count_bytes : List ℕ → List ℕ
count_bytes [] = []
count_bytes (x ∷ xs) = bytes_of 8 x ++ count_bytes xs

-- Entry k of a left buffer.
unfoldable pub entry_at : List ℕ → ℕ → ℕ
entry_at left k = of_first 8 (drop (8 * k) left)
