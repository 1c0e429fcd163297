-- Lent words as a net of the model, and when two paths go on side by side.
use Rattle.std.specs.Prelude.{Bool, ◌&&◌, not, List, ℕ, eqb, ltb, get_or}
use Rattle.std.specs.Int.Bits.{bit_and}
use Rattle.model.specs.Net.{Net}
use Rattle.model.specs.Layer.{low}

-- The net with these neighbours and these bonds; its number of atoms plays no part in walks and ways.
abbrev pub net : List ℕ → List ℕ → Net
net adj touch = record { n = 0; adj = adj; touch = touch }

-- The lowest neighbour of an atom in a layer: 64 if it has none there.
abbrev pub nearest : List ℕ → ℕ → ℕ → ℕ
nearest adj layer a = low (bit_and (get_or adj a 0) layer)

-- Both atoms are there, and they are not one atom below the top, i steps under it.
unfoldable pub apart : ℕ → ℕ → ℕ → Bool
apart a b i = (ltb a 64 && ltb b 64) && not (eqb a b && ltb 0 i)
