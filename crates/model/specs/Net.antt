-- A compound as the engine holds it: the neighbours and the bonds of each atom.
use Rattle.std.specs.Prelude.{List, ℕ, ◌^◌, ◌-◌, get_or, set, replicate}
use Rattle.std.specs.Int.Bits.{bit_and, bit_or, bit_xor}
use Rattle.cycles.specs.Compound.{Compound, m, one, other}
use Rattle.bondset.specs.Sets.{members, single}
use Rattle.bondset.specs.Rows.{row_at, put_row}
use Rattle.model.specs.Fold.{through, count}

-- The neighbours of each atom as a set of atoms, one word an atom; the bonds at each atom, two words an atom.
pub record Net : Type 0 where
  pub n : ℕ
  pub adj : List ℕ
  pub touch : List ℕ

-- Atom b becomes a neighbour of a.
unfoldable pub near1 : ℕ → ℕ → List ℕ → List ℕ
near1 a b adj = set adj a (bit_or (get_or adj a 0) (2 ^ b))

-- Bond k comes to the bonds at atom a.
unfoldable pub touch1 : ℕ → ℕ → List ℕ → List ℕ
touch1 a k touch = put_row touch a (bit_xor (row_at touch a) (single k))

-- The neighbours and the bonds after bond k is read.
unfoldable pub read_adj : Compound → ℕ → List ℕ → List ℕ
read_adj c k adj = near1 (other c k) (one c k) (near1 (one c k) (other c k) adj)

unfoldable pub read_touch : Compound → ℕ → List ℕ → List ℕ
read_touch c k touch = touch1 (other c k) k (touch1 (one c k) k touch)

-- After the first k bonds.
unfoldable pub adj_of : Compound → ℕ → List ℕ
adj_of c k = through (read_adj c) (count 0 k) (replicate 64 0)

unfoldable pub touch_of : Compound → ℕ → List ℕ
touch_of c k = through (read_touch c) (count 0 k) (replicate 128 0)

unfoldable pub net_of : Compound → Net
net_of c = record { n = c.n; adj = adj_of c (m c); touch = touch_of c (m c) }

-- The neighbours of atom a.
abbrev pub nbrs : Net → ℕ → ℕ
nbrs G a = get_or G.adj a 0

-- All atoms bonded to an atom of the set.
unfoldable pub near : Net → ℕ → ℕ
near G s = through (λ a acc. bit_or acc (nbrs G a)) (members 64 s) 0

-- The bond between two bonded atoms, as a bond set: the bonds at both.
unfoldable pub bond : Net → ℕ → ℕ → ℕ
bond G a b = bit_and (row_at G.touch a) (row_at G.touch b)

-- The atoms that precede r, by number: the one place that says so.
unfoldable pub preceding : ℕ → ℕ
preceding r = 2 ^ r - 1
