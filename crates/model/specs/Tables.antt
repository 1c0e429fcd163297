-- The numbers that a family's shares are made of, in tables with a place for each atom: filled layer by layer, no atom being in two layers.
use Rattle.std.specs.Prelude.{cond, ◌&&◌, ◌||◌, List, ℕ, zero, suc, ◌+◌, ◌*◌, ◌-◌, eqb, get_or, set, replicate}
use Rattle.std.specs.Int.Bits.{bit_and}
use Rattle.bondset.specs.Sets.{has, members}
use Rattle.cycles.specs.Compound.{Compound, m, one, other}
use Rattle.cycles.specs.Family.{Family}
use Rattle.cycles.specs.Rows.{Row}
use Rattle.cycles.specs.Through.{sum_to}
use Rattle.model.specs.Fold.{through, count}
use Rattle.model.specs.Net.{Net, net_of, nbrs}
use Rattle.model.specs.Through.{in_link, deep, layers_of}

module _ (G : Net) where
  -- What atom t gathers: the sum over its neighbours in a set.
  unfoldable pub gathered : ℕ → (ℕ → ℕ) → ℕ → ℕ
  gathered from F t = through (λ s acc. acc + F s) (members 64 (bit_and (nbrs G t) from)) 0

  -- Each atom of the set `to` gets what it gathers from the places of its neighbours in the set `from`.
  unfoldable pub gather_into : ℕ → ℕ → List ℕ → List ℕ
  gather_into from to table = through (λ t table. set table t (gathered from (λ s. get_or table s 0) t)) (members 64 to) table

  -- From a table with layer 0, the layers 0 to d.
  unfoldable pub down_table : List ℕ → ℕ → List ℕ → List ℕ
  down_table us zero table = table
  down_table us (suc e) table = gather_into (get_or us e 0) (get_or us (suc e) 0) (down_table us e table)

  -- From a table with layer e + i, the layers e to e + i.
  unfoldable pub up_table : List ℕ → ℕ → ℕ → List ℕ → List ℕ
  up_table us zero e table = table
  up_table us (suc i) e table = gather_into (get_or us (suc e) 0) (get_or us e 0) (up_table us i (suc e) table)

-- With the two tables of a family: `up`, the numbers that reach an atom, and `down`, the numbers of paths from it.
module _ (G : Net) (us : List ℕ) (d : ℕ) (f : Family) (up down : List ℕ) where
  -- The size.
  unfoldable pub size_by_tables : ℕ
  size_by_tables = get_or down f.p 0 * get_or down f.q 0

  -- The members that step from t, in layer e + 1, to s, in layer e.
  unfoldable pub step_by_tables : ℕ → ℕ → ℕ → ℕ
  step_by_tables e t s = cond (has (get_or us (suc e) 0) t && has (get_or us e 0) s) (get_or up t 0 * get_or down s 0) 0

  -- The members that hold the bond of a and b.
  unfoldable pub bond_by_tables : ℕ → ℕ → ℕ
  bond_by_tables a b = sum_to d (λ e. step_by_tables e a b + step_by_tables e b a) + cond (in_link G us d f a b) size_by_tables 0

  -- The members that meet a.
  unfoldable pub atom_by_tables : ℕ → ℕ
  atom_by_tables a =
      sum_to d (λ e. cond (has (get_or us (suc e) 0) a) (get_or up a 0 * get_or down a 0) 0) + cond (eqb f.r a || eqb f.x a) size_by_tables 0

-- The two tables of a family, from zeros.
module _ (G : Net) (us : List ℕ) (d : ℕ) (f : Family) where
  -- 1 at the top, and then layer by layer.
  unfoldable pub down_of : List ℕ
  down_of = down_table G us d (set (replicate 64 0) f.r 1)

  -- At p the number of paths from q, at q the number of paths from p, and then layer by layer to layer 1.
  unfoldable pub up_of : List ℕ
  up_of = up_table G us (d - 1) 1 (set (set (replicate 64 0) f.p (get_or down_of f.q 0)) f.q (get_or down_of f.p 0))

-- Each of the first n places gets its share more.
unfoldable pub add_into : (ℕ → ℕ) → ℕ → List ℕ → List ℕ
add_into share n table = through (λ k table. set table k (get_or table k 0 + share k)) (count 0 n) table

-- The shares of all rows.
unfoldable pub entries_into : (Row → ℕ → ℕ) → ℕ → List Row → List ℕ → List ℕ
entries_into share n rows table = through (λ row table. add_into (share row) n table) rows table

-- The counts of a compound's bonds and atoms, all rows together: each row's layers and two tables serve for all bonds and all atoms.
module _ (c : Compound) (pre : ℕ → ℕ) where
  -- The members of a row's family that hold bond k.
  unfoldable pub bond_of_row : Row → ℕ → ℕ
  bond_of_row row k =
      let f = row.family in
      let us = layers_of c pre f in
      bond_by_tables (net_of c) us (deep f) f (up_of (net_of c) us (deep f) f) (down_of (net_of c) us (deep f) f) (one c k) (other c k)

  -- The members of a row's family that meet atom a.
  unfoldable pub atom_of_row : Row → ℕ → ℕ
  atom_of_row row a =
      let f = row.family in
      let us = layers_of c pre f in
      atom_by_tables (net_of c) us (deep f) f (up_of (net_of c) us (deep f) f) (down_of (net_of c) us (deep f) f) a

  -- Entry k: how many rings hold bond k.
  unfoldable pub bond_counts : List Row → List ℕ
  bond_counts rows = entries_into bond_of_row (m c) rows (replicate (m c) 0)

  -- Entry a: how many rings meet atom a.
  unfoldable pub atom_counts : List Row → List ℕ
  atom_counts rows = entries_into atom_of_row c.n rows (replicate c.n 0)
