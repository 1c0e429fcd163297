-- How many rings pass through a bond, and through an atom: the share of each family, from its layers and two tables, and the sum of the shares.
use Rattle.std.specs.Prelude.{Bool, cond, ◌&&◌, ◌||◌, List, ℕ, zero, suc, ◌+◌, ◌*◌, ◌-◌, ◌/◌, eqb, get_or, replicate}
use Rattle.std.specs.Int.Bits.{bit_and}
use Rattle.spans.specs.Graded.{total}
use Rattle.bondset.specs.Sets.{has, members}
use Rattle.cycles.specs.Compound.{Compound, one, other}
use Rattle.cycles.specs.Family.{Family}
use Rattle.cycles.specs.Rows.{Row}
use Rattle.cycles.specs.Through.{sum_to}
use Rattle.model.specs.Fold.{through}
use Rattle.model.specs.Net.{Net, net_of, nbrs}
use Rattle.model.specs.Layer.{layers_into, ways}

-- What reaches atom t of layer e from layer e + i, whose atoms have `start`: each atom hands what reaches it to each of its neighbours in the layer
-- before. Where `start` is 1 at p and else 0, the number of ways from p down to t.
unfoldable pub upways : Net → List ℕ → (ℕ → ℕ) → ℕ → ℕ → ℕ → ℕ
upways G us start zero e t = start t
upways G us start (suc i) e t =
    through (λ s acc. acc + upways G us start i (suc e) s) (members 64 (bit_and (nbrs G t) (get_or us (suc e) 0))) 0

-- Whether u and w are a and b, either way round.
unfoldable pub pair : ℕ → ℕ → ℕ → ℕ → Bool
pair u w a b = (eqb a u && eqb b w) || (eqb b u && eqb a w)

-- The share of a family whose p and q are d steps below the top in the layers us.
module _ (G : Net) (us : List ℕ) (d : ℕ) (f : Family) where
  -- "The number of such paths from p times the number from q."
  unfoldable pub pairs_of : ℕ
  pairs_of = ways G us d f.p * ways G us d f.q

  -- At p the number of paths from q, and at q the number of paths from p.
  unfoldable pub ends : ℕ → ℕ
  ends t = cond (eqb f.p t) (ways G us d f.q) (cond (eqb f.q t) (ways G us d f.p) 0)

  -- What reaches atom t of layer e from p and from q: so many ways to t, each with a path from the other end.
  unfoldable pub reaching : ℕ → ℕ → ℕ
  reaching e t = upways G us ends (d - e) e t

  -- The members that step from t, in layer e + 1, to s, in layer e.
  unfoldable pub step_share : ℕ → ℕ → ℕ → ℕ
  step_share e t s = cond (has (get_or us (suc e) 0) t && has (get_or us e 0) s) (reaching (suc e) t * ways G us e s) 0

  -- Whether the bond of a and b is of the link.
  unfoldable pub in_link : ℕ → ℕ → Bool
  in_link a b = cond (eqb f.x 255) (pair f.p f.q a b) (pair f.p f.x a b || pair f.x f.q a b)

  -- The members that hold the bond of a and b.
  unfoldable pub bond_share : ℕ → ℕ → ℕ
  bond_share a b = sum_to d (λ e. step_share e a b + step_share e b a) + cond (in_link a b) pairs_of 0

  -- The members that meet a, in layer e.
  unfoldable pub layer_share : ℕ → ℕ → ℕ
  layer_share e a = cond (has (get_or us e 0) a) (reaching e a * ways G us e a) 0

  -- The members that meet a.
  unfoldable pub atom_share : ℕ → ℕ
  atom_share a = sum_to d (λ e. layer_share (suc e) a) + cond (eqb f.r a || eqb f.x a) pairs_of 0

-- How far p and q of a family are from its top.
abbrev pub deep : Family → ℕ
deep f = (f.long - 1) / 2

module _ (c : Compound) (pre : ℕ → ℕ) where
  -- The layers of a family, as far as p and q.
  unfoldable pub layers_of : Family → List ℕ
  layers_of f = layers_into (net_of c) (pre f.r) f.r (deep f) (replicate 33 0)

  -- The entry of bond k: the shares of all families.
  unfoldable pub bond_entry : List Row → ℕ → ℕ
  bond_entry rows k = total (λ row. bond_share (net_of c) (layers_of row.family) (deep row.family) row.family (one c k) (other c k)) rows

  -- The entry of atom a.
  unfoldable pub atom_entry : List Row → ℕ → ℕ
  atom_entry rows a = total (λ row. atom_share (net_of c) (layers_of row.family) (deep row.family) row.family a) rows
