-- The plain method as the engine may run it: the ring of a length, an atom and a bond, from the layers of all atoms about that atom.
use Rattle.std.specs.Prelude.{cond, ◌&&◌, List, [], ◌∷◌, ◌++◌, ℕ, suc, ◌+◌, ◌-◌, ◌/◌, ◌%◌, ◌^◌, eqb, ltb, get_or, set, replicate}
use Rattle.std.specs.Int.Bits.{bit_and, bit_xor}
use Rattle.bondset.specs.Sets.{has}
use Rattle.bondset.specs.Rows.{put_row}
use Rattle.bondset.specs.Reduction.{reduced, used, pushed_tag, pivot_of}
use Rattle.cycles.specs.Compound.{Compound, m, one, other}
use Rattle.model.specs.Fold.{through, count}
use Rattle.model.specs.Net.{Net, net_of, nbrs, bond}
use Rattle.model.specs.Layer.{layers_into, low, walk}
use Rattle.model.specs.Loops.{Running, running}

-- All atoms but v: the layers among these are the distances from v.
unfoldable pub others : ℕ → ℕ → ℕ
others n v = bit_xor (2 ^ n - 1) (2 ^ v)

module _ (G : Net) (us : List ℕ) where
  -- The ring of a bond between y and z, both d steps away; the empty set if there is none.
  unfoldable pub level_ring : ℕ → ℕ → ℕ → ℕ
  level_ring d y z = cond (has (get_or us d 0) y && has (get_or us d 0) z) (walk G us d y z (bond G y z)) 0

  -- The ring of a bond from y, d steps away, to z, one step farther; the empty set if there is none.
  unfoldable pub up_ring : ℕ → ℕ → ℕ → ℕ
  up_ring d y z =
      let w = low (bit_and (nbrs G z) (get_or us d 0)) in
      cond (has (get_or us d 0) y && has (get_or us (suc d) 0) z) (cond (eqb w y) 0 (walk G us d y w (bit_xor (bond G y z) (bond G z w)))) 0

  -- The ring of length k of the bond between y and z; the empty set if there is none.
  unfoldable pub ring_of : ℕ → ℕ → ℕ → ℕ
  ring_of k y z = cond (eqb (k % 2) 1) (level_ring (k / 2) y z) (bit_xor (up_ring (k / 2 - 1) y z) (up_ring (k / 2 - 1) z y))

-- The loops over any state: `attempt k S` is what a ring S of length k does to it.
module _ {X : Type 0} (c : Compound) (attempt : ℕ → ℕ → X → X) where
  -- The ring of a bond, if there is one.
  unfoldable pub bond_turn : List ℕ → ℕ → ℕ → X → X
  bond_turn us k j s = let S = ring_of (net_of c) us k (one c j) (other c j) in cond (eqb S 0) s (attempt k S s)

  -- The layers of all atoms about v, and then every bond.
  unfoldable pub atom_turn : ℕ → ℕ → Running X → Running X
  atom_turn k v s =
      let us = layers_into (net_of c) (others c.n v) v (k / 2) s.layers in running us (through (bond_turn us k) (count 0 (m c)) s.state)

  -- Every atom.
  unfoldable pub length_turn : ℕ → Running X → Running X
  length_turn k s = through (atom_turn k) (count 0 c.n) s

  -- Every length that a ring may have.
  unfoldable pub plain_run : X → Running X
  plain_run s = through length_turn (count 3 (c.n - 2)) (running (replicate 33 0) s)

-- What is chosen so far: how many rings, their reduction, the rings in order, and their total length.
pub record Choice : Type 0 where
  pub many : ℕ
  pub rows : List ℕ
  pub tags : List ℕ
  pub pivots : List ℕ
  pub rings : List ℕ
  pub total : ℕ

unfoldable pub no_choice : Choice
no_choice = record { many = 0; rows = replicate 164 0; tags = replicate 164 0; pivots = replicate 82 0; rings = []; total = 0 }

-- One ring more: `rest` and `names` are what its reduction left.
unfoldable pub more_choice : ℕ → ℕ → ℕ → ℕ → Choice → Choice
more_choice k S rest names s =
    record {
      many = s.many + 1;
      rows = put_row s.rows s.many rest;
      tags = put_row s.tags s.many (pushed_tag s.many names);
      pivots = set s.pivots s.many (pivot_of rest);
      rings = s.rings ++ (S ∷ []);
      total = s.total + k;
    }

-- A ring is chosen if it is no sum of rings chosen before it, and there is room.
unfoldable pub choose_ring : ℕ → ℕ → Choice → Choice
choose_ring k S s =
    let rest = reduced s.rows s.pivots 0 s.many S in
    let names = used s.rows s.tags s.pivots 0 s.many S 0 in
    cond (eqb rest 0) s (cond (ltb s.many 82) (more_choice k S rest names s) s)

-- The rings that the plain method chooses, in the order chosen.
unfoldable pub plain_choice : Compound → Choice
plain_choice c = (plain_run c choose_ring no_choice).state
