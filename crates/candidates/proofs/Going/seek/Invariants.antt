-- The candidates tried so far and those ahead of the cursor make up all of them.
use Prim.Native.Nat.{◌-◌, ◌/◌}
use lib.ListN.{get_or}
use Rattle.model.specs.Candidates.{found}
use Rattle.candidates.specs.Cursor.{ahead}
use Rattle.candidates.specs.Nets.{lent_graph}
use Rattle.candidates.specs.Engine.{attempted}
use Rattle.candidates.proofs.Trying.{Trying}
use Rattle.candidates.proofs.Going.seek.Given as goal

abbrev pub invariant-loop-p : goal.invariant-loop-p
invariant-loop-p l =
    (goal.iterator-loop-p).can_next l.p-iterator × (goal.iterator-loop-p).is_finite l.p-iterator
    × Trying (attempted (lent_graph l.fn.net) l.fn.from l.fn.layers ((l.fn.k - 1) / 2)) l.fn.k l.fn.r (get_or l.fn.layers ((l.fn.k - 1) / 2) 0)
    (found (lent_graph l.fn.net) l.fn.k l.fn.r (get_or l.fn.layers (l.fn.k / 2) 0) (get_or l.fn.layers (l.fn.k / 2 - 1) 0))
    l.initial.self l.initial.out l.initial.sizes (ahead l.p-iterator) l.self l.out l.sizes
