-- The counts of the layer before stay as they are, because the layers share no atom.
use Rattle.std.proofs.Common.{◌+◌, get_or}
use Rattle.bondset.specs.Sets.{members}
use Rattle.counting.specs.Counts.{Others}
use Rattle.counting.proofs.Tables.{Filling}
use Rattle.counting.proofs.fill.Given as goal

abbrev pub invariant-loop-t : goal.invariant-loop-t
invariant-loop-t l =
    (goal.iterator-loop-t).can_next l.t-iterator × (goal.iterator-loop-t).is_finite l.t-iterator
    × Filling l.adj l.layers l.e (members 64 l.t-iterator.rest) l.counts
    × Others (get_or l.layers (l.e + 1) 0) l.initial.counts l.counts
