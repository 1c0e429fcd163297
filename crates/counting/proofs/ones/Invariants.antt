-- Each atom of the set is left, or its count is 1.
use Rattle.bondset.specs.Sets.{members}
use Rattle.counting.proofs.Tables.{Done}
use Rattle.counting.proofs.ones.Given as goal

abbrev pub invariant-loop-t : goal.invariant-loop-t
invariant-loop-t l =
    (goal.iterator-loop-t).can_next l.t-iterator × (goal.iterator-loop-t).is_finite l.t-iterator
    × Done (λ t. 1) l.fn.s (members 64 l.t-iterator.rest) l.counts
