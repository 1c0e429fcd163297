-- The atoms before those left are appended.
use Rattle.std.proofs.Common.{◌≡◌}
use Rattle.bondset.specs.Sets.{members}
use Rattle.search.proofs.Queues.{Appending}
use Rattle.search.proofs.queue.Queue.append.Given as goal

abbrev pub invariant-loop-t : goal.invariant-loop-t
invariant-loop-t l =
    (goal.iterator-loop-t).can_next l.t-iterator × (goal.iterator-loop-t).is_finite l.t-iterator
    × (l.self.end ≡ l.fn.self.end)
    × Appending l.fn.self.atoms l.fn.self.end l.fn.s l.self.atoms l.end (members 64 l.t-iterator.rest)
