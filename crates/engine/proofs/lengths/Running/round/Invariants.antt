-- The top atoms tried so far and those left make up those of the compound; then the length is settled.
use Rattle.bondset.specs.Sets.{members}
use Rattle.model.specs.Net.{preceding}
use Rattle.model.specs.Loops.{top_loop, length_loop}
use Rattle.model.proofs.Turns.{Left}
use Rattle.candidates.specs.Engine.{attempted}
use Rattle.candidates.specs.Nets.{lent_graph}
use Rattle.engine.specs.Lengths.{running_of}
use Rattle.engine.proofs.lengths.Running.round.Given as goal

abbrev pub invariant-loop-r : goal.invariant-loop-r
invariant-loop-r l =
    let net = lent_graph l.fn.task.net in
    let attempt = attempted net l.fn.task.from in
    (goal.iterator-loop-r).can_next l.r-iterator × (goal.iterator-loop-r).is_finite l.r-iterator
    × Left (top_loop net attempt preceding l.k) (members 64 l.r-iterator.rest) (running_of l.self l.out l.table l.sizes)
    (length_loop net attempt preceding l.k (running_of l.initial.self l.initial.out l.table l.initial.sizes))
