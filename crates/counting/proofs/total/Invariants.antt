-- What is left to be added makes the number of paths.
use Rattle.std.proofs.Common.{[], ◌+◌}
use Rattle.bondset.specs.Sets.{members}
use Rattle.model.specs.Layer.{ways}
use Rattle.paths.specs.Nets.{net}
use Rattle.counting.proofs.Tables.{Adding}
use Rattle.counting.proofs.total.Given as goal

abbrev pub invariant-loop-s : goal.invariant-loop-s
invariant-loop-s l =
    let adj = l.adj in
    (goal.iterator-loop-s).can_next l.s-iterator × (goal.iterator-loop-s).is_finite l.s-iterator
    × Adding adj l.layers l.e (members 64 l.s-iterator.rest) l.sum (ways (net adj []) l.layers (l.e + 1) l.t)
