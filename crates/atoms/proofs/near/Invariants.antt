-- The neighbours gathered so far and those of the atoms left make up those of the set.
use Rattle.bondset.specs.Sets.{members}
use Rattle.model.specs.Net.{near}
use Rattle.model.proofs.NetNear.{gather}
use Rattle.model.proofs.Turns.{Left}
use Rattle.atoms.specs.Nets.{neighbours}
use Rattle.atoms.proofs.near.Given as goal

abbrev pub invariant-loop-a : goal.invariant-loop-a
invariant-loop-a l =
    let net = neighbours l.fn.adj in
    (goal.iterator-loop-a).can_next l.a-iterator × (goal.iterator-loop-a).is_finite l.a-iterator
    × Left (gather net) (members 64 l.a-iterator.rest) l.all (near net l.fn.s)
