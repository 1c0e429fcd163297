-- The neighbours gathered so far and those of the atoms left make up those of the part.
use Rattle.std.proofs.Common.{drop}
use Rattle.model.proofs.NetNear.{gather}
use Rattle.model.proofs.Turns.{Left}
use Rattle.atoms.specs.Nets.{neighbours}
use Rattle.search.specs.Queue.{beside}
use Rattle.search.proofs.queue.Queue.beside.Given as goal

abbrev pub invariant-loop-a : goal.invariant-loop-a
invariant-loop-a l =
    let G = neighbours l.fn.adj in
    Left (gather G) (drop l.a-index l.a-items) l.all (beside G l.fn.self)
