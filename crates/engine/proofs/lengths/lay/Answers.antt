-- The layers of the plan share no atom.
use Rattle.std.proofs.Common.{arith}
use Rattle.atoms.specs.Nets.{neighbours}
use Rattle.counting.proofs.Layered.{layers_disjoint}
use Rattle.engine.proofs.lengths.lay.Goals as goal

pub returns-clause-place : goal.returns-clause-place
returns-clause-place c =
    let a = c.args in
    let disjoint = layers_disjoint (neighbours a.adj.now) _ a.r (λ i. (c.type_inv.adj i).fits) (omega arith) a.depth a.layers.now (omega arith) a.depth (omega arith) in
    record { deep = omega arith; disjoint = rw c.layers.ensures disjoint }
