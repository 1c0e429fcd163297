-- One turn for each length.
use Prim.Native.Nat.{◌-◌, ◌≤◌}
use lib.ListN.{replicate}
use Rattle.model.specs.Loops.{running}
use Rattle.atoms.proofs.Loops.{Upto}
use Rattle.candidates.specs.Nets.{lent_graph}
use Rattle.engine.specs.Lengths.{round_by, begun, running_of}
use Rattle.engine.proofs.lengths.run.Given as goal

abbrev pub invariant-loop-k : goal.invariant-loop-k
invariant-loop-k l =
    (l.k - 3 ≤ l.fn.net.n - 2)
    × Upto (round_by (lent_graph l.fn.net) l.from l.full) 3 (running (replicate 33 0) (begun l.initial.out l.initial.table l.initial.sizes)) (l.k - 3)
    (running_of l.running l.out l.table l.sizes)
