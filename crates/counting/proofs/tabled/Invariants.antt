-- The table of layer 0, then of each layer from that of the one before, up to that of p and q.
use Rattle.counting.specs.Counts.{Table}
use Rattle.counting.proofs.tabled.Given as goal

abbrev pub invariant-loop-e : goal.invariant-loop-e
invariant-loop-e l = Table l.adj l.layers l.e l.counts
