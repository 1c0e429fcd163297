-- One turn for each atom.
use Prim.Native.Nat.{◌-◌, ◌≤◌}
use Rattle.model.specs.Net.{preceding}
use Rattle.model.specs.Loops.{top_step}
use Rattle.atoms.specs.Nets.{neighbours}
use Rattle.atoms.proofs.Loops.{Upto}
use Rattle.atoms.proofs.nets.View.tops.Given as goal

abbrev pub invariant-loop-r : goal.invariant-loop-r
invariant-loop-r l = (l.r ≤ l.fn.self.n) × Upto (top_step (neighbours l.fn.self.adj.now) preceding) 0 0 l.r l.all

abbrev pub decreases-loop-r : goal.decreases-loop-r
decreases-loop-r l = l.fn.self.n - l.r
