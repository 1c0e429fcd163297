use native.Mathlib.Omega.{arith}
use Rattle.model.specs.Loops.{top_step, tops}
use Rattle.atoms.proofs.Loops.{upto_start, upto_next, upto_end}
use Rattle.atoms.proofs.nets.View.tops.Goals as goal

pub loop-r-init : goal.loop-r-init
loop-r-init c = (omega arith, upto_start _ 0 0)

pub loop-r-preserved : goal.loop-r-preserved
loop-r-preserved c = (omega arith, upto_next _ (omega arith) c.top_step-all.ensures c.loop-r.invariant.1)

pub returns : goal.returns
unfolding tops top_step
returns c = upto_end _ (omega arith) c.loop-r.invariant.1
