-- The engine begins with no ring and all lists zero.
use Rattle.std.proofs.Common.{arith, ◌∙◌}
use Rattle.model.specs.Net.{preceding}
use Rattle.atoms.proofs.Same.{tops_same}
use Rattle.atoms.proofs.Loops.{upto_end}
use Rattle.candidates.specs.Nets.{lent_graph}
use Rattle.engine.proofs.Tried.{length_turn_lem, run_start, run_is}
use Rattle.engine.proofs.lengths.run.Goals.{else-loop-k-test, then-loop-k-test+else-k-k-end}
use Rattle.engine.proofs.lengths.run.Goals as goal

pub invariant_of-task : goal.invariant_of-task
invariant_of-task c = record { all_tops = c.tops.ensures ∙ tops_same (lent_graph c.args.net) preceding }

pub loop-k-init : goal.loop-k-init
loop-k-init c = (omega arith, run_start _ (c.new.ensures c.args.out.now c.args.table.now))

pub loop-k-preserved : goal.loop-k-preserved
loop-k-preserved c = (omega arith, length_turn_lem _ (omega arith) c.round.ensures c.loop-k.invariant.1)

pub returns : goal.returns
returns c =
    let a = c.args in
    elim c.loop-k-test.branch [
      | else-loop-k-test w ↦
          rw (w.running-is, w.out-is, w.table-is, w.sizes-is)
          (run_is (lent_graph a.net) a.from a.full c.loop-k.running (upto_end _ (omega arith) c.loop-k.invariant.1))
      | then-loop-k-test+else-k-k-end w ↦
          rw (w.running-is, w.out-is, w.table-is, w.sizes-is)
          (run_is (lent_graph a.net) a.from a.full w.round.new.self
          (upto_end _ (omega arith) (length_turn_lem _ (omega arith) w.round.ensures c.loop-k.invariant.1)))
    ]
