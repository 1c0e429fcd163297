use Rattle.std.proofs.Common.{rules}
use Rattle.bondset.proofs.IndexLoops.{late_more, late_done}
use Rattle.bondset.proofs.indexed.add_late.Goals as goal

pub loop-i-preserved : goal.loop-i-preserved
loop-i-preserved c = (search rules, search rules, late_more c.loop-i.invariant.2 c.in-Some.ensures.steps c.add_held-w.ensures)

pub returns : goal.returns
returns c =
    let e = late_done c.loop-i.invariant.2 c.in-None.ensures.steps.0 in
    record { rest = e.0; used = e.1 }
