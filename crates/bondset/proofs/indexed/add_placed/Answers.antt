use Rattle.std.proofs.Common.{arith, rules}
use Rattle.bondset.proofs.Members.{first_lt}
use Rattle.bondset.proofs.IndexLoops.{placed_more, placed_done}
use Rattle.bondset.proofs.indexed.add_placed.Goals as goal

pub bounds-place-b : goal.bounds-place-b
bounds-place-b c = omega (arith, first_lt 128 _ _ _ c.in-Some.ensures.steps)

pub loop-b-preserved : goal.loop-b-preserved
loop-b-preserved c = (search rules, search rules, placed_more c.loop-b.invariant.2 c.in-Some.ensures.steps c.from.ensures c.add_within-w.ensures)

pub returns : goal.returns
returns c =
    let e = placed_done c.loop-b.invariant.2 c.in-None.ensures.steps.0 in
    record { rest = e.0; used = e.1 }
