use Rattle.labels.proofs.Turns.{turn, turned}
use Rattle.rows.specs.Rows.{patched}
use Rattle.rows.proofs.patch.Goals as goal

pub loop-i-preserved : goal.loop-i-preserved
loop-i-preserved c =
    turn (patched c.args.labels.now) c.loop-i.i c.min-i-end.result c.loop-i.out _ c.loop-i-test.true _ c.patch_one.ensures c.loop-i.invariant

pub returns : goal.returns
returns c =
    rw (← c.min-i-end.ensures)
    (turned (patched c.args.labels.now) c.loop-i.i c.min-i-end.result c.loop-i.out _ c.loop-i-test.false c.loop-i.invariant)
