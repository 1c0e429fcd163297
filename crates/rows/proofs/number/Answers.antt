use Rattle.std.proofs.Common.{arith}
use Rattle.labels.proofs.Turns.{turn, turned}
use Rattle.rows.specs.Rows.{numbers_of, numbered_in}
use Rattle.rows.proofs.Numbering.{numbered_after}
use Rattle.rows.proofs.number.Goals as goal

pub loop-i-preserved : goal.loop-i-preserved
loop-i-preserved c =
    let l = c.loop-i in
    let a = c.args in
    let e = c.number_one-c.ensures in
    record {
      before = numbered_after a.k a.holds.now l.i (numbers_of l.labels l.c l.table) _ e (omega arith) l.invariant.before;
      rest = turn (numbered_in a.k a.holds.now) l.i a.to (numbers_of l.labels l.c l.table) _ (omega arith) _ e l.invariant.rest;
    }

pub returns : goal.returns
returns c =
    let l = c.loop-i in
    let a = c.args in
    let n = l.invariant.before in
    record {
      is = turned (numbered_in a.k a.holds.now) l.i a.to (numbers_of l.labels l.c l.table) _ (omega arith) l.invariant.rest;
      few = omega (arith, n.few);
      labelled = n.labelled;
    }
