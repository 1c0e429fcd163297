use native.Mathlib.Omega.{arith}
use Rattle.bondset.specs.Sets.{value}
use Rattle.bondset.specs.Rows.{flat}
use Rattle.bondset.proofs.Laws.{words_lt}
use Rattle.bondset.proofs.ReductionModel.{reduces_none, reduces_end}
use Rattle.bondset.proofs.IndexReduce.{reduces_reaching}
use Rattle.bondset.proofs.indexed.reduce.Goals as goal

pub returns-then-to-from : goal.returns-then-to-from
returns-then-to-from c =
    let a = c.args in
    reduces_end (flat a.rows.now) (flat a.tags.now) a.pivots.now a.from (value a.v.rest) (value a.v.used) a.from a.to
    (value a.v.rest) (value a.v.used) (omega arith)
    (reduces_none (flat a.rows.now) (flat a.tags.now) a.pivots.now a.from (value a.v.rest) (value a.v.used))

pub returns : goal.returns
returns c =
    let x = c.args.index in
    reduces_reaching c.requires.reaches (words_lt 64 x.fresh.hi x.fresh.lo (omega arith) (omega arith)) (words_lt 64 x.late.hi x.late.lo (omega arith) (omega arith))
    c.intersection-hits.ensures c.add_placed-w.ensures c.add_late.ensures
