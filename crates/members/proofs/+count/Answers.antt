use Rattle.members.proofs.Tabled.{tables_top, tables_next}
use Rattle.members.proofs.+count.Goals as goal

pub returns-then-d-eq0 : goal.returns-then-d-eq0
returns-then-d-eq0 t c = tables_top c.args.adj.now c.args.layers.now c.args.d _ c.if-d-eq0.true c.ones.ensures

pub returns : goal.returns
returns t c =
    let a = c.args in
    tables_next a.adj.now a.layers.now a.d _ _ c.if-d-eq0.false c.requires.disjoint c.count.ensures c.fill.ensures.next_table c.fill.ensures.others
