use Rattle.std.proofs.Common.{[], ◌+◌, arith, rules}
use Rattle.bondset.proofs.Members.{first_lt}
use Rattle.paths.specs.Nets.{net}
use Rattle.counting.proofs.Bound.{ways_fit}
use Rattle.counting.proofs.Tables.{adding_start, adding_next, adding_le, adding_end}
use Rattle.counting.proofs.total.Goals as goal

pub loop-s-init : goal.loop-s-init
loop-s-init c =
    let a = c.args in
    rw (c.into_iter-s-iterator.ensures.into_iter_gives, c.each-s-items.ensures)
    (search rules, search rules, adding_start a.adj.now a.layers.now a.e a.t)

pub offset_bounds-counts-s : goal.offset_bounds-counts-s
offset_bounds-counts-s c = omega (arith, first_lt 64 _ _ _ c.in-Some.ensures.steps)

pub bounds-counts-s : goal.bounds-counts-s
bounds-counts-s c = omega (arith, first_lt 64 _ _ _ c.in-Some.ensures.steps)

pub overflow_add-sum : goal.overflow_add-sum
overflow_add-sum c =
    let a = c.args in
    omega (
      arith,
      adding_le c.loop-s.invariant.2 c.requires.table c.in-Some.ensures.steps,
      ways_fit (net a.adj.now []) a.layers.now (a.e + 1) c.requires.disjoint (a.e + 1) a.t (omega arith) c.requires.t_value,
    )

pub loop-s-preserved : goal.loop-s-preserved
loop-s-preserved c = (search rules, search rules, adding_next c.loop-s.invariant.2 c.requires.table c.in-Some.ensures.steps)

pub returns : goal.returns
returns c = adding_end c.loop-s.invariant.2 c.in-None.ensures.steps.0
