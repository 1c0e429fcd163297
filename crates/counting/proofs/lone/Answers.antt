use Rattle.std.proofs.Common.{◌≡◌, arith, rules}
use Rattle.counting.proofs.Tables.{down_start, down_next, down_end}
use Rattle.counting.proofs.lone.Goals as goal

pub loop-layer-init : goal.loop-layer-init
loop-layer-init c =
    let a = c.args in
    rw (c.into_iter-layer-iterator.ensures.into_iter_gives, c.rev-layer-items.ensures.source, c.iter.ensures.rest)
    (search rules, search rules, down_start a.adj.now a.layers.now a.d a.t c.requires.t_bound c.requires.d_in_bounds)

pub loop-layer-preserved : goal.loop-layer-preserved
loop-layer-preserved c =
    let way = c.in-Some-default-eq0 in
    let alone : way.field-0-1 ≡ 0 = omega (arith, way.field-0-1-test) in
    (search rules, search rules, down_next c.loop-layer.invariant.2 _ _ c.in-Some.ensures.steps (rw alone at way.ensures))

pub returns : goal.returns
returns c e = down_end c.loop-layer.invariant.2 c.in-None.ensures.steps.0
