use Rattle.std.proofs.Common.{refl, ◌∙◌, arith, rules}
use Rattle.std.proofs.lemmas.List.{length-take-le}
use Rattle.model.specs.Net.{bond}
use Rattle.paths.proofs.Steps.{apart_one, apart_other, walking_start, walking_on, walking_stops, walking_end}
use Rattle.paths.proofs.walk.Goals as goal

pub loop-i-init : goal.loop-i-init
loop-i-init c =
    let a = c.args in
    rw (c.into_iter-i-iterator.ensures.into_iter_gives, c.rev-i-items.ensures.source, c.enumerate.ensures.source, c.enumerate.ensures.count, c.iter.ensures.rest) (
      (tt, tt, omega (arith, length-take-le a.d a.layers.now c.requires.d_in_bounds)),
      tt,
      refl,
      walking_start _ a.layers.now a.d a.p a.q _ c.requires.p_bound c.requires.q_bound c.requires.d_in_bounds,
    )

pub longer-sum-requires : goal.longer-sum-requires
longer-sum-requires c =
    let on = c.in-Some-step.ensures.2 in
    let a = apart_one _ _ _ on in
    let b = apart_other _ _ _ on in
    search rules

pub loop-i-preserved : goal.loop-i-preserved
unfolding bond
loop-i-preserved c =
    let l = c.loop-i.invariant in
    let turn = c.in-Some.ensures.steps in
    let next = c.in-Some-step.ensures in (
      (tt, tt, omega (arith, turn.0, turn.1.1, turn.1.2)),
      tt,
      turn.0 ∙ l.2,
      walking_on l.3 _ _ turn.1.0 next.0 next.1 next.2 (omega (arith, turn.1.1, l.2)) c.longer-sum.ensures,
    )

pub returns-in_default : goal.returns-in_default
returns-in_default c =
    let l = c.loop-i.invariant in
    let turn = c.in-Some.ensures.steps in
    c.empty.ensures ∙ walking_stops l.3 _ _ turn.1.0 c.in_default.ensures (omega (arith, turn.1.1, l.2))

pub returns : goal.returns
returns c = walking_end c.in-None.ensures.steps.1.0 c.loop-i.invariant.3
