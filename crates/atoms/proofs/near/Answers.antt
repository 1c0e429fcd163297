use Rattle.std.proofs.Common.{arith, rules, refl}
use Rattle.bondset.proofs.Members.{first_lt}
use Rattle.model.specs.Net.{near}
use Rattle.model.proofs.Turns.{left_next, left_none}
use Rattle.atoms.proofs.near.Goals as goal

pub loop-a-init : goal.loop-a-init
unfolding near
loop-a-init c = (search rules, search rules, record { same = rw (c.into_iter-a-iterator.ensures.into_iter_gives, c.each-a-items.ensures) refl })

pub offset_bounds-adj-a : goal.offset_bounds-adj-a
offset_bounds-adj-a c = omega (arith, first_lt 64 _ _ _ c.in-Some.ensures.steps)

pub bounds-adj-a : goal.bounds-adj-a
bounds-adj-a c = omega (arith, first_lt 64 _ _ _ c.in-Some.ensures.steps)

pub loop-a-preserved : goal.loop-a-preserved
loop-a-preserved c = (search rules, search rules, left_next _ c.in-Some.ensures.steps refl c.loop-a.invariant.2)

pub returns : goal.returns
returns c = left_none _ c.in-None.ensures.steps.0 c.loop-a.invariant.2
