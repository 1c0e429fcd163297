use Rattle.std.proofs.Common.{refl, arith, rules}
use Rattle.bondset.proofs.Members.{first_lt}
use Rattle.counting.proofs.Tables.{done_start, done_next, done_end}
use Rattle.counting.proofs.ones.Goals as goal

pub loop-t-init : goal.loop-t-init
loop-t-init c =
    rw (c.into_iter-t-iterator.ensures.into_iter_gives, c.each-t-items.ensures)
    (search rules, search rules, done_start _ c.args.s _ (omega arith))

pub offset_bounds-counts-t : goal.offset_bounds-counts-t
offset_bounds-counts-t c = omega (arith, first_lt 64 _ _ _ c.in-Some.ensures.steps)

pub bounds-counts-t : goal.bounds-counts-t
bounds-counts-t c = omega (arith, first_lt 64 _ _ _ c.in-Some.ensures.steps)

pub loop-t-preserved : goal.loop-t-preserved
loop-t-preserved c =
    (search rules, search rules, done_next _ _ c.in-Some.ensures.steps (omega (arith, first_lt 64 _ _ _ c.in-Some.ensures.steps)) refl c.loop-t.invariant.2)

pub returns : goal.returns
returns c = done_end _ _ c.in-None.ensures.steps.0 c.loop-t.invariant.2
