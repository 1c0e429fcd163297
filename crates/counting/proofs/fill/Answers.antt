use Rattle.std.proofs.Common.{refl, arith, rules}
use Rattle.bondset.proofs.Members.{first_lt}
use Rattle.counting.proofs.Tables.{filling_start, filling_in, filling_next, filling_end, others_next}
use Rattle.counting.proofs.fill.Goals as goal

pub loop-t-init : goal.loop-t-init
loop-t-init c =
    rw (c.into_iter-t-iterator.ensures.into_iter_gives, c.each-t-items.ensures)
    (search rules, search rules, filling_start c.requires.disjoint c.requires.table, record { stay = λ t z. refl })

pub total-requires : goal.total-requires
total-requires c =
    let l = c.loop-t.invariant.2 in
    record {
      t_bound = first_lt 64 _ _ _ c.in-Some.ensures.steps;
      t_value = filling_in c.requires.disjoint l c.in-Some.ensures.steps;
      sized = record { atoms = c.requires.sized.atoms; deep = c.requires.sized.deep; room = omega (arith, c.requires.sized.room) };
      disjoint = c.requires.disjoint;
      table = l.table;
    }

pub offset_bounds-counts-t : goal.offset_bounds-counts-t
offset_bounds-counts-t c = omega (arith, first_lt 64 _ _ _ c.in-Some.ensures.steps)

pub bounds-counts-t : goal.bounds-counts-t
bounds-counts-t c = omega (arith, first_lt 64 _ _ _ c.in-Some.ensures.steps)

pub loop-t-preserved : goal.loop-t-preserved
loop-t-preserved c =
    let l = c.loop-t.invariant in
    let more = c.in-Some.ensures.steps in (
      search rules,
      search rules,
      filling_next c.requires.disjoint l.2 more (omega (arith, first_lt 64 _ _ _ more)) c.total.ensures,
      others_next c.requires.disjoint l.2 more _ l.3,
    )

pub returns : goal.returns
returns c = record {
  next_table = filling_end c.requires.disjoint c.loop-t.invariant.2 c.in-None.ensures.steps.0;
  others = c.loop-t.invariant.3;
}
