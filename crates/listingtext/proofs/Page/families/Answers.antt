use Rattle.std.proofs.Common.{arith, rules, length, ◌∷◌, [], length-append, ◌∙◌}
use Rattle.listingtext.specs.Listing.{family_lines}
use Rattle.listingtext.proofs.Writing.{adds_none, families_more}
use Rattle.listingtext.proofs.Turns.{row_here, row_next, number_here, number_next}
use Rattle.listingtext.proofs.Page.families.Goals as goal

pub loop-row-init : goal.loop-row-init
unfolding family_lines
loop-row-init c = record {
  width = search rules;
  rows = search rules;
  sizes = search rules;
  upper_bound = omega arith;
  adds = adds_none _;
}

pub loop-row-preserved : goal.loop-row-preserved
loop-row-preserved c =
    let l = c.loop-row in
    let k = length l.yielded in
    let step = c.in-Some.ensures.steps in
    let long = step.0.1.1 ∙ l.invariant.width in
    rw (length-append l.yielded ((c.in-Some.row, c.in-Some.size) ∷ [])) (record {
      width = step.0.0 ∙ l.invariant.width;
      rows = row_next c.in-Some.row.now _ 8 k _ l.invariant.rows step.0.1.0 long;
      sizes = number_next k _ _ l.invariant.sizes step.1;
      upper_bound = omega arith;
      adds = families_more _ _ k (row_here c.in-Some.row.now _ 8 k _ l.invariant.rows step.0.1.0 long) (number_here k _ _ l.invariant.sizes step.1) l.invariant.adds
          c.family.ensures.adds;
    })
