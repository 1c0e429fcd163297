use Rattle.std.proofs.Common.{arith, rules, length, ◌∷◌, [], length-append, ◌∙◌}
use Rattle.listingtext.specs.Listing.{class_lines}
use Rattle.listingtext.proofs.Writing.{adds_none, classes_more}
use Rattle.listingtext.proofs.Turns.{row_here, row_next}
use Rattle.listingtext.proofs.Page.classes.Goals as goal

pub loop-class-init : goal.loop-class-init
unfolding class_lines
loop-class-init c = record {
  start = search rules;
  end = search rules;
  width = search rules;
  rows = search rules;
  upper_bound = omega arith;
  adds = adds_none _;
}

pub loop-class-preserved : goal.loop-class-preserved
loop-class-preserved c =
    let l = c.loop-class in
    let k = length l.yielded in
    let step = c.in-Some.ensures.steps in
    let long = step.1.1.1 ∙ l.invariant.width in
    rw (length-append l.yielded ((c.in-Some.class, c.in-Some.row) ∷ [])) (record {
      start = omega (arith, step.0.1.2);
      end = step.0.0 ∙ l.invariant.end;
      width = step.1.0 ∙ l.invariant.width;
      rows = row_next c.in-Some.row.now _ 5 k _ l.invariant.rows step.1.1.0 long;
      upper_bound = omega arith;
      adds = classes_more _ k (step.0.1.1 ∙ l.invariant.start) (row_here c.in-Some.row.now _ 5 k _ l.invariant.rows step.1.1.0 long) l.invariant.adds c.class.ensures.adds;
    })
