-- `list`: the text departs, or is answered.
use Rattle.std.proofs.Common.{arith, sym}
use lib.Seq.{length-take-le}
use Rattle.listing.proofs.Lines.{read_sound, read_departs, answer_room, printed_answer}
use Rattle.listing.specs.Listed.{departs}
use Rattle.listing.proofs.list.Goals as goal

pub overflow_mul-end : goal.overflow_mul-end
overflow_mul-end c =
    let w = read_sound c.read.ensures c.in-Ok.is in
    omega (arith, w.few)

pub slice_bounds-bonds-end : goal.slice_bounds-bonds-end
slice_bounds-bonds-end c =
    let w = read_sound c.read.ensures c.in-Ok.is in
    omega (arith, w.few)

pub slice_bounds-families_sized-end : goal.slice_bounds-families_sized-end
slice_bounds-families_sized-end c =
    let w = read_sound c.read.ensures c.in-Ok.is in
    sym (length-take-le _ _ (omega (arith, w.few)))

pub write_answer-requires : goal.write_answer-requires
write_answer-requires c =
    let f = c.families_sized-answer in
    let a = f.ensures.answered 0 in
    let w = answer_room f.result a.0 a.1 in
    record {
      answer_in_bounds = omega (arith, w.families);
      answer_in_bounds_2 = omega (arith, w.families);
      answer_in_bounds_3 = omega (arith, w.classes);
      answer_in_bounds_4 = omega (arith, w.families, w.classes);
    }

pub returns-in-Err : goal.returns-in-Err
returns-in-Err c =
    let w = c.write_refusal.ensures in
    record {
      listed = record { lines = _; printed = departs (read_departs _ c.read.ensures c.in-Err.is); wrote = w.wrote };
      upper_bound = omega (arith, w.upper_bound);
    }

pub returns-in-Ok : goal.returns-in-Ok
returns-in-Ok c =
    let f = c.families_sized-answer in
    let a = f.ensures.answered 0 in
    let w = answer_room f.result a.0 a.1 in
    let s = read_sound c.read.ensures c.in-Ok.is in
    let p = c.write_answer.ensures in
    record {
      listed = record { lines = _; printed = printed_answer f.result _ _ _ s f.ensures.sized; wrote = p.wrote };
      upper_bound = omega (arith, w.families, w.classes, p.upper_bound);
    }
