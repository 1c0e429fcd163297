-- `write_answer`: a full answer, or a refusal.
use Rattle.std.proofs.Common.{ap, ◌∙◌, arith}
use Rattle.rings.specs.Calls.{Answer, told}
use Rattle.rings.proofs.Refusals.{told_refusal}
use Rattle.listing.proofs.Lines.{wrote_refused, wrote_full, families_full, classes_full}
use Rattle.listing.proofs.write_answer.Goals as goal

pub write_listing-requires : goal.write_listing-requires
unfolding told
write_listing-requires c =
    let e = ap (λ (a : Answer). told a 0) c.in-Ok.is in
    let f = families_full e in
    let k = classes_full e in
    record {
      families_in_bounds = omega (arith, f);
      families_in_bounds_2 = omega (arith, f);
      classes_in_bounds = omega (arith, k);
      classes_in_bounds_2 = omega (arith, f, k);
    }

pub returns-in-Ok : goal.returns-in-Ok
unfolding told
returns-in-Ok c =
    let e = ap (λ (a : Answer). told a 0) c.in-Ok.is in
    let w = c.write_listing.ensures in
    let f = families_full e in
    let k = classes_full e in
    record { wrote = wrote_full _ _ _ _ _ e w.wrote; upper_bound = omega (arith, w.upper_bound, f, k) }

pub returns-in-Err : goal.returns-in-Err
returns-in-Err c =
    let w = c.write_refusal.ensures in
    record {
      wrote = wrote_refused _ _ _ _ _ (ap (λ (a : Answer). told a 0) c.in-Err.is ∙ told_refusal _ 0 ∙ cc) w.wrote;
      upper_bound = omega (arith, w.upper_bound);
    }
