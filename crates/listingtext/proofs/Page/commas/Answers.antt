use Rattle.std.proofs.Common.{arith}
use Rattle.listingtext.specs.Listing.{commas}
use Rattle.listingtext.proofs.Writing.{adds_none, commas_more, decimal_byte}
use Rattle.listingtext.proofs.Page.commas.Goals as goal

pub loop-x-init : goal.loop-x-init
unfolding commas
loop-x-init c = record { upper_bound = omega arith; adds = adds_none _ }

pub loop-x-preserved : goal.loop-x-preserved
loop-x-preserved c =
    let l = c.loop-x in
    record {
      upper_bound = omega (arith, decimal_byte c.from.result (omega (arith, c.type_inv.fields l.x-index)));
      adds = commas_more _ l.x-index c.from.result (omega arith) c.from.ensures l.invariant.adds c.ended.ensures.adds;
    }
