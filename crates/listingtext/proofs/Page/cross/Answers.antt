-- `cross`: a dash or the number, and a comma.
use Rattle.std.proofs.Common.{arith}
use Rattle.listingtext.proofs.Writing.{adds_as, cross_odd, cross_even}
use Rattle.listingtext.proofs.Page.cross.Goals as goal

pub returns-in-255-clause-adds : goal.returns-in-255-clause-adds
returns-in-255-clause-adds c = adds_as (cross_odd _ c.in-255.is) c.word.ensures.adds

pub returns-in_default-clause-adds : goal.returns-in_default-clause-adds
returns-in_default-clause-adds c = adds_as (cross_even _ _ (λ e. omega arith) c.from.ensures) c.ended.ensures.adds
