-- `ended`: the number and then its end.
use Rattle.listingtext.proofs.Writing.{adds_then}
use Rattle.listingtext.proofs.Page.ended.Goals as goal

pub returns-clause-adds : goal.returns-clause-adds
returns-clause-adds c = adds_then c.number.ensures.adds c.byte.ensures.adds
