-- `named`: the word, and then the number with a newline.
use Rattle.housetext.specs.Text.{field}
use Rattle.listingtext.proofs.Writing.{adds_then}
use Rattle.listingtext.proofs.Page.named.Goals as goal

pub returns-clause-adds : goal.returns-clause-adds
unfolding field
returns-clause-adds c = adds_then c.word.ensures.adds c.ended.ensures.adds
