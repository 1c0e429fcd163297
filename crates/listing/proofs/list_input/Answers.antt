-- `list_input`: what is listed for the first 4,096 bytes is what is to be listed for all.
use Rattle.listing.proofs.Lines.{listed_input}
use Rattle.listing.proofs.list_input.Goals as goal

pub returns-clause-listed : goal.returns-clause-listed
returns-clause-listed g c =
    let h = c.in_ok-n.ensures.beginning in
    listed_input _ h c.list.ensures.listed
