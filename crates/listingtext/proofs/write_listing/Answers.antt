-- `write_listing`: the head, the families and the classes.
use Rattle.std.proofs.Common.{rules}
use Rattle.listingtext.specs.Listing.{listing}
use Rattle.listingtext.proofs.Writing.{adds_then}
use Rattle.listingtext.proofs.write_listing.Goals as goal

pub returns-clause-wrote : goal.returns-clause-wrote
unfolding listing
returns-clause-wrote c =
    let whole = adds_then c.head.ensures.adds (adds_then c.families.ensures.adds c.classes.ensures.adds) in
    search (rules, whole.wrote)
