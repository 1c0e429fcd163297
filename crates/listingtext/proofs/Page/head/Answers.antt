-- `head`: its seven lines, one after the other.
use Rattle.listingtext.specs.Listing.{head_lines}
use Rattle.listingtext.proofs.Writing.{adds_then}
use Rattle.listingtext.proofs.Page.head.Goals as goal

pub returns-clause-adds : goal.returns-clause-adds
unfolding head_lines
returns-clause-adds c =
    adds_then c.named.ensures.adds
    (adds_then c.named-2.ensures.adds
    (adds_then c.named-3.ensures.adds
    (adds_then c.named-4.ensures.adds
    (adds_then c.named-5.ensures.adds
    (adds_then c.named-6.ensures.adds c.named-7.ensures.adds)))))
