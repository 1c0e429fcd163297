-- `write_refusal`: its two lines.
use Rattle.std.proofs.Common.{rules}
use Rattle.listingtext.specs.Listing.{refusal}
use Rattle.listingtext.proofs.Writing.{adds_then}
use Rattle.listingtext.proofs.write_refusal.Goals as goal

pub returns-clause-wrote : goal.returns-clause-wrote
unfolding refusal
returns-clause-wrote c = let whole = adds_then c.named.ensures.adds c.named-2.ensures.adds in search (rules, whole.wrote)
