-- `word`: it is copied to its place.
use Rattle.std.proofs.Common.{rules}
use Rattle.listingtext.proofs.Writing.{wrote_copied}
use Rattle.listingtext.proofs.Page.word.Goals as goal

pub returns-clause-adds : goal.returns-clause-adds
returns-clause-adds c = record { wrote = wrote_copied _ _ _ _ c.copy_from_slice.ensures.after c.requires; buffer = search rules; room = search rules }
