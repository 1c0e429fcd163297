-- What fits the room of a first run is copied, what does not is written by another.
use Rattle.rings.proofs.Answering.{copied_delivered}
use Rattle.rings.proofs.call.Accepted.deliver.Goals as goal

pub returns-then-found-le8 : goal.returns-then-found-le8
returns-then-found-le8 c =
    let p = c.requires in
    copied_delivered p.fitting p.reports c.if-found-le16.true c.if-found-le8.true c.copy.ensures c.copy-then-found-le8.ensures c.copy_sizes.ensures
