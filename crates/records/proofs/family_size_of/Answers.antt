-- The claim of the byte form on the bytes lent is that on the records' bytes.
use Rattle.records.proofs.Copying.{answered_copied}
use Rattle.records.proofs.family_size_of.Goals as goal

pub returns : goal.returns
returns c = answered_copied c.args.bonds.now c.lent.ensures.counted c.copied-all.ensures c.family_size.ensures
