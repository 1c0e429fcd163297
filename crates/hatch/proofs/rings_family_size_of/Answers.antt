-- The claim on the records' bytes with the size, read from the reply.
use Rattle.hatch.proofs.Telling.{size_told}
use Rattle.hatch.proofs.rings_family_size_of.Goals as goal

pub returns : goal.returns
returns c =
    let told = size_told c.family_size_of.result c.into.ensures c.family_size_of.ensures in
    record { answered = told.0; plain = told.1 }
