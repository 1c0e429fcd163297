-- The claim on the records' bytes for every row number, read from the reply.
use Rattle.hatch.proofs.Telling.{families_told}
use Rattle.hatch.proofs.rings_families_of.Goals as goal

pub returns : goal.returns
returns c =
    let told = families_told c.families_of-found.result c.told.ensures c.families_of-found.ensures in
    record { answered = told.0; plain = told.1 }
