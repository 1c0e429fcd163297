-- The engine's claim for every row number, read from the reply.
use Rattle.hatch.proofs.Telling.{families_told}
use Rattle.hatch.proofs.rings_families.Goals as goal

pub returns : goal.returns
returns c =
    let told = families_told c.families.result c.told.ensures c.families.ensures in
    record { answered = told.0; plain = told.1 }
