-- The engine's claim with the size, read from the reply.
use Rattle.hatch.proofs.Telling.{size_told}
use Rattle.hatch.proofs.rings_family_size.Goals as goal

pub returns : goal.returns
returns c =
    let told = size_told c.family_size.result c.into.ensures c.family_size.ensures in
    record { answered = told.0; plain = told.1 }
