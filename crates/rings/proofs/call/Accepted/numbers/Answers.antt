-- An accepted compound has bonds enough to hang together.
use Rattle.engine.proofs.Accepted.{accepted_bonds}
use Rattle.rings.proofs.Grounding.{standing}
use Rattle.rings.proofs.call.Accepted.numbers.Goals as goal

pub cyclomatic-requires : goal.cyclomatic-requires
cyclomatic-requires c = accepted_bonds _ (standing c.args.self.now.stands).accepted
