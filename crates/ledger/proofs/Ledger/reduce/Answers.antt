-- The rows of the shorter marked rings are the first ones.
use Rattle.std.proofs.Common.{◌∙◌, arith}
use Rattle.ledger.proofs.Entered.{lacks_first}
use Rattle.ledger.proofs.Ledger.reduce.Goals as goal

pub returns : goal.returns
returns c =
    let L = c.args.self.now in
    record {
      rest_is = c.reduce.ensures.rest;
      names_are = c.reduce.ensures.used ∙ rw c.empty.ensures;
      lacks = lacks_first L.indexed (omega (arith, L.classes.tally.short_fit, L.counted)) c.reduce.ensures;
    }
