-- One more marked ring, whose label is its own number.
use Rattle.std.proofs.Common.{refl}
use Rattle.rows.specs.Values.{family_of}
use Rattle.ledger.specs.Held.{ledger_with}
use Rattle.ledger.proofs.Entered.{mark_is}
use Rattle.ledger.proofs.Classes.mark.Goals as goal

pub returns-clause-marked : goal.returns-clause-marked
returns-clause-marked c =
    let a = c.args in
    record {
      is =
          λ rest names rows tags pivots rows' tags' pivots' table r t p.
          mark_is (family_of a.f) (ledger_with a.self.now rows tags pivots a.out.now table) _ refl _ rest names rows' tags' pivots' r t p c.put_family.ensures;
    }
