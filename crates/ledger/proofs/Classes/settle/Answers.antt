-- The classes are numbered, and then the rows name them.
use Rattle.ledger.specs.Held.{ledger_with}
use Rattle.ledger.proofs.Settled.{settle_is}
use Rattle.ledger.proofs.Classes.settle.Goals as goal

pub returns-clause-settles : goal.returns-clause-settles
returns-clause-settles c =
    let n = c.number-classes in
    let a = c.args in
    record { is = λ rows tags pivots. settle_is a.k a.first (ledger_with a.self.now rows tags pivots a.out.now a.table.now) _ n.result _ _ n.ensures.is c.patch.ensures }
