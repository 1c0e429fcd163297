-- One more family of a class, or of several that are joined.
use Rattle.std.proofs.Common.{refl}
use Rattle.bondset.specs.Sets.{value}
use Rattle.labels.proofs.Below.{joined_labelled}
use Rattle.rows.specs.Values.{family_of}
use Rattle.ledger.specs.Held.{ledger_with}
use Rattle.ledger.proofs.Entered.{sum_is}
use Rattle.ledger.proofs.Classes.sum_up.Goals as goal

pub invariant_of-self-2 : goal.invariant_of-self-2
invariant_of-self-2 c =
    let L = c.args.self.now in
    record {
      labelled = rw c.join.ensures (joined_labelled L.tally.short L.tally.marks (value c.args.s) L.labels L.labelled);
    }

pub returns-clause-sums : goal.returns-clause-sums
returns-clause-sums c =
    let a = c.args in
    let low = c.lowest-j in
    record {
      is =
          λ rows tags pivots table. sum_is (family_of a.f) (ledger_with a.self.now rows tags pivots a.out.now table) _ refl _ (value a.s) low.result low.ensures _ _ c.join.ensures c.hold.ensures
          c.put_family.ensures;
    }
