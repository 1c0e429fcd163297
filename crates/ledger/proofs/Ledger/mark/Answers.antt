-- One more row, and one more class.
use Rattle.bondset.specs.Sets.{value}
use Rattle.ledger.proofs.Entered.{pivot_stored_lem}
use Rattle.ledger.proofs.Ledger.mark.Goals as goal

pub returns : goal.returns
returns c =
    let L = c.args.self.now in
    let v = c.args.v in
    let p = rw L.counted at c.push.ensures.pushed in
    record {
      is =
          λ table. c.mark.ensures.marked.is (value v.rest) (value v.used) _ _ _ _ _ _ table p.row_stored p.tag_stored
          (pivot_stored_lem (rw L.counted at L.indexed) (value v.rest) p.entered.pivot_stored);
    }
