-- A sum of marked rings, or one more of them.
use Rattle.std.proofs.Common.{sym, ◌∙◌, arith}
use Rattle.bondset.specs.Sets.{value}
use Rattle.bondset.specs.Rows.{flat}
use Rattle.rows.specs.Values.{family_of}
use Rattle.ledger.specs.Held.{ledger_of}
use Rattle.ledger.proofs.Entered.{entered_sum, entered_mark, entered_none, lacks_more}
use Rattle.ledger.proofs.Ledger.enter.Goals as goal

pub mark-requires-clause-lacks : goal.mark-requires-clause-lacks
mark-requires-clause-lacks c =
    let L = c.args.self.now in
    lacks_more L.indexed L.classes.tally.short_fit (omega (arith, L.counted)) c.requires c.reduce-w.ensures

pub returns-then-is_empty : goal.returns-then-is_empty
returns-then-is_empty c =
    let w = c.reduce-w.ensures in
    let a = c.args in
    record {
      is =
          λ table. entered_sum (family_of a.f) (value a.v.rest) (value a.v.used) (ledger_of a.self.now a.out.now table)
          _ _ w.rest w.used (sym c.is_empty.ensures.empty ∙ c.if-is_empty.true) _ c.since-s.ensures
          _ (c.sum_up.ensures.sums.is (flat a.self.now.basis.rows) (flat a.self.now.basis.tags) a.self.now.basis.pivots table);
    }

pub returns-then-self-lt82 : goal.returns-then-self-lt82
returns-then-self-lt82 c =
    let w = c.reduce-w.ensures in
    let a = c.args in
    record {
      is =
          λ table. entered_mark (family_of a.f) (value a.v.rest) (value a.v.used) (ledger_of a.self.now a.out.now table)
          _ _ w.rest w.used (sym c.is_empty.ensures.empty ∙ c.if-is_empty.false) c.if-self-lt82.true
          (ledger_of c.mark.new.self c.mark.new.out table) (c.mark.ensures.is table);
    }

pub returns-else-self-lt82 : goal.returns-else-self-lt82
returns-else-self-lt82 c =
    let w = c.reduce-w.ensures in
    let a = c.args in
    record {
      is =
          λ table. entered_none (family_of a.f) (value a.v.rest) (value a.v.used) (ledger_of a.self.now a.out.now table)
          _ _ w.rest w.used (sym c.is_empty.ensures.empty ∙ c.if-is_empty.false) c.if-self-lt82.false;
    }
