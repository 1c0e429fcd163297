-- A row of the range whose pivot the rest holds is added, with its tag, and no other.
use mathlib.Core.Path.{◌≡◌, sym, ap, ◌∙◌}
use mathlib.Core.Bool.{true, false}
use lib.ListN.{get_or}
use Rattle.bondset.specs.Sets.{value, has}
use Rattle.bondset.specs.Rows.{flat}
use Rattle.bondset.proofs.IndexReduce.{held_added, held_left, held_beyond}
use Rattle.bondset.proofs.indexed.add_held.Goals as goal

pub returns-then-to-i : goal.returns-then-to-i
returns-then-to-i c =
    let a = c.args in
    let s = value a.v.rest in
    record {
      rest = sym (held_beyond (flat a.rows.now) a.pivots.now a.from a.to s a.i c.if-to-i.true s);
      used = sym (held_beyond (flat a.tags.now) a.pivots.now a.from a.to s a.i c.if-to-i.true (value a.v.used));
    }

pub returns-then-member : goal.returns-then-member
returns-then-member c =
    let a = c.args in
    let s = value a.v.rest in
    let e : has s (get_or a.pivots.now a.i 0) ≡ true = ap (has s) (sym c.from.ensures) ∙ sym c.member.ensures ∙ c.if-member.true in
    record {
      rest = c.add_within.ensures.rest ∙ sym (held_added (flat a.rows.now) a.pivots.now a.from a.to s a.i e s);
      used = c.add_within.ensures.used ∙ sym (held_added (flat a.tags.now) a.pivots.now a.from a.to s a.i e (value a.v.used));
    }

pub returns : goal.returns
returns c =
    let a = c.args in
    let s = value a.v.rest in
    let e : has s (get_or a.pivots.now a.i 0) ≡ false = ap (has s) (sym c.from.ensures) ∙ sym c.member.ensures ∙ c.if-member.false in
    record {
      rest = sym (held_left (flat a.rows.now) a.pivots.now a.from a.to s a.i e s);
      used = sym (held_left (flat a.tags.now) a.pivots.now a.from a.to s a.i e (value a.v.used));
    }
