-- A label in the set becomes the lowest of the set.
use Rattle.std.proofs.Common.{◌≡◌, get_or, sym, ap, ◌∙◌}
use lib.ListN.{set}
use Rattle.bondset.specs.Sets.{has, value}
use Rattle.model.specs.State.{relabel as relabelled}
use Rattle.labels.proofs.relabel.Goals as goal
use Rattle.labels.proofs.relabel.Goals.{After-member}

-- What the test says of the label.
tested : (c : After-member) → c.member.result ≡ has (value c.args.w) (get_or c.args.labels.now c.args.j 0)
tested c = c.member.ensures ∙ ap (has (value c.args.w)) c.from.ensures

pub returns-then-member : goal.returns-then-member
unfolding relabelled
returns-then-member c =
    let a = c.args in
    rw (sym (tested (goal.at.returns-then-member c).After-member) ∙ c.if-member.true) (ap (set a.labels.now a.j) c.lowest.ensures)

pub returns-else-member : goal.returns-else-member
unfolding relabelled
returns-else-member c = rw (sym (tested (goal.at.returns-else-member c).After-member) ∙ c.if-member.false)
