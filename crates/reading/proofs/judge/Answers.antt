-- The tests in the order of the model's.
use mathlib.Core.Path.{◌≡◌, sym, ◌∙◌}
use mathlib.Core.Bool.{true, false}
use native.Mathlib.Omega.{arith}
use borrow.Author.Tests.{le-leb, lt-leb, eq-eqb, ne_eqb}
use lib.ListN.{get_or}
use Rattle.bondset.specs.Sets.{has}
use Rattle.model.specs.Fault.{or_else, when}
use Rattle.reading.specs.Reading.{fault_of, fault_by}
use Rattle.reading.proofs.judge.Goals as goal
use Rattle.reading.proofs.judge.Goals.{then-a-net-via-then-a-net, then-a-net-via-else-a-net+then-b-net}

pub returns-then-a-net : goal.returns-then-a-net
unfolding fault_of fault_by or_else when
returns-then-a-net c =
    let a = c.args in
    elim c.then-a-net.branch [
      | then-a-net-via-then-a-net w ↦ rw (le-leb a.net.now.n a.a w.if-a-net.true)
      | then-a-net-via-else-a-net+then-b-net w ↦ rw (lt-leb a.net.now.n a.a w.if-a-net.false, le-leb a.net.now.n a.b w.if-b-net.true)
    ]

pub returns-then-a-b : goal.returns-then-a-b
unfolding fault_of fault_by or_else when
returns-then-a-b c =
    let a = c.args in
    rw (lt-leb a.net.now.n a.a (omega arith), lt-leb a.net.now.n a.b (omega arith), eq-eqb a.a a.b (omega arith))

pub returns-then-member : goal.returns-then-member
unfolding fault_of fault_by or_else when
returns-then-member c =
    let a = c.args in
    let is : has (get_or a.net.now.adj a.a 0) a.b ≡ true = sym c.member.ensures ∙ c.if-member.true in
    rw (lt-leb a.net.now.n a.a (omega arith), lt-leb a.net.now.n a.b (omega arith), ne_eqb a.a a.b (omega arith), is)

pub returns : goal.returns
unfolding fault_of fault_by or_else when
returns c =
    let a = c.args in
    let is : has (get_or a.net.now.adj a.a 0) a.b ≡ false = sym c.member.ensures ∙ c.if-member.false in
    rw (lt-leb a.net.now.n a.a (omega arith), lt-leb a.net.now.n a.b (omega arith), ne_eqb a.a a.b (omega arith), is)
