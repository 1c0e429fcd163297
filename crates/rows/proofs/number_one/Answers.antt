-- A ring that is its own label opens a class, and any other joins one.
use Rattle.rows.proofs.Numbering.{numbered_opens, numbered_joins, numbered_stays}
use Rattle.rows.proofs.number_one.Goals as goal

pub returns-then-label-i : goal.returns-then-label-i
returns-then-label-i c =
    let a = c.args in
    numbered_opens a.labels.now a.holds.now a.table.now a.k a.i a.classes (rw c.from-label.ensures at c.if-label-i.true) _ c.put_class.ensures

pub returns-then-c-classes : goal.returns-then-c-classes
returns-then-c-classes c =
    let a = c.args in
    numbered_joins a.labels.now a.holds.now a.table.now a.k a.i a.classes (rw c.from-label.ensures at c.if-label-i.false) c.byte_at-class.result
    (rw c.from-label.ensures at c.byte_at-class.ensures) (rw c.from-c.ensures at c.if-c-classes.true) _ (rw c.from-c.ensures at c.more_class.ensures)

pub returns-else-c-classes : goal.returns-else-c-classes
returns-else-c-classes c =
    let a = c.args in
    numbered_stays a.labels.now a.holds.now a.table.now a.k a.i a.classes (rw c.from-label.ensures at c.if-label-i.false) c.byte_at-class.result
    (rw c.from-label.ensures at c.byte_at-class.ensures) (rw c.from-c.ensures at c.if-c-classes.false)
