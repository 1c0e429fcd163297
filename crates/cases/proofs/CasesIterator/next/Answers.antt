-- `next`: the case that comes is the table's first one, and those that are left come after it.
use Rattle.std.proofs.Common.{◌<◌, length, ap, rules}
use Rattle.cases.proofs.Table.{first_case}
use Rattle.cases.proofs.CasesIterator.next.Goals as goal

pub returns-clause-steps : goal.returns-clause-steps
returns-clause-steps c =
    let some : 0 < length c.args.self.now.0.now = search rules in
    let row = c.cut.ensures in
    let parts = c.cut-2.ensures in
    simp (parts.before, parts.after, row.before, row.after) (first_case _ some)

pub returns-clause-goes : goal.returns-clause-goes
returns-clause-goes c =
    let fewer = ap length (returns-clause-steps c) in
    search rules
