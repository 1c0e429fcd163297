-- The claim with the size of the row.
use Rattle.std.proofs.lemmas.Result.{err_from_is_err_and}
use native.Mathlib.Nat.{add-zero}
use native.Mathlib.Omega.{arith}
use Rattle.rings.specs.Calls.{told, told_sized}
use Rattle.rings.proofs.Answering.{answers_at}
use Rattle.rings.proofs.family_size.Goals as goal

pub returns-in_err-full : goal.returns-in_err-full
unfolding told_sized told
returns-in_err-full c =
    let p = err_from_is_err_and c.from_residual.result c.from_residual.ensures.1 in
    rw (p.1, p.2) (answers_at c.in_err-full.ensures c.args.row 0 (add-zero c.args.row) (omega arith))

pub returns : goal.returns
unfolding told_sized
returns c = answers_at c.in_ok-full.ensures c.args.row 0 (add-zero c.args.row) (omega arith)
