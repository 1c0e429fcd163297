-- A refused input touches nothing.
use Rattle.std.proofs.lemmas.Result.{err_from_is_err_and}
use Rattle.rings.proofs.Answering.{answers_input}
use Rattle.rings.proofs.call.answer.Goals as goal

pub returns-in_err-within : goal.returns-in_err-within
returns-in_err-within c =
    let p = err_from_is_err_and c.from_residual.result c.from_residual.ensures.1 in
    rw (p.1, p.2) (answers_input _ c.in_err-within.ensures.refused)

pub returns-in_err-admit : goal.returns-in_err-admit
returns-in_err-admit c =
    let p = err_from_is_err_and c.from_residual-in_err-admit.result c.from_residual-in_err-admit.ensures.1 in
    rw (p.1, p.2) (answers_input _ (rw c.bare-net.ensures.n_kept at c.in_err-admit.ensures.refused))
