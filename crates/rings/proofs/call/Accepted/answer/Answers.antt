-- The refusals in their order, and what is delivered if none holds.
use Rattle.std.proofs.lemmas.Result.{err_from_is_err_and}
use Rattle.rings.proofs.Grounding.{standing}
use Rattle.rings.proofs.Answering.{fitting, answers_unfit, answers_full}
use Rattle.rings.proofs.call.Accepted.answer.Goals as goal

pub returns-in_err-rings : goal.returns-in_err-rings
returns-in_err-rings c =
    let p = err_from_is_err_and c.from_residual.result c.from_residual.ensures.1 in
    rw (p.1, p.2) (answers_unfit (standing c.args.self.now.stands).accepted c.report-found.ensures c.in_err-rings.ensures.unfit)

pub deliver-requires-clause-fitting : goal.deliver-requires-clause-fitting
deliver-requires-clause-fitting c = fitting c.report-found.ensures c.in_ok-rings.ensures.fit

pub returns : goal.returns
returns c = answers_full (standing c.args.self.now.stands).accepted c.report-found.ensures c.in_ok-rings.ensures.fit c.deliver.ensures c.numbers.ensures
