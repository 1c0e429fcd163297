-- The run of the engine on a compound that stands.
use Rattle.engine.proofs.Accepted.{accepted_bonds}
use Rattle.engine.proofs.Reporting.{lent_run_reports}
use Rattle.engine.proofs.report.Goals as goal

pub cyclomatic-full-requires : goal.cyclomatic-full-requires
cyclomatic-full-requires c = accepted_bonds _ c.requires.accepted

pub returns : goal.returns
returns c =
    let lent = c.view.ensures in
    lent_run_reports c.view.result c.requires lent.n_kept lent.neighbours_kept lent.bonds_kept c.cyclomatic-full.ensures c.run.ensures
