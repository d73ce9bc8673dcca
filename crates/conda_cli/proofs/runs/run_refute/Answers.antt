use Rattle.conda_cli.proofs.RefuteLemmas.{checks_all}
use Rattle.conda_cli.proofs.runs.run_refute.Goals as goal

pub returns-clause-checks : goal.returns-clause-checks
returns-clause-checks g c = checks_all _ _ _ _ _ _ c.give-status.ensures c.refute-report.ensures
