use Rattle.std.proofs.Common.{ap}
use Rattle.conda_cli.proofs.RunLemmas.{reports_all}
use Rattle.conda_cli.specs.Answers.{IsRevisionsOf}
use Rattle.conda_cli.proofs.runs.run_revisions.Goals as goal

pub returns-clause-reports : goal.returns-clause-reports
returns-clause-reports g c =
    reports_all (record { meaning = c.grammar_laws.ensures.meaning; fault = c.grammar_laws.ensures.fault }) IsRevisionsOf
    (λ blocks answer is. ap (λ a. a.status) is) _ _ _ _ _ c.give-status.ensures c.revisions-report.ensures.answer
