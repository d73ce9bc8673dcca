use Rattle.conda_cli.proofs.SourceLemmas.{solve_all}
use Rattle.conda_cli.specs.Sourcing.{sources_of}
use Rattle.conda_cli.proofs.runs.run_solve.Goals as goal

pub returns-clause-sourced : goal.returns-clause-sourced
returns-clause-sourced g c =
    solve_all c.args.command.now.words (sources_of c.args.command.now) _ _ _ _ c.give-status.ensures c.solve-report.ensures.answer
