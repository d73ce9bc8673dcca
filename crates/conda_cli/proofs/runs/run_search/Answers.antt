use Rattle.conda_cli.proofs.SourceLemmas.{search_all}
use Rattle.conda_cli.specs.Sourcing.{sources_of}
use Rattle.conda_cli.proofs.runs.run_search.Goals as goal

pub returns-clause-sourced : goal.returns-clause-sourced
returns-clause-sourced g c =
    search_all c.args.word.now (sources_of c.args.command.now) _ _ _ _ c.give-status.ensures c.search-report.ensures.answer
