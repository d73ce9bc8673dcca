use Rattle.conda_core.specs.Machine.{new_core}
use Rattle.conda_core.proofs.RuleLemmas.{start_rules, step_keeps, run_keeps}
use Rattle.conda_core.proofs.machine.every_run_keeps_the_rules.Goals as goal

pub returns-clause-start : goal.returns-clause-start
returns-clause-start c = start_rules

pub returns-clause-step : goal.returns-clause-step
returns-clause-step c = step_keeps

pub returns-clause-run : goal.returns-clause-run
returns-clause-run c = λ ready seats envs events. run_keeps events (new_core ready seats envs) (start_rules ready seats envs)
