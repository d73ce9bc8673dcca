use Rattle.std.proofs.Common.{◌+◌, ◌-◌}
use Rattle.conda_sat.proofs.cases.+by_cases.Given as goal

abbrev pub decreases-by_cases : goal.decreases-by_cases
decreases-by_cases l = l.vars + 1 - l.next
