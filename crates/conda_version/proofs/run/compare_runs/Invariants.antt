use Rattle.std.proofs.Common.{◌≡◌, drop}
use Rattle.conda_version.specs.Order.{runs_cmp}
use Rattle.conda_version.proofs.run.compare_runs.Given as goal

abbrev pub invariant-loop-at : goal.invariant-loop-at
invariant-loop-at l = runs_cmp (drop l.at l.xs) (drop l.at l.ys) ≡ runs_cmp l.xs l.ys
