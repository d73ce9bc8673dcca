use Rattle.std.proofs.Common.{◌≡◌, drop}
use Rattle.conda_version.specs.Order.{runs_start}
use Rattle.conda_version.proofs.StartLemmas.{runs_begin}
use Rattle.conda_version.proofs.run.runs_start.Given as goal

abbrev pub invariant-loop-at : goal.invariant-loop-at
invariant-loop-at l = runs_begin (drop l.at l.xs) (drop l.at l.ys) ≡ runs_start l.xs l.ys
