use Rattle.std.proofs.Common.{◌≡◌, drop}
use Rattle.conda_sat.specs.Answers.{denies}
use Rattle.conda_sat.proofs.denial.denies.Given as goal

abbrev pub invariant-loop-literal : goal.invariant-loop-literal
invariant-loop-literal l = denies l.assumed (drop l.literal-index l.clause) ≡ denies l.assumed l.clause
