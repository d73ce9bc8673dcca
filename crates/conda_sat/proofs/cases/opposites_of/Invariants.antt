use Rattle.std.proofs.Common.{◌≡◌, ◌++◌, drop}
use Rattle.conda_sat.specs.Answers.{opposites}
use Rattle.conda_sat.proofs.cases.opposites_of.Given as goal

abbrev pub invariant-loop-literal : goal.invariant-loop-literal
invariant-loop-literal l = l.clause ++ opposites (drop l.literal-index l.literals) ≡ opposites l.literals
