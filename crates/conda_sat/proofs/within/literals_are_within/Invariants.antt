use Rattle.std.proofs.Common.{◌≡◌, drop}
use Rattle.conda_sat.specs.Answers.{is_within}
use Rattle.std.specs.List.{list_all}
use Rattle.conda_sat.proofs.within.literals_are_within.Given as goal

abbrev pub invariant-loop-literal : goal.invariant-loop-literal
invariant-loop-literal l = list_all (is_within l.vars) (drop l.literal-index l.literals) ≡ list_all (is_within l.vars) l.literals
