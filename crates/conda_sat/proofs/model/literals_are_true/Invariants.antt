use Rattle.std.proofs.Common.{◌≡◌, drop}
use Rattle.conda_refute.specs.Literals.{literal_true}
use Rattle.conda_sat.specs.Answers.{side_of}
use Rattle.std.specs.List.{list_all}
use Rattle.conda_sat.proofs.model.literals_are_true.Given as goal

abbrev pub invariant-loop-literal : goal.invariant-loop-literal
invariant-loop-literal l = list_all (literal_true (side_of l.sides)) (drop l.literal-index l.literals) ≡ list_all (literal_true (side_of l.sides)) l.literals
