use Rattle.std.proofs.Common.{◌≡◌, drop}
use Rattle.std.specs.List.{list_all}
use Rattle.conda_refute.specs.Literals.{clause_true}
use Rattle.conda_sat.specs.Answers.{side_of}
use Rattle.conda_sat.proofs.cases.first_false.Given as goal

abbrev pub invariant-loop-at : goal.invariant-loop-at
invariant-loop-at l = list_all (clause_true (side_of l.sides)) (drop l.at l.clauses) ≡ list_all (clause_true (side_of l.sides)) l.clauses
