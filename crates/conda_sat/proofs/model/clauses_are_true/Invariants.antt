use Rattle.std.proofs.Common.{◌≡◌, drop}
use Rattle.conda_refute.specs.Literals.{clause_true}
use Rattle.conda_sat.specs.Answers.{side_of}
use Rattle.std.specs.List.{list_all}
use Rattle.conda_sat.proofs.model.clauses_are_true.Given as goal

abbrev pub invariant-loop-clause : goal.invariant-loop-clause
invariant-loop-clause l = list_all (clause_true (side_of l.sides)) (drop l.clause-index l.clauses) ≡ list_all (clause_true (side_of l.sides)) l.clauses
