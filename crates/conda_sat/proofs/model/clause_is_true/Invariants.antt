use Rattle.std.proofs.Common.{◌≡◌, drop}
use Rattle.conda_refute.specs.Literals.{clause_true}
use Rattle.conda_sat.specs.Answers.{side_of}
use Rattle.conda_sat.proofs.model.clause_is_true.Given as goal

abbrev pub invariant-loop-literal : goal.invariant-loop-literal
invariant-loop-literal l = clause_true (side_of l.sides) (drop l.literal-index l.clause) ≡ clause_true (side_of l.sides) l.clause
