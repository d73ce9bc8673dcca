use Rattle.conda_sat.specs.Answers.{AreSidesOf}
use Rattle.conda_sat.proofs.cases.sides_of.Given as goal

abbrev pub invariant-loop-number : goal.invariant-loop-number
invariant-loop-number l = AreSidesOf l.number l.decided l.sides.items
