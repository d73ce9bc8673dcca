use Rattle.std.proofs.Common.{◌≡◌}
use Rattle.rows_solver.proofs.sat.asked.Given as goal

abbrev pub invariant-loop-question : goal.invariant-loop-question
invariant-loop-question l = l.solver.vars ≡ l.vars
