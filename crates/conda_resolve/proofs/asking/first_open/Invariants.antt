use Rattle.std.proofs.Common.{◌≡◌, take}
use Rattle.conda_resolve.specs.Asking.{NoneOpen}
use Rattle.conda_resolve.proofs.asking.first_open.Given as goal

abbrev pub invariant-loop-candidate : goal.invariant-loop-candidate
invariant-loop-candidate l = record {
  vars : l.solver.vars ≡ l.fn.solver.vars;
  clauses : l.solver.clauses ≡ l.fn.solver.clauses;
  assumed : l.assumed.items ≡ l.fn.assumed.items;
  sides : l.sides ≡ l.fn.sides;
  none : NoneOpen l.fn.solver.clauses l.fn.assumed.items (take l.candidate-index l.candidates);
}
