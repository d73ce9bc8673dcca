use Rattle.std.proofs.Common.{◌≡◌, map, Bor}
use Rattle.conda_spec.specs.Parts.{Parts}
use Rattle.conda_encode.specs.Clauses.{clauses}
use Rattle.conda_encode.specs.Variables.{vars_of}
use Rattle.conda_resolve.proofs.Steps.{IsWalk}
use Rattle.conda_resolve.proofs.deciding.decided.Given as goal

abbrev pub invariant-loop-at : goal.invariant-loop-at
invariant-loop-at l = record {
  vars : l.solver.vars ≡ vars_of l.pools;
  clauses : l.solver.clauses ≡ clauses l.pools l.asked;
  walk : IsWalk l.pools l.asked l.installed (map (λ (s : Bor Parts). s.now.name) l.specs.items) l.at l.variables.entries l.assumed.items l.sides;
}
