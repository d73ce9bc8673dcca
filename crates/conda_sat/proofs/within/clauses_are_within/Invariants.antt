use Rattle.std.proofs.Common.{◌≡◌, drop}
use Rattle.conda_sat.specs.Answers.{is_within}
use Rattle.std.specs.List.{list_all}
use Rattle.conda_sat.proofs.within.clauses_are_within.Given as goal

abbrev pub invariant-loop-clause : goal.invariant-loop-clause
invariant-loop-clause l = list_all (list_all (is_within l.vars)) (drop l.clause-index l.clauses) ≡ list_all (list_all (is_within l.vars)) l.clauses
