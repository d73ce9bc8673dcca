use Rattle.std.proofs.Common.{All, Contains, take}
use Rattle.rows_requests.proofs.report.are_among.Given as goal

abbrev pub invariant-loop-input : goal.invariant-loop-input
invariant-loop-input l = All (Contains l.clauses) (take l.input-index l.inputs)
