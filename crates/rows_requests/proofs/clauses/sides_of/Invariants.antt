use Rattle.std.proofs.Common.{◌≡◌, length}
use Rattle.rows_requests.proofs.clauses.sides_of.Given as goal

abbrev pub invariant-loop-place : goal.invariant-loop-place
invariant-loop-place l = length l.sides.items ≡ l._place
