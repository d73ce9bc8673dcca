-- it is the only lane
use Rattle.std.proofs.Common.{◌≡◌}
use Rattle.rows_environments.proofs.changes.run_all.Given as goal

abbrev pub invariant-loop-call : goal.invariant-loop-call
invariant-loop-call l = (l.lane.number ≡ 0) × (l.lane.lanes ≡ 1)
