use Rattle.std.proofs.Common.{◌≡◌}
use Rattle.rows_folders.proofs.lane.run_all.Given as goal

abbrev pub invariant-loop-call : goal.invariant-loop-call
invariant-loop-call g l = (l.lane.share.number ≡ 0) × (l.lane.share.lanes ≡ 1)
