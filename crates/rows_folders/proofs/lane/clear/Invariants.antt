use Rattle.std.proofs.Common.{◌≡◌}
use Rattle.rows_folders.proofs.lane.clear.Given as goal

abbrev pub invariant-loop-path : goal.invariant-loop-path
invariant-loop-path g l = (l.lane.share.number ≡ 0) × (l.lane.share.lanes ≡ 1)
