use Rattle.std.proofs.Common.{◌≡◌}
use Rattle.rows_folders.proofs.lane.many.Given as goal

abbrev pub invariant-loop-i : goal.invariant-loop-i
invariant-loop-i g l = (l.lane.share.number ≡ 0) × (l.lane.share.lanes ≡ 1)
