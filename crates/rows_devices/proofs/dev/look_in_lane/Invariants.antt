use Rattle.std.proofs.Common.{◌≡◌}
use Rattle.rows_devices.proofs.dev.look_in_lane.Given as goal

abbrev pub invariant-loop-path : goal.invariant-loop-path
invariant-loop-path l = (l.lane.number ≡ 0) × (l.lane.lanes ≡ 1)
