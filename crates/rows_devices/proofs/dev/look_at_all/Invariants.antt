use Rattle.std.proofs.Common.{◌≡◌, false}
use Rattle.rows_devices.proofs.dev.look_at_all.Given as goal

abbrev pub invariant-loop-path : goal.invariant-loop-path
invariant-loop-path g l = (g.H.Host.state l.host).lent l.prefix ≡ false
