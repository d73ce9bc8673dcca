use Rattle.std.proofs.Common.{◌≡◌}
use Rattle.conda_real.proofs.streams.read_some.Given as goal

abbrev pub invariant-loop : goal.invariant-loop
invariant-loop g l = l.faults.count ≡ l.fn.faults.count
