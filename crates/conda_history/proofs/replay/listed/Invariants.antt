use Rattle.std.proofs.Common.{◌≡◌}
use Rattle.conda_history.proofs.replay.listed.Given as goal

abbrev pub invariant-loop-dist : goal.invariant-loop-dist
invariant-loop-dist l = l.rows ≡ l.yielded
