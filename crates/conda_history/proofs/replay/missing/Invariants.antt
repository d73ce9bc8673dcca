use Rattle.std.proofs.Common.{◌≡◌}
use Rattle.conda_history.specs.Sets.{missing_from}
use Rattle.conda_history.proofs.replay.missing.Given as goal

abbrev pub invariant-loop-dist : goal.invariant-loop-dist
invariant-loop-dist l = l.rows ≡ missing_from l.set.keys l.yielded
