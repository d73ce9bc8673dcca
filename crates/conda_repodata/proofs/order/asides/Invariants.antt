use Rattle.std.proofs.Common.{◌≡◌, map}
use Rattle.conda_repodata.specs.Entries.{aside_of}
use Rattle.conda_repodata.proofs.order.asides.Given as goal

abbrev pub invariant-loop-entry : goal.invariant-loop-entry
invariant-loop-entry l = l.rows ≡ map aside_of l.yielded
