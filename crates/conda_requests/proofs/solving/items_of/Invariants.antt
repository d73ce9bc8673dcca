use Rattle.std.proofs.Common.{◌≡◌}
use Rattle.conda_requests.specs.Solving as solving
use Rattle.conda_requests.proofs.solving.items_of.Given as goal

abbrev pub invariant-loop-spec : goal.invariant-loop-spec
invariant-loop-spec l = l.items.items ≡ solving.items_of l.yielded
