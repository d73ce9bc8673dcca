use Rattle.std.proofs.Common.{◌≡◌, ◌++◌, drop}
use Rattle.conda_sources.specs.Virtuals as virtuals
use Rattle.conda_sources.proofs.virtuals.last_of_each.Given as goal

abbrev pub invariant-loop-at : goal.invariant-loop-at
invariant-loop-at l = l.made.items ++ virtuals.last_of_each (drop l.at l.all) ≡ virtuals.last_of_each l.all
