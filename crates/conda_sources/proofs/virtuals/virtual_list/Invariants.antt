use Rattle.std.proofs.Common.{◌≡◌, ◌++◌, map, take}
use Rattle.conda_sources.specs.Virtuals as virtuals
use Rattle.conda_sources.proofs.virtuals.virtual_list.Given as goal

abbrev pub invariant-loop-one : goal.invariant-loop-one
invariant-loop-one l = l.all.items ≡ virtuals.usual ++ map virtuals.of_words (take l.one-index l.given)
