use Rattle.std.proofs.Common.{◌≡◌, filter, take}
use Rattle.conda_resolve.specs.Choice.{has_name}
use Rattle.conda_resolve.proofs.ranking.installed_of.Given as goal

abbrev pub invariant-loop-pkg : goal.invariant-loop-pkg
invariant-loop-pkg l = l.list.items ≡ filter (has_name l.name) (take l.pkg-index l.installed)
