use Rattle.std.proofs.Common.{◌≡◌, map, take, Bor}
use Rattle.conda_spec.specs.Parts.{Parts}
use Rattle.conda_resolve.specs.Choice.{names_wanted}
use Rattle.conda_resolve.proofs.names.wanted_specs.Given as goal

abbrev pub invariant-loop-item : goal.invariant-loop-item
invariant-loop-item l = map (λ (s : Bor Parts). s.now.name) l.specs.items ≡ names_wanted (take l.item-index l.asked)
