use Rattle.std.proofs.Common.{◌≡◌, drop}
use Rattle.conda_version.specs.Order.{components_cmp}
use Rattle.conda_version.proofs.components.Components.compare.Given as goal

abbrev pub invariant-loop-at : goal.invariant-loop-at
invariant-loop-at l = components_cmp (drop l.at l.self) (drop l.at l.other) ≡ components_cmp l.self l.other
