use Rattle.std.proofs.Common.{◌≡◌, drop}
use Rattle.conda_version.specs.Order.{components_start}
use Rattle.conda_version.proofs.StartLemmas.{components_begin}
use Rattle.conda_version.proofs.components.Components.starts_with.Given as goal

abbrev pub invariant-loop-at : goal.invariant-loop-at
invariant-loop-at l = components_begin (drop l.at l.self) (drop l.at l.other) ≡ components_start l.self l.other
