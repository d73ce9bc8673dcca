use Rattle.std.proofs.Common.{◌≡◌, ◌++◌, map, take, Bor}
use Rattle.conda_spec.specs.Parts.{Parts}
use Rattle.conda_resolve.proofs.names.add_needs.Given as goal

abbrev pub invariant-loop-need : goal.invariant-loop-need
invariant-loop-need l =
    map (λ (s : Bor Parts). s.now.name) l.specs.items
    ≡ map (λ (s : Bor Parts). s.now.name) l.initial.specs.items ++ map (λ (need : Parts). need.name) (take l.need-index l.pkg.depends)
