use Rattle.std.proofs.Common.{◌≡◌, ◌||◌, ℤ, List, take}
use Rattle.std.specs.List.{filter_map}
use Rattle.conda_refute.specs.Refutation.{named}
use Rattle.conda_explain.specs.Shown.{holds}
use Rattle.conda_explain.proofs.Keys.{lists}
use Rattle.conda_explain.proofs.used.add_named.Given as goal

abbrev pub invariant-loop-hint : goal.invariant-loop-hint
invariant-loop-hint l =
    (clause : List ℤ) → holds (lists l.set.keys) clause ≡ (holds (lists l.initial.set.keys) clause || holds (filter_map (named l.inputs) (take l.hint-index l.hints)) clause)
