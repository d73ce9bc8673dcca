use Rattle.std.proofs.Common.{◌≡◌, ℤ, List, take}
use Rattle.std.specs.List.{filter_map, flat_map}
use Rattle.conda_refute.specs.Refutation.{named}
use Rattle.conda_refute.specs.declared.log.Step.{Step}
use Rattle.conda_explain.specs.Shown.{holds}
use Rattle.conda_explain.proofs.Keys.{lists}
use Rattle.conda_explain.proofs.used.used.Given as goal

abbrev pub invariant-loop-step : goal.invariant-loop-step
invariant-loop-step l =
    (clause : List ℤ) → holds (lists l.set.keys) clause ≡ holds (filter_map (named l.log.inputs) (flat_map (λ (s : Step). s.hints) (take l.step-index l.log.steps))) clause
