use Rattle.std.proofs.Common.{◌≡◌, map, take}
use Rattle.conda_explain.specs.Renumbered.{renumbered}
use Rattle.conda_explain.proofs.Keys.{lists}
use Rattle.conda_explain.proofs.renumbering.renumbered.Given as goal

abbrev pub invariant-loop-step : goal.invariant-loop-step
invariant-loop-step l = l.made ≡ map (renumbered (lists l.places.keys) l.log) (take l.step-index l.steps)
