use Rattle.std.specs.Prelude.{All, Contains}
use Rattle.conda_sat.proofs.trim.kept_inputs.Given as goal

abbrev pub invariant-loop-at : goal.invariant-loop-at
invariant-loop-at l = All (Contains l.inputs) l.made
