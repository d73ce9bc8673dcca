use Rattle.std.proofs.Common.{◌≡◌, take}
use Rattle.conda_placing.proofs.package.copied_shown.Given as goal

abbrev pub invariant-loop-one : goal.invariant-loop-one
invariant-loop-one l = l.made ≡ take l.one-index l.shown
