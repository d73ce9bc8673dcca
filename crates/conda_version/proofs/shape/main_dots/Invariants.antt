use Rattle.std.proofs.Common.{◌≡◌, ◌++◌, drop, length}
use Rattle.conda_version.specs.Versions.{main_dots}
use Rattle.conda_version.proofs.shape.main_dots.Given as goal

abbrev pub invariant-loop-at : goal.invariant-loop-at
invariant-loop-at l = (length l.made.items ≡ l.at) × (l.made.items ++ main_dots (drop l.at l.main) ≡ main_dots l.main)
