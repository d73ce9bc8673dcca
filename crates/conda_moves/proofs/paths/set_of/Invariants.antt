use Rattle.std.proofs.Common.{take}
use Rattle.conda_changes.specs.Paths.{HasJust}
use Rattle.conda_moves.proofs.paths.set_of.Given as goal

abbrev pub invariant-loop-path : goal.invariant-loop-path
invariant-loop-path l = HasJust l.set (take l.path-index l.paths)
