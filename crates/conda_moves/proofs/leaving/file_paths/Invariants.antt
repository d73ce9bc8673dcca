use Rattle.std.proofs.Common.{◌≡◌, map, take}
use Rattle.conda_moves.specs.Going.{file_paths}
use Rattle.conda_moves.proofs.leaving.file_paths.Given as goal

abbrev pub invariant-loop-one : goal.invariant-loop-one
invariant-loop-one l = l.paths.items ≡ file_paths (take l.one-index (map (λ r. r.now) l.packages))
