use Rattle.std.proofs.Common.{ℕ, List, ◌++◌, take}
use Rattle.conda_changes.specs.Paths.{HasJust}
use Rattle.conda_moves.proofs.leaving.add_dists.Given as goal

abbrev pub invariant-loop-dist : goal.invariant-loop-dist
invariant-loop-dist l = (before : List (List ℕ)) → HasJust l.fn.dists before → HasJust l.dists (before ++ take l.dist-index l.more)
