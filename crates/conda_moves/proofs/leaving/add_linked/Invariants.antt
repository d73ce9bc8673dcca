use Rattle.std.proofs.Common.{ℕ, List, ◌++◌, take}
use Rattle.conda_changes.specs.Paths.{HasJust}
use Rattle.conda_meta.specs.Reading.{dists_of}
use Rattle.conda_moves.proofs.leaving.add_linked.Given as goal

abbrev pub invariant-loop-one : goal.invariant-loop-one
invariant-loop-one l = (before : List (List ℕ)) → HasJust l.fn.dists before
    → HasJust l.dists (before ++ dists_of (take l.one-index l.linked))
