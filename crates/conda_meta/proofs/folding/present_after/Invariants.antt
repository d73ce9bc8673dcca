use Rattle.std.proofs.Common.{◌≡◌, ℕ, List, drop}
use Rattle.conda_meta.specs.Folds.{held, left, left_after}
use Rattle.conda_meta.proofs.folding.present_after.Given as goal

-- what is left leaves of what is there what all leave
abbrev pub invariant-loop-revision : goal.invariant-loop-revision
invariant-loop-revision l = (dist : List ℕ) → left_after dist (held l.present dist) (drop l.revision-index l.revs) ≡ left l.revs dist
