use Rattle.std.proofs.Common.{◌≡◌, ℕ, List, take}
use Rattle.conda_meta.specs.Folds.{held, last_of}
use Rattle.conda_linking.proofs.by_dist.by_dist.Given as goal

-- the map holds the last package so far of each dist
abbrev pub invariant-loop-one : goal.invariant-loop-one
invariant-loop-one l = (dist : List ℕ) → held l.found dist ≡ last_of dist (take l.one-index l.packages)
