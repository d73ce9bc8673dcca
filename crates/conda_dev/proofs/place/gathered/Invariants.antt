-- what was gathered so far, and of what the lanes that are left have, is what all have
use Rattle.std.proofs.Common.{◌≡◌, ℕ, List, drop}
use Rattle.std.specs.FinMap as trees
use Rattle.conda_dev.specs.Memory.{node_at, trees_of}
use Rattle.conda_dev.specs.Shares.{first_of, in_share}
use Rattle.conda_dev.proofs.place.gathered.Given as goal

abbrev pub invariant-loop-lane : goal.invariant-loop-lane
invariant-loop-lane l =
    (q : List ℕ) → first_of (trees.get l.made q) (in_share l.number l.lanes q (node_at (trees_of (drop l.lane-index l.from)) q)) ≡ in_share l.number l.lanes q (node_at (trees_of l.from) q)
