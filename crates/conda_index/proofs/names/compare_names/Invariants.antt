use Rattle.std.proofs.Common.{◌≡◌, drop}
use Rattle.std.specs.Cmp.Lexicographic.{slice_cmp}
use Rattle.std.specs.Ordering.{nat_cmp}
use Rattle.conda_encode.specs.Matching.{lowered}
use Rattle.conda_index.proofs.names.compare_names.Given as goal

-- the order of what is left is the order of all
abbrev pub invariant-loop-at : goal.invariant-loop-at
invariant-loop-at l =
    slice_cmp nat_cmp (lowered (drop l.at l.left)) (lowered (drop l.at l.right)) ≡ slice_cmp nat_cmp (lowered l.left) (lowered l.right)
