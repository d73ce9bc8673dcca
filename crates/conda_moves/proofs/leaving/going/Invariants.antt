use Rattle.std.proofs.Common.{◌≡◌, map, take}
use Rattle.conda_moves.specs.Going.{those_of}
use Rattle.conda_moves.proofs.leaving.going.Given as goal

abbrev pub invariant-loop-one : goal.invariant-loop-one
invariant-loop-one l = map (λ r. r.now) l.going.items ≡ those_of l.dists (take l.one-index l.now)
