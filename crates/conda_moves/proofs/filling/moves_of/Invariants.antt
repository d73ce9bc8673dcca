use Rattle.std.proofs.Common.{[], map, take}
use Rattle.conda_moves.specs.Filling.{AreMoves}
use Rattle.conda_moves.specs.Going.{good_paths}
use Rattle.conda_moves.proofs.filling.moves_of.Given as goal

abbrev pub invariant-loop-one : goal.invariant-loop-one
invariant-loop-one l = AreMoves l.others l.altered (good_paths (take l.one-index (map (λ r. r.now) l.going))) [] [] l.moves
