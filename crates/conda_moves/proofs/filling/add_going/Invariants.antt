use Rattle.std.proofs.Common.{ℕ, List, [], ◌++◌, take}
use Rattle.conda_goods.specs.Goods.{paths_of}
use Rattle.conda_moves.specs.Filling.{AreMoves}
use Rattle.conda_moves.proofs.filling.add_going.Given as goal

abbrev pub invariant-loop-good : goal.invariant-loop-good
invariant-loop-good l = (gone : List (List ℕ)) → AreMoves l.others l.altered gone [] [] l.fn.moves
    → AreMoves l.others l.altered (gone ++ paths_of (take l.good-index l.goods)) [] [] l.moves
