use Rattle.std.proofs.Common.{ℕ, List, ◌++◌, take}
use Rattle.conda_path.specs.declared.values.Good.{Good}
use Rattle.conda_changes.specs.Paths.{Texts}
use Rattle.conda_moves.specs.Filling.{AreMoves}
use Rattle.conda_moves.proofs.filling.add_goods.Given as goal

abbrev pub invariant-loop-good : goal.invariant-loop-good
invariant-loop-good l = (altered : Texts) (gone files : List (List ℕ)) (comes : List Good)
    → AreMoves l.others altered gone files comes l.fn.moves
    → AreMoves l.others altered gone files (comes ++ take l.good-index l.goods) l.moves
