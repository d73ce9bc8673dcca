use Rattle.std.proofs.Common.{ℕ, List, ◌++◌, take}
use Rattle.conda_goods.specs.Conflicts.{goods_of}
use Rattle.conda_path.specs.declared.values.Good.{Good}
use Rattle.conda_changes.specs.Paths.{Texts}
use Rattle.conda_moves.specs.Filling.{AreMoves}
use Rattle.conda_moves.proofs.filling.add_parts.Given as goal

abbrev pub invariant-loop-part : goal.invariant-loop-part
invariant-loop-part l = (altered : Texts) (gone files : List (List ℕ)) (comes : List Good)
    → AreMoves l.others altered gone files comes l.fn.moves
    → AreMoves l.others altered gone files (comes ++ goods_of (take l.part-index l.parts)) l.moves
