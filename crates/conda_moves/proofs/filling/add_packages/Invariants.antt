use Rattle.std.proofs.Common.{ℕ, List, ◌++◌, take}
use Rattle.std.specs.List.{flat_map}
use Rattle.conda_path.specs.declared.values.Good.{Good}
use Rattle.conda_changes.specs.Paths.{Texts}
use Rattle.conda_moves.specs.Filling.{AreMoves}
use Rattle.conda_moves.proofs.filling.add_packages.Given as goal

abbrev pub invariant-loop-one : goal.invariant-loop-one
invariant-loop-one l = (altered : Texts) (gone files : List (List ℕ)) (comes : List Good)
    → AreMoves l.others altered gone files comes l.fn.moves
    → AreMoves l.others altered gone files (comes ++ flat_map (λ one. one.goods) (take l.one-index l.linked)) l.moves
