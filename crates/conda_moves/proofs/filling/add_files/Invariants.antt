use Rattle.std.proofs.Common.{ℕ, List, [], take}
use Rattle.conda_changes.specs.Paths.{Texts}
use Rattle.conda_moves.specs.Filling.{AreMoves}
use Rattle.conda_moves.proofs.filling.add_files.Given as goal

abbrev pub invariant-loop-path : goal.invariant-loop-path
invariant-loop-path l = (others altered : Texts) (gone : List (List ℕ)) → AreMoves others altered gone [] [] l.fn.moves
    → AreMoves others altered gone (take l.path-index l.paths) [] l.moves
