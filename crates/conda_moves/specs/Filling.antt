-- What goes and comes at each path, as a map: the same as in `Moves`, for any goods and files. This project's own.
use Rattle.std.specs.Prelude.{◌≡◌, ◌↔◌, ℕ, ◌⊎◌, false, IsTrue, List, MatchOption, option_copied}
use Rattle.std.specs.List.{Contains}
use Rattle.conda_path.specs.declared.values.Good.{Good}
use Rattle.conda_goods.specs.Goods.{paths_of}
use Rattle.conda_changes.specs.Moves.{Moves, move_at}
use Rattle.conda_changes.specs.Paths.{Texts, is_in}
use Rattle.conda_changes.specs.declared.moves.Move.{Move}
use Rattle.conda_moves.specs.Coming.{IsComing}

-- a node stands at the path of a good that goes: it isn't altered, or it is one of the others all the same
abbrev pub IsLeft : Texts → Texts → List ℕ → Type 0
IsLeft others altered path = (is_in altered path ≡ false) ⊎ IsTrue (is_in others path)

-- a node stands at the path, where the goods and files at these paths go
abbrev pub IsStanding : Texts → Texts → List (List ℕ) → List (List ℕ) → List ℕ → Type 0
IsStanding others altered goods files path =
    (Contains goods path × (is_in altered path ≡ false)) ⊎ Contains files path ⊎ IsTrue (is_in others path)

-- a good or file at the path goes, or a good comes there
abbrev pub IsTouched : List (List ℕ) → List (List ℕ) → List Good → List ℕ → Type 0
IsTouched goods files comes path = Contains goods path ⊎ Contains files path ⊎ Contains (paths_of comes) path

-- The move of a path, where the goods and files at these paths go and these goods come.
pub record IsMove (others altered : Texts) (goods files : List (List ℕ)) (comes : List Good) (path : List ℕ) (one : Move) : Type 0 where
  pub own : one.path.now ≡ path
  pub touched : IsTouched goods files comes path
  pub old : IsTrue one.old ↔ IsStanding others altered goods files path
  pub new : IsComing comes path (option_copied one.new)

-- the map has the moves of all these paths
abbrev pub AreMoves : Texts → Texts → List (List ℕ) → List (List ℕ) → List Good → Moves → Type 0
AreMoves others altered goods files comes moves =
    (path : List ℕ) → MatchOption (move_at moves path) (¬ IsTouched goods files comes path) (IsMove others altered goods files comes path)
