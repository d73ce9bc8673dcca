-- What goes and comes at each path with a revision. This project's own.
use Rattle.std.specs.Prelude.{◌≡◌, ◌↔◌, ℕ, ◌⊎◌, IsTrue, List, MatchOption, option_copied}
use Rattle.std.specs.List.{Contains}
use Rattle.conda_goods.specs.Goods.{paths_of}
use Rattle.conda_meta.specs.declared.linked.Linked.{Linked}
use Rattle.conda_meta.specs.declared.revision.Revision.{Revision}
use Rattle.conda_changes.specs.Moves.{Moves, move_at}
use Rattle.conda_changes.specs.declared.moves.Move.{Move}
use Rattle.conda_moves.specs.Coming.{IsComing, coming}
use Rattle.conda_moves.specs.Going.{IsGoingFile, IsGoingGood}

-- something goes or comes at the path
abbrev pub IsMoved : List Linked → ℕ → Revision → List ℕ → Type 0
IsMoved now number revision path =
    IsGoingGood now revision path ⊎ IsGoingFile now revision path ⊎ Contains (paths_of (coming number revision)) path

-- A node stands at the path of what goes or comes: that of a good which isn't altered, a meta file, or one of the others.
abbrev pub IsThere : List Linked → Revision → List (List ℕ) → List (List ℕ) → List ℕ → Type 0
IsThere now revision others altered path =
    (IsGoingGood now revision path × (¬ Contains altered path)) ⊎ IsGoingFile now revision path ⊎ Contains others path

-- the move of a path at which something goes or comes: whether a node stands there, and what comes
pub record IsMoveTo (now : List Linked) (others altered : List (List ℕ)) (number : ℕ) (revision : Revision) (path : List ℕ)
    (one : Move) : Type 0 where
  pub own : one.path.now ≡ path
  pub moved : IsMoved now number revision path
  pub old : IsTrue one.old ↔ IsThere now revision others altered path
  pub new : IsComing (coming number revision) path (option_copied one.new)

-- these are the moves that lead from the packages that are linked now to the revision: one of each path at which something goes or comes
abbrev pub AreMovesTo : List Linked → List (List ℕ) → List (List ℕ) → ℕ → Revision → Moves → Type 0
AreMovesTo now others altered number revision moves =
    (path : List ℕ) → MatchOption (move_at moves path) (¬ IsMoved now number revision path)
    (IsMoveTo now others altered number revision path)
