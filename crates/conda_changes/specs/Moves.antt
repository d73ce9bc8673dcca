-- What goes and comes at each path, and the changes that this is. This project's own.
use Rattle.std.specs.Prelude.{◌≡◌, ℕ, Bool, List, map, Option, option_copied}
use Rattle.std.specs.BTreeMap.{BTreeMap, get_by, values}
use Rattle.std.specs.Cmp.Lexicographic.{slice_cmp}
use Rattle.std.specs.List.{AllByRecursion}
use Rattle.std.specs.Ordering.{nat_cmp}
use denote.Ref.{Bor}
use Rattle.conda_path.specs.declared.values.Good.{Good}
use Rattle.conda_lane.specs.declared.change.Change.{Change}
use Rattle.conda_changes.specs.declared.moves.Move.{Move}

-- a map from paths to moves
abbrev pub Moves : Type 0
Moves = BTreeMap (Bor (List ℕ)) Move

-- the move of a path
abbrev pub move_at : Moves → List ℕ → Option Move
move_at moves path = get_by (λ k. slice_cmp nat_cmp path k.now) moves

-- each move stands at its own path
abbrev pub AreByPath : Moves → Type 0
AreByPath moves = AllByRecursion (λ entry. entry.0.now ≡ entry.1.path.now) moves.entries

-- what a move and a change say of a path, but for the trash
abbrev pub Said : Type 0
Said = List ℕ × Bool × Option Good

abbrev pub said_by_move : Move → Said
said_by_move one = (one.path.now, one.old, option_copied one.new)

abbrev pub said_by_change : Change → Said
said_by_change change = (change.path, change.old, change.new)

-- the changes are the moves, each in its place
abbrev pub AreChangesOf : Moves → List Change → Type 0
AreChangesOf moves changes = map said_by_change changes ≡ map said_by_move (values moves)

-- the paths of changes
abbrev pub paths_of : List Change → List (List ℕ)
paths_of changes = map (λ change. change.path) changes
