-- A tree in shares, each with changes of its own, as the lanes of a prefix have them. This project's own.
use Rattle.std.specs.Prelude.{◌≡◌, ◌≢◌, ℕ, zero, suc, List, [], ◌++◌, None}
use Rattle.std.specs.List.{AllByRecursion}
use Rattle.conda_device.specs.Tree.{Tree}
use Rattle.conda_lane.specs.Changes.{at, names}
use Rattle.conda_lane.specs.declared.change.Change.{Change}

-- Each share has what the whole tree has at the paths of its number, and nothing at others.
pub record IsShared (number : List ℕ → ℕ) (trees : ℕ → Tree) (whole : Tree) : Type 0 where
  pub own : (path : List ℕ) → at whole path ≡ at (trees (number path)) path
  pub others : (share : ℕ) (path : List ℕ) → number path ≢ share → at (trees share) path ≡ None

-- the changes of each share name paths of its number alone
abbrev pub AreOwn : (List ℕ → ℕ) → (ℕ → List Change) → Type 0
AreOwn number changes = (share : ℕ) → AllByRecursion (λ path. number path ≡ share) (names (changes share))

-- those of the first shares, one list after another
abbrev pub all_changes : ℕ → (ℕ → List Change) → List Change
all_changes zero changes = []
all_changes (suc n) changes = all_changes n changes ++ changes n
