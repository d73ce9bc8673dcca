-- What the tree of an environment shows: the goods of its packages, its meta files, and what else is the user's. This project's own.
use Rattle.std.specs.Prelude.{◌≡◌, ◌↔◌, ◌<◌, ℕ, ◌⊎◌, Bool, true, false, List, [], ◌∷◌, ◌++◌, codes, decimal, length, slice_get, IfSome, IsSome, is_some, Option, None, Some}
use Rattle.std.specs.List.{Contains}
use Rattle.conda_path.specs.declared.values.Good.{Good}
use Rattle.conda_path.specs.declared.values.Kind.{Kind}
use Rattle.conda_device.specs.Tree.{Tree}
use Rattle.conda_lane.specs.Changes.{IsOf, at}
use Rattle.conda_history.specs.Texts.{history_text}
use Rattle.conda_history.specs.declared.revision.Block.{Block}
use Rattle.conda_history.specs.declared.stamp.Stamp.{Stamp}
use Rattle.conda_meta.specs.Agreement.{joining}
use Rattle.conda_meta.specs.Folds.{left}
use Rattle.conda_meta.specs.Texts.{prefix_text, revision_text}
use Rattle.conda_meta.specs.declared.linked.Linked.{Linked}
use Rattle.conda_meta.specs.declared.revision.Revision.{Revision}

-- ---- the state of an environment

-- Whether there is one, its revisions, and the moment of each.
pub record State : Type 0 where
  pub present : Bool
  pub revisions : List Revision
  pub stamps : List Stamp

-- a package of the dist is linked after revisions
abbrev pub is_linked : List Revision → List ℕ → Bool
is_linked revisions dist = is_some (left revisions dist)

-- the blocks of revisions with these moments, behind other revisions
abbrev pub blocks_behind : List Revision → List Stamp → List Revision → List Block
blocks_behind before [] revisions = []
blocks_behind before (stamp ∷ stamps) [] = []
blocks_behind before (stamp ∷ stamps) (revision ∷ rest) =
    record { stamp = stamp; removed = revision.unlinked; added = joining (is_linked before) revision; whole = false }
    ∷ blocks_behind (before ++ revision ∷ []) stamps rest

-- the text of the history: a block for each revision
abbrev pub state_history : State → List ℕ
state_history state = history_text (blocks_behind [] state.stamps state.revisions)

-- ---- the meta files and their texts

abbrev pub history_path : List ℕ
history_path = codes "conda-meta/history"

-- `conda-meta/<dist>.json`
abbrev pub prefix_path : List ℕ → List ℕ
prefix_path dist = codes "conda-meta/" ++ (dist ++ codes ".json")

-- `conda-meta/revisions/<n>.json`
abbrev pub revision_path : ℕ → List ℕ
revision_path n = codes "conda-meta/revisions/" ++ (decimal n ++ codes ".json")

-- The path is that of a meta file, which has this text: the history, where there is an environment; a revision; a linked package.
pub data IsMeta (state : State) : List ℕ → List ℕ → Type 0 where
  history : state.present ≡ true → IsMeta state history_path (state_history state)
  revision : (n : ℕ) (revision : Revision) → slice_get state.revisions n ≡ Some revision → IsMeta state (revision_path n) (revision_text revision)
  linked : (one : Linked) → left state.revisions one.rec.dist ≡ Some one → IsMeta state (prefix_path one.rec.dist) (prefix_text one)

abbrev pub HasMeta : State → List ℕ → Type 0
HasMeta state path = (text : List ℕ) × IsMeta state path text

-- ---- the goods

-- a good of a linked package whose path isn't altered
abbrev pub IsKept : State → List (List ℕ) → Good → Type 0
IsKept state altered good =
    (one : Linked) × (left state.revisions one.rec.dist ≡ Some one) × Contains one.goods good × (¬ Contains altered good.path)

abbrev pub HasKept : State → List (List ℕ) → List ℕ → Type 0
HasKept state altered path = (good : Good) × IsKept state altered good × (good.path ≡ path)

-- ---- what is set aside

-- a path under `conda-meta/.trash/`
abbrev pub IsTrashed : List ℕ → Type 0
IsTrashed path = (rest : List ℕ) × (path ≡ codes "conda-meta/.trash/" ++ rest)

-- the file that says which changes are under way
abbrev pub pending_path : List ℕ
pending_path = codes "conda-meta/.pending"

abbrev pub IsAside : List ℕ → Type 0
IsAside path = IsTrashed path ⊎ (path ≡ pending_path)

-- ---- all together

-- A pending file may be there. It reads, and the history has a revision with its number. What number its bytes have is `number_of`.
abbrev pub HasPending : (List ℕ → Option ℕ) → State → Tree → Type 0
HasPending number_of state tree =
    IfSome (at tree pending_path) (λ node. (n : ℕ) × (number_of node.bytes ≡ Some n) × (n < length state.revisions))

-- The tree shows the state, with the paths of others and those that are altered. Outside the trash and the pending file its paths are those
-- of the goods, the meta files and the others, and these three share none. Each good is a node of its kind, size and digest, and each meta
-- file a file with its text. Where there is no environment there is no revision, no history and no pending file.
pub record Shows (number_of : List ℕ → Option ℕ) (tree : Tree) (state : State) (others altered : List (List ℕ)) : Type 0 where
  pub paths : (path : List ℕ) → (IsSome (at tree path) × (¬ IsAside path)) ↔ (HasKept state altered path ⊎ HasMeta state path ⊎ Contains others path)
  pub no_meta_good : (path : List ℕ) → HasKept state altered path → ¬ HasMeta state path
  pub no_other_good : (path : List ℕ) → HasKept state altered path → ¬ Contains others path
  pub no_other_meta : (path : List ℕ) → HasMeta state path → ¬ Contains others path
  pub goods : (good : Good) → IsKept state altered good → IfSome (at tree good.path) (IsOf good)
  pub metas : (path text : List ℕ) → IsMeta state path text → at tree path ≡ Some (record { kind = Kind.File; bytes = text })
  pub pending : HasPending number_of state tree
  pub absent : state.present ≡ false → (state.revisions ≡ []) × (at tree history_path ≡ None) × (at tree pending_path ≡ None)
