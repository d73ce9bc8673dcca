-- What the changes of a plan make of the tree of an environment: it shows one revision more. This project's own.
use Rattle.std.specs.Prelude.{◌≡◌, ℕ, true, not, List, [], ◌∷◌, ◌++◌, filter, length, Option, Some, IsSome}
use Rattle.std.specs.List.{AllPairs, Contains}
use Rattle.std.specs.FinMap as map
use Rattle.conda_path.specs.declared.values.Kind.{Kind}
use Rattle.conda_path.specs.declared.values.Node.{Node}
use Rattle.conda_device.specs.Tree.{Tree}
use Rattle.conda_history.specs.declared.stamp.Stamp.{Stamp}
use Rattle.conda_lane.specs.Changes.{IsEdit, IsStart, at, is_named}
use Rattle.conda_lane.specs.declared.change.Change.{Change}
use Rattle.conda_meta.specs.Folds.{IsFold}
use Rattle.conda_meta.specs.Shows.{IsTrashed, Shows, State, history_path, prefix_path, revision_path, state_history}
use Rattle.conda_meta.specs.Texts.{prefix_text, revision_text}
use Rattle.conda_meta.specs.declared.folding.Folded.{Folded}
use Rattle.conda_meta.specs.declared.linked.Linked.{Linked}
use Rattle.conda_meta.specs.declared.revision.Revision.{Revision}
use Rattle.conda_linking.specs.Linking.{AreCarried}
use Rattle.conda_plan.specs.Packages.{AreInOrder, ShareNoGood}
use Rattle.conda_plan.specs.Planning.{IsPlan}

-- ---- before

-- the tree shows a state whose revisions, so many, leave `now`, and these are its paths in the trash
pub record IsSeen (number_of : List ℕ → Option ℕ) (tree : Tree) (state : State) (now : Folded) (others altered trash : List (List ℕ)) (number : ℕ) : Type 0 where
  pub shows : Shows number_of tree state others altered
  pub fold : IsFold state.revisions now
  pub count : length state.revisions ≡ number
  pub known : (path : List ℕ) → IsTrashed path → IsSome (at tree path) → Contains trash path

-- a plan between packages in order, of which no two that are linked now have one path, and those that aren't to link are carried over
pub record IsSoundPlan (kept : Option Folded) (now target : Folded) (others altered trash : List (List ℕ)) (number : ℕ) (revision : Revision) (changes : List Change) : Type 0 where
  pub plan : IsPlan kept now target others altered trash number revision changes
  pub now_in_order : AreInOrder now.linked
  pub apart : AllPairs ShareNoGood now.linked
  pub target_in_order : AreInOrder target.linked
  pub carried : AreCarried kept now.linked target.linked

-- ---- afterwards

-- the state with one revision more, of this moment
abbrev pub next_state : State → Revision → Stamp → State
next_state state revision stamp =
    record { present = true; revisions = state.revisions ++ revision ∷ []; stamps = state.stamps ++ stamp ∷ [] }

-- the node of a text
abbrev pub text_node : List ℕ → Node
text_node text = record { kind = Kind.File; bytes = text }

-- the tree with the history of a state, whatever history it had
abbrev pub with_history : Tree → State → Tree
with_history tree state = map.insert tree history_path (text_node (state_history state))

-- the texts of the new meta files are kept for their paths
pub record KeepsTexts (kept : Tree) (number : ℕ) (revision : Revision) : Type 0 where
  pub packages : (one : Linked) → Contains revision.linked one → at kept (prefix_path one.rec.dist) ≡ Some (text_node (prefix_text one))
  pub own : at kept (revision_path number) ≡ Some (text_node (revision_text revision))

-- the paths that no change names
abbrev pub unnamed : List Change → List (List ℕ) → List (List ℕ)
unnamed changes paths = filter (λ path. not (is_named changes path)) paths

-- ---- the laws

-- the changes may start in the tree
abbrev pub StartsPlan : Type 0
StartsPlan =
    (number_of : List ℕ → Option ℕ) (tree : Tree) (state : State) (kept : Option Folded) (now target : Folded) (others altered trash : List (List ℕ))
    (number : ℕ) (revision : Revision) (changes : List Change)
    → IsSeen number_of tree state now others altered trash number → IsSoundPlan kept now target others altered trash number revision changes
    → IsStart tree changes

-- The tree, edited by the changes with the texts of the new meta files, shows the state with the revision added, but for the history. The
-- others and the altered paths are those that no change names.
abbrev pub LeadsToNext : Type 0
LeadsToNext =
    (number_of : List ℕ → Option ℕ) (tree after keeps : Tree) (state : State) (kept : Option Folded) (now target : Folded) (others altered trash : List (List ℕ))
    (number : ℕ) (revision : Revision) (changes : List Change) (stamp : Stamp)
    → IsSeen number_of tree state now others altered trash number → IsSoundPlan kept now target others altered trash number revision changes
    → IsEdit keeps after tree changes → KeepsTexts keeps number revision
    → let next = next_state state revision stamp in
    Shows number_of (with_history after next) next (unnamed changes others) (unnamed changes altered)
