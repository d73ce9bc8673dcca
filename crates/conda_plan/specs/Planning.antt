-- What a plan changes in a prefix: what goes, what comes, and in which lane. This project's own.
use Rattle.std.specs.Prelude.{◌↔◌, ◌<◌, ◌^◌, ℕ, ◌⊎◌, not, IsTrue, List, ◌++◌, filter, map, Option}
use Rattle.std.specs.List.{AllByRecursion, Contains, list_any}
use Rattle.conda_base.specs.Texts.{is_text}
use Rattle.conda_goods.specs.Conflicts.{NoConflict}
use Rattle.conda_goods.specs.Goods.{paths_of}
use Rattle.conda_goods.specs.declared.owned.Owned.{Owned}
use Rattle.conda_goods.specs.declared.owner.Owner.{Owner}
use Rattle.conda_lane.specs.Changes.{AreApart}
use Rattle.conda_lane.specs.declared.change.Change.{Change}
use Rattle.conda_meta.specs.declared.folding.Folded.{Folded}
use Rattle.conda_meta.specs.declared.linked.Linked.{Linked}
use Rattle.conda_meta.specs.declared.revision.Revision.{Revision}
use Rattle.conda_linking.specs.Linking.{IsRevisionTo}
use Rattle.conda_plan.specs.Packages.{AreMade}
use Rattle.conda_changes.specs.Trash.{HasTrash}
use Rattle.conda_moves.specs.Coming.{IsComing, coming, new_files}
use Rattle.conda_moves.specs.Going.{IsGoingFile, IsGoingGood}
use Rattle.conda_moves.specs.Moves.{IsThere}

-- ---- who has which paths afterwards

-- the goods of a package
abbrev pub package_part : Linked → Owned
package_part one = record { owner = Owner.Dist one.rec.dist; goods = one.goods }

-- the new meta files, and with them the goods of all packages of the target
abbrev pub parts_of : ℕ → Folded → Revision → List Owned
parts_of number target revision = new_files number revision ++ map package_part target.linked

-- the other paths that aren't altered: an altered one belongs to its package
abbrev pub unaltered : List (List ℕ) → List (List ℕ) → List (List ℕ)
unaltered others altered = filter (λ path. not (list_any (is_text path) altered)) others

-- ---- the changes

-- the change says of its path whether a node stands there, and what comes
pub record IsPlanned (now : List Linked) (revision : Revision) (others altered : List (List ℕ)) (number : ℕ) (change : Change) : Type 0 where
  pub old : IsTrue change.old ↔ IsThere now revision others altered change.path
  pub new : IsComing (coming number revision) change.path change.new

-- a path of these changes
abbrev pub IsChanged : List Change → List ℕ → Type 0
IsChanged changes path = Contains (map (λ change. change.path) changes) path

-- These are the changes: one of each path that goes or comes, with paths in the trash of their own.
pub record AreChangesTo (now : List Linked) (others altered trash : List (List ℕ)) (number : ℕ) (revision : Revision) (changes : List Change) : Type 0 where
  pub paths : (path : List ℕ) →
      IsChanged changes path
      ↔ (IsGoingGood now revision path ⊎ IsGoingFile now revision path ⊎ Contains (paths_of (coming number revision)) path)
  pub each : AllByRecursion (IsPlanned now revision others altered number) changes
  pub trashed : AllByRecursion (HasTrash trash number changes) changes
  pub apart : AreApart changes

-- ---- all together

-- What is planned leads from `now` to `target`: the revision, the changes that it makes, and no conflict among what is there afterwards.
pub record IsPlan (kept : Option Folded) (now target : Folded) (others altered trash : List (List ℕ)) (number : ℕ) (revision : Revision) (changes : List Change) : Type 0 where
  pub small : number < 2 ^ 64
  pub leads : IsRevisionTo kept now target revision
  pub makes : AreChangesTo now.linked others altered trash number revision changes
  pub free : NoConflict (parts_of number target revision) (unaltered others altered)
  pub now_made : AreMade now.linked
  pub target_made : AreMade target.linked
