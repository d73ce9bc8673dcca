-- What the edited tree has at the paths that are named, and at all others.
use Rattle.std.specs.Prelude.{◌≡◌, ℕ, Bool, true, false, cond, List, is_some, Option, None, Some, IfSome, IsSome}
use Rattle.std.proofs.Common.{refl, ap, sym, ◌∙◌, subst, inr}
use Rattle.std.proofs.lemmas.Bool.{false≢true}
use Rattle.std.proofs.lemmas.Map.Text.{is_eq-slice_cmp}
use Rattle.std.proofs.lemmas.Slice.Eq.{bytes_eq-Decides}
use Rattle.std.specs.FinMap as tree_map
use Rattle.std.specs.Cmp.Lexicographic.{nat_list_cmp_total}
use Rattle.std.specs.List.{Contains}
use Rattle.std.specs.Str.{bytes_eq}
use Rattle.conda_path.specs.declared.values.Good.{Good}
use Rattle.conda_path.specs.declared.values.Node.{Node}
use Rattle.conda_device.specs.Tree.{Tree}
use Rattle.conda_goods.specs.Goods.{paths_of}
use Rattle.conda_lane.specs.Changes.{IsDone, IsEdit, IsNew, IsOf, at}
use Rattle.conda_lane.specs.declared.change.Change.{Change}
use Rattle.conda_meta.specs.declared.folding.Folded.{Folded}
use Rattle.conda_meta.specs.declared.revision.Revision.{Revision}
use Rattle.conda_plan.specs.Law.{IsSoundPlan}
use Rattle.conda_moves.specs.Coming.{IsComing, coming}
use Rattle.conda_plan.specs.Planning.{IsChanged, IsPlanned}
use Rattle.conda_plan.proofs.MemberLemmas.{all_at, of_map, to_map}

-- ---- a tree with one more node

put_is : (tree : Tree) (key : List ℕ) (node : Node) (path : List ℕ)
    → at (tree_map.insert tree key node) path ≡ cond (bytes_eq path key) (Some node) (at tree path)
put_is tree key node path =
    tree_map.get-insert nat_list_cmp_total tree key node path ∙ ap (λ v. cond v (Some node) (at tree path)) (is_eq-slice_cmp path key)

pub put_here : (tree : Tree) (key : List ℕ) (node : Node) → at (tree_map.insert tree key node) key ≡ Some node
put_here tree key node = put_is tree key node key ∙ ap (λ v. cond v (Some node) (at tree key)) ((bytes_eq-Decides key key).1 refl)

pub put_away : (tree : Tree) (key : List ℕ) (node : Node) (path : List ℕ) → (path ≡ key → ⊥)
    → at (tree_map.insert tree key node) path ≡ at tree path
put_away tree key node path apart = put_is tree key node path ∙ by (bytes_eq path key) refl
  where
    by : (v : Bool) → bytes_eq path key ≡ v → cond v (Some node) (at tree path) ≡ at tree path
    by false e = refl
    by true e = absurd (apart ((bytes_eq-Decides path key).0 e))

pub put_some : (tree : Tree) (key : List ℕ) (node : Node) (path : List ℕ) → IsSome (at tree path)
    → IsSome (at (tree_map.insert tree key node) path)
put_some tree key node path some = ap is_some (put_is tree key node path) ∙ by (bytes_eq path key)
  where
    by : (v : Bool) → is_some (cond v (Some node) (at tree path)) ≡ true
    by true = refl
    by false = some

-- ---- what comes

-- a good that comes at the path, and its node
pub record HasCome (keeps after : Tree) (number : ℕ) (revision : Revision) (path : List ℕ) : Type 0 where
  pub good : Good
  pub among : Contains (coming number revision) good
  pub path_is : good.path ≡ path
  pub node : Node
  pub found : at after path ≡ Some node
  pub is_of : IsOf good node
  pub keeps_it : IfSome (at keeps path) (λ kept. node ≡ kept)

come_by : (keeps after : Tree) (number : ℕ) (revision : Revision) (path : List ℕ) (new : Option Good) (found : Option Node)
    → at after path ≡ found → IsComing (coming number revision) path new → IsNew keeps path new found
    → Contains (paths_of (coming number revision)) path → HasCome keeps after number revision path
come_by keeps after number revision path None found e c n m = absurd (c m)
come_by keeps after number revision path (Some good) None e c n m = absurd n
come_by keeps after number revision path (Some good) (Some node) e c n m =
    record { good = good; among = c.0; path_is = c.1; node = node; found = e; is_of = n.0; keeps_it = n.1 }

pub come : {kept : Option Folded} {now target : Folded} {others altered trash : List (List ℕ)} {number : ℕ} {revision : Revision}
    {changes : List Change} {keeps after tree : Tree} → IsSoundPlan kept now target others altered trash number revision changes
    → IsEdit keeps after tree changes → (path : List ℕ) → Contains (paths_of (coming number revision)) path
    → HasCome keeps after number revision path
come {now = now} {others = others} {altered = altered} {number = number} {revision = revision} {changes = changes} {keeps = keeps} {after = after} p edit path m =
    let f = of_map (λ (x : Change). x.path) changes path ((p.plan.makes.paths path).1 (inr (inr m))) in
    let planned = all_at (IsPlanned now.linked revision others altered number) changes f.0 p.plan.makes.each f.1 in
    let done = all_at (IsDone keeps after) changes f.0 edit.each f.1 in
    come_by keeps after number revision path f.0.new (at after path) refl
    (subst (λ x. IsComing (coming number revision) x f.0.new) f.2 planned.new)
    (subst (λ x. IsNew keeps x f.0.new (at after x)) f.2 done.path) m

-- the text that is kept for a path where something comes
pub kept_comes : {keeps after : Tree} {number : ℕ} {revision : Revision} {path : List ℕ} → HasCome keeps after number revision path
    → (node : Node)
    → at keeps path ≡ Some node → at after path ≡ Some node
kept_comes {keeps = keeps} {path = path} h node e = h.found ∙ ap Some (subst (λ o. IfSome o (λ kept. h.node ≡ kept)) e h.keeps_it)

-- ---- what stands at a changed path came there

stands_by : (keeps : Tree) (goods : List Good) (path : List ℕ) (new : Option Good) (found : Option Node) → IsComing goods path new
    → IsNew keeps path new found → IsSome found → Contains (paths_of goods) path
stands_by keeps goods path None found c n some = absurd (false≢true (sym (ap is_some n) ∙ some))
stands_by keeps goods path (Some good) found c n some =
    subst (λ x. Contains (paths_of goods) x) c.1 (to_map (λ (x : Good). x.path) goods good c.0)

pub came : {kept : Option Folded} {now target : Folded} {others altered trash : List (List ℕ)} {number : ℕ} {revision : Revision}
    {changes : List Change} {keeps after tree : Tree} → IsSoundPlan kept now target others altered trash number revision changes
    → IsEdit keeps after tree changes → (path : List ℕ) → IsChanged changes path → IsSome (at after path)
    → Contains (paths_of (coming number revision)) path
came {now = now} {others = others} {altered = altered} {number = number} {revision = revision} {changes = changes} {keeps = keeps} {after = after} p edit path m some =
    let f = of_map (λ (x : Change). x.path) changes path m in
    let planned = all_at (IsPlanned now.linked revision others altered number) changes f.0 p.plan.makes.each f.1 in
    let done = all_at (IsDone keeps after) changes f.0 edit.each f.1 in
    subst (λ x. Contains (paths_of (coming number revision)) x) f.2 (stands_by keeps (coming number revision) f.0.path f.0.new (at after f.0.path)
    planned.new done.path (subst (λ x. IsSome (at after x)) (sym f.2) some))
