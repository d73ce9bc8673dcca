-- Which paths the changes of a plan name: what goes and what comes, and nothing of what stays.
use Rattle.std.specs.Prelude.{◌≡◌, ◌<◌, ◌^◌, ◌||◌, ℕ, Bool, true, false, List, [], ◌∷◌, ◌++◌, decimal, length, map, suc, zero, Option, slice_index_or}
use Rattle.std.proofs.Common.{refl, ap, sym, ◌∙◌, subst, arith, inl, inr, ◌⊎◌}
use Rattle.std.proofs.lemmas.Bool.{cases_order, false≢true}
use Rattle.std.proofs.lemmas.Slice.Eq.{bytes_eq-Decides}
use Rattle.std.specs.List.{AllPairs, Contains}
use Rattle.std.specs.Str.{bytes_eq}
use Rattle.conda_base.specs.Signs.{dot}
use Rattle.conda_path.specs.Dists.{IsDist}
use Rattle.conda_paths.specs.Listings.{is_meta}
use Rattle.conda_goods.specs.Goods.{paths_of}
use Rattle.conda_lane.specs.Changes.{is_named}
use Rattle.conda_lane.specs.declared.change.Change.{Change}
use Rattle.conda_meta.specs.Reading.{dists_of}
use Rattle.conda_meta.specs.Shows.{IsAside, IsTrashed, pending_path, prefix_path, revision_path}
use Rattle.conda_meta.specs.declared.folding.Folded.{Folded}
use Rattle.conda_meta.specs.declared.linked.Linked.{Linked}
use Rattle.conda_meta.specs.declared.revision.Revision.{Revision}
use Rattle.conda_plan.specs.Law.{IsSoundPlan}
use Rattle.conda_plan.specs.Packages.{ShareNoGood}
use Rattle.conda_moves.specs.Going.{Goes}
use Rattle.conda_plan.specs.Planning.{IsChanged}
use Rattle.conda_changes.specs.Trash.{HasTrash}
use Rattle.conda_plan.proofs.MemberLemmas.{all_at, behind, front, of_map, to_map}
use Rattle.conda_plan.proofs.MetaPathLemmas.{aside_is_meta, prefix_is_meta, prefix_no_revision, prefix_not_aside, revision_is_meta, revision_not_aside, same_dist, same_number, trash_not_pending}
use Rattle.conda_plan.proofs.PlanLemmas.{ChangedBy, IsNewFile, IsNewGood, IsSeat, coming_cases, one_of, outside, same_owner, seat, seat_not_aside, stays}

-- ---- whether a path is named

abbrev IsTrashOf : List Change → List ℕ → Type 0
IsTrashOf changes path = (change : Change) × Contains changes change × (path ≡ change.trash)

pub named : (changes : List Change) (path : List ℕ) (change : Change) → Contains changes change → change.path ≡ path
    → is_named changes path ≡ true
named [] path change m e = absurd (omega (arith, m.1))
named (x ∷ rest) path change m e = by m.0 m.1 m.2 (λ k q is. named rest path change (k, q, is) e)
  where
    more : (u v w : Bool) → w ≡ true → (u || (v || w)) ≡ true
    more true v w h = refl
    more false true w h = refl
    more false false w h = h

    by : (k : ℕ) → k < length (x ∷ rest) → slice_index_or (x ∷ rest) k change ≡ change
        → ((j : ℕ) → j < length rest → slice_index_or rest j change ≡ change → is_named rest path ≡ true) → is_named (x ∷ rest) path ≡ true
    by zero q is f = ap (λ v. v || (bytes_eq path x.trash || is_named rest path)) ((bytes_eq-Decides path x.path).1 (sym (ap (λ (c : Change). c.path) is ∙ e)))
    by (suc k) q is f = more (bytes_eq path x.path) (bytes_eq path x.trash) (is_named rest path) (f k (omega (arith, q)) is)

pub named_cases : (changes : List Change) (path : List ℕ) → is_named changes path ≡ true → IsChanged changes path ⊎ IsTrashOf changes path
named_cases [] path h = absurd (false≢true h)
named_cases (x ∷ rest) path h = by (bytes_eq path x.path) refl (bytes_eq path x.trash) refl h (named_cases rest path)
  where
    deeper : IsChanged rest path ⊎ IsTrashOf rest path → IsChanged (x ∷ rest) path ⊎ IsTrashOf (x ∷ rest) path
    deeper (inl c) = inl (behind x.path (map (λ (y : Change). y.path) rest) path c)
    deeper (inr t) = inr (t.0, behind x rest t.0 t.1, t.2)

    by : (u : Bool) → bytes_eq path x.path ≡ u → (v : Bool) → bytes_eq path x.trash ≡ v → (u || (v || is_named rest path)) ≡ true
        → (is_named rest path ≡ true → IsChanged rest path ⊎ IsTrashOf rest path) → IsChanged (x ∷ rest) path ⊎ IsTrashOf (x ∷ rest) path
    by true e v f g r = inl (0, omega arith, sym ((bytes_eq-Decides path x.path).0 e))
    by false e true f g r = inr (x, front x rest, (bytes_eq-Decides path x.trash).0 f)
    by false e false f g r = deeper (r g)

-- ---- which paths of a plan are named

pub unnamed_path : {kept : Option Folded} {now target : Folded} {others altered trash : List (List ℕ)} {number : ℕ} {revision : Revision}
    {changes : List Change} → IsSoundPlan kept now target others altered trash number revision changes
    → (path : List ℕ) → (ChangedBy now.linked revision number path → ⊥) → (IsTrashed path → ⊥) → is_named changes path ≡ false
unnamed_path {trash = trash} {number = number} {changes = changes} p path a b = by (is_named changes path) refl
  where
    none : IsChanged changes path ⊎ IsTrashOf changes path → ⊥
    none (inl c) = a ((p.plan.makes.paths path).0 c)
    none (inr t) =
        let has = all_at (HasTrash trash number changes) changes t.0 p.plan.makes.trashed t.1 in
        b (decimal number ++ dot ∷ decimal has.k, t.2 ∙ has.stands)

    by : (v : Bool) → is_named changes path ≡ v → v ≡ false
    by false e = refl
    by true e = absurd (none (named_cases changes path e))

pub pending_unnamed : {kept : Option Folded} {now target : Folded} {others altered trash : List (List ℕ)} {number : ℕ} {revision : Revision}
    {changes : List Change} → IsSoundPlan kept now target others altered trash number revision changes
    → is_named changes pending_path ≡ false
pending_unnamed {number = number} {revision = revision} p =
    unnamed_path p pending_path (λ c. seat_not_aside revision number pending_path (seat p pending_path c) (inr refl)) trash_not_pending

pub old_unnamed : {kept : Option Folded} {now target : Folded} {others altered trash : List (List ℕ)} {number : ℕ} {revision : Revision}
    {changes : List Change} → IsSoundPlan kept now target others altered trash number revision changes
    → (n : ℕ) → n < number → is_named changes (revision_path n) ≡ false
old_unnamed {number = number} {revision = revision} p n q =
    unnamed_path p (revision_path n) (λ c. old (seat p (revision_path n) c)) (λ t. revision_not_aside n (inl t))
  where
    old : IsSeat revision number (revision_path n) → ⊥
    old (inl o) = false≢true (sym o ∙ revision_is_meta n)
    old (inr (inl f)) = prefix_no_revision f.0 n f.1 (sym f.2)
    old (inr (inr r)) =
        let small : number < 2 ^ 64 = p.plan.small in
        let same = same_number n number (omega (arith, q, small)) small r in
        omega (arith, q, same)

any_default : {X : Type 0} (xs : List X) (k : ℕ) (d e : X) → k < length xs → slice_index_or xs k d ≡ slice_index_or xs k e
any_default [] k d e q = absurd (omega (arith, q))
any_default (x ∷ xs) zero d e q = refl
any_default (x ∷ xs) (suc k) d e q = any_default xs k d e (omega (arith, q))

-- two packages that are linked now and have one path are one
apart : (packages : List Linked) (a b : Linked) (path : List ℕ) → AllPairs ShareNoGood packages → Contains packages a → Contains packages b
    → Contains (paths_of a.goods) path → Contains (paths_of b.goods) path → (a ≡ b → ⊥) → ⊥
apart packages a b path h m n g k differ = by (cases_order m.0 n.0)
  where
    b_at : slice_index_or packages n.0 a ≡ b
    b_at = any_default packages n.0 a b n.1 ∙ n.2

    a_at : slice_index_or packages m.0 b ≡ a
    a_at = any_default packages m.0 b a m.1 ∙ m.2

    by : (m.0 ≡ n.0) ⊎ ((m.0 < n.0) ⊎ (n.0 < m.0)) → ⊥
    by (inl e) = differ (sym m.2 ∙ ap (λ j. slice_index_or packages j a) e ∙ b_at)
    by (inr (inl q)) = h m.0 n.0 a q n.1 path (subst (λ (x : Linked). Contains (paths_of x.goods) path) (sym m.2) g)
        (subst (λ (x : Linked). Contains (paths_of x.goods) path) (sym b_at) k)
    by (inr (inr q)) = h n.0 m.0 b q m.1 path (subst (λ (x : Linked). Contains (paths_of x.goods) path) (sym n.2) k)
        (subst (λ (x : Linked). Contains (paths_of x.goods) path) (sym a_at) g)

-- the path of a good of a package that stays
pub good_unnamed : {kept : Option Folded} {now target : Folded} {others altered trash : List (List ℕ)} {number : ℕ} {revision : Revision}
    {changes : List Change} → IsSoundPlan kept now target others altered trash number revision changes
    → (one : Linked) (path : List ℕ) → Contains now.linked one → (Goes revision one → ⊥) → Contains (paths_of one.goods) path
    → is_named changes path ≡ false
good_unnamed {now = now} {target = target} {number = number} {revision = revision} p one path m still g =
    unnamed_path p path by (λ t. meta (aside_is_meta path (inl t)))
  where
    meta : is_meta path ≡ true → ⊥
    meta e = false≢true (sym (outside now.linked one path p.now_in_order m g) ∙ e)

    comes : IsNewGood revision path ⊎ IsNewFile revision path ⊎ (path ≡ revision_path number) → ⊥
    comes (inl n) = same_owner p n.0 one path ((p.plan.leads.linked n.0).0 n.1).0 (stays p one m still) n.2 g
        (λ e. still (inr (subst (λ d. Contains (dists_of revision.linked) d) e (to_map (λ (x : Linked). x.rec.dist) revision.linked n.0 n.1))))
    comes (inr (inl f)) = meta (ap is_meta f.2 ∙ prefix_is_meta f.0.rec.dist)
    comes (inr (inr e)) = meta (ap is_meta e ∙ revision_is_meta number)

    by : ChangedBy now.linked revision number path → ⊥
    by (inl o) = apart now.linked o.0 one path p.apart o.1 m o.3 g (λ e. still (subst (Goes revision) e o.2))
    by (inr (inl f)) = meta (ap is_meta f.3 ∙ prefix_is_meta f.0.rec.dist)
    by (inr (inr c)) = comes (coming_cases number revision path c)

-- the meta file of a package that stays
pub file_unnamed : {kept : Option Folded} {now target : Folded} {others altered trash : List (List ℕ)} {number : ℕ} {revision : Revision}
    {changes : List Change} → IsSoundPlan kept now target others altered trash number revision changes
    → (one : Linked) → Contains now.linked one → (Goes revision one → ⊥) → is_named changes (prefix_path one.rec.dist) ≡ false
file_unnamed {now = now} {target = target} {number = number} {revision = revision} p one m still =
    unnamed_path p path by (λ t. prefix_not_aside one.rec.dist dist (inl t))
  where
    path : List ℕ
    path = prefix_path one.rec.dist

    dist : IsDist one.rec.dist
    dist = all_at (λ x. IsDist x.rec.dist) now.linked one p.plan.now_made.dists m

    comes : IsNewGood revision path ⊎ IsNewFile revision path ⊎ (path ≡ revision_path number) → ⊥
    comes (inl n) = false≢true (sym (outside target.linked n.0 path p.target_in_order ((p.plan.leads.linked n.0).0 n.1).0 n.2)
        ∙ prefix_is_meta one.rec.dist)
    comes (inr (inl f)) = still (inr (subst (λ d. Contains (dists_of revision.linked) d) (sym (same_dist one.rec.dist f.0.rec.dist f.2))
        (to_map (λ (x : Linked). x.rec.dist) revision.linked f.0 f.1)))
    comes (inr (inr e)) = prefix_no_revision one.rec.dist number dist e

    by : ChangedBy now.linked revision number path → ⊥
    by (inl g) = false≢true (sym (outside now.linked g.0 path p.now_in_order g.1 g.3) ∙ prefix_is_meta one.rec.dist)
    by (inr (inl f)) = still (subst (Goes revision)
        (one_of now.linked f.0 one p.now_in_order.by_dist f.1 m (sym (same_dist one.rec.dist f.0.rec.dist f.3))) f.2)
    by (inr (inr c)) = comes (coming_cases number revision path c)

-- what goes or comes is named
pub changed_named : {kept : Option Folded} {now target : Folded} {others altered trash : List (List ℕ)} {number : ℕ} {revision : Revision}
    {changes : List Change} → IsSoundPlan kept now target others altered trash number revision changes
    → (path : List ℕ) → ChangedBy now.linked revision number path → is_named changes path ≡ true
changed_named {changes = changes} p path c =
    let f = of_map (λ (x : Change). x.path) changes path ((p.plan.makes.paths path).1 c) in
    named changes path f.0 f.1 f.2

-- a named path is changed, or it lies in the trash
pub trash_aside : {kept : Option Folded} {now target : Folded} {others altered trash : List (List ℕ)} {number : ℕ} {revision : Revision}
    {changes : List Change} → IsSoundPlan kept now target others altered trash number revision changes
    → (path : List ℕ) → is_named changes path ≡ true → (IsAside path → ⊥) → IsChanged changes path
trash_aside {trash = trash} {number = number} {changes = changes} p path e outside_it = by (named_cases changes path e)
  where
    by : IsChanged changes path ⊎ IsTrashOf changes path → IsChanged changes path
    by (inl c) = c
    by (inr t) =
        let has = all_at (HasTrash trash number changes) changes t.0 p.plan.makes.trashed t.1 in
        absurd (outside_it (inl (decimal number ++ dot ∷ decimal has.k, t.2 ∙ has.stands)))
