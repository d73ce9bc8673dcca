-- The tree of a state in which the changes of a plan may start.
use Rattle.std.specs.Prelude.{◌≡◌, ◌<◌, ◌^◌, ℕ, Bool, true, false, List, ◌∷◌, ◌++◌, decimal, is_some, Option, None, Some, IsSome}
use Rattle.std.proofs.Common.{refl, ap, sym, ◌∙◌, subst, arith, inl, inr, ◌⊎◌}
use Rattle.std.proofs.lemmas.Bool.{false≢true}
use Rattle.std.specs.List.{Contains}
use Rattle.conda_base.specs.Signs.{dot}
use Rattle.conda_path.specs.Dists.{IsDist}
use Rattle.conda_path.specs.Lanes.{trash_path}
use Rattle.conda_path.specs.declared.values.Good.{Good}
use Rattle.conda_device.specs.Tree.{Tree}
use Rattle.conda_paths.specs.Listings.{is_meta}
use Rattle.conda_goods.specs.Goods.{paths_of}
use Rattle.conda_lane.specs.Changes.{IsReady, IsStart, at}
use Rattle.conda_lane.specs.declared.change.Change.{Change}
use Rattle.conda_meta.specs.Reading.{dists_of}
use Rattle.conda_meta.specs.Shows.{HasKept, HasMeta, IsMeta, State, prefix_path, revision_path}
use Rattle.conda_meta.specs.Shows.IsMeta.{history as of_history, revision as of_revision, linked as of_linked}
use Rattle.conda_meta.specs.Texts.{prefix_text}
use Rattle.conda_meta.specs.declared.folding.Folded.{Folded}
use Rattle.conda_meta.specs.declared.linked.Linked.{Linked}
use Rattle.conda_meta.specs.declared.revision.Revision.{Revision}
use Rattle.conda_plan.specs.Law.{IsSeen, IsSoundPlan}
use Rattle.conda_moves.specs.Going.{Goes}
use Rattle.conda_moves.specs.Moves.{IsThere}
use Rattle.conda_plan.specs.Planning.{IsPlanned}
use Rattle.conda_changes.specs.Trash.{HasTrash}
use Rattle.conda_plan.proofs.MemberLemmas.{all_at, all_from, of_map, to_map}
use Rattle.conda_plan.proofs.MetaPathLemmas.{prefix_is_meta, prefix_no_revision, revision_is_meta, same_dist, same_number}
use Rattle.conda_plan.proofs.PlanLemmas.{ChangedBy, IsNewFile, IsNewGood, IsSeat, coming_cases, decided, outside, same_owner, seat, seat_no_history, seat_not_aside, stays}
use Rattle.std.proofs.lemmas.Option.{slice_get_within}

-- ---- what is there stands in the tree

pub stands : {number_of : List ℕ
    → Option ℕ} {tree : Tree} {state : State} {now : Folded} {others altered trash : List (List ℕ)} {number : ℕ}
    (revision : Revision) → IsSeen number_of tree state now others altered trash number → (path : List ℕ)
    → IsThere now.linked revision others altered path → IsSome (at tree path)
stands {now = now} {altered = altered} revision seen path (inl g) =
    let one = g.0.0 in
    let f = of_map (λ (good : Good). good.path) one.goods path g.0.3 in
    ((seen.shows.paths path).1
    (inl (f.0, (one, (seen.fold.linked one).0 g.0.1, f.1, λ a. g.1 (subst (λ p. Contains altered p) f.2 a)), f.2))).0
stands {state = state} {now = now} revision seen path (inr (inl f)) =
    ap is_some (seen.shows.metas path (prefix_text f.0)
    (subst (λ p. IsMeta state p (prefix_text f.0)) (sym f.3) (of_linked f.0 ((seen.fold.linked f.0).0 f.1))))
stands revision seen path (inr (inr o)) = ((seen.shows.paths path).1 (inr (inr o))).0

-- ---- what stands in the tree at a changed path is there

there : {number_of : List ℕ → Option ℕ} {tree : Tree} {state : State} {kept : Option Folded} {now target : Folded}
    {others altered trash : List (List ℕ)} {number : ℕ} {revision : Revision} {changes : List Change}
    → IsSeen number_of tree state now others altered trash number → IsSoundPlan kept now target others altered trash number revision changes
    → (path : List ℕ) → ChangedBy now.linked revision number path → IsSome (at tree path) → IsThere now.linked revision others altered path
there {state = state} {now = now} {target = target} {others = others} {altered = altered} {number = number} {revision = revision} seen p path changed some =
    by ((seen.shows.paths path).0 (some, seat_not_aside revision number path (seat p path changed)))
  where
    in_target : (one : Linked) → Contains revision.linked one → Contains target.linked one
    in_target one m = ((p.plan.leads.linked one).0 m).0

    goes : (one : Linked) (x : Linked) → Contains revision.linked x → x.rec.dist ≡ one.rec.dist → Goes revision one
    goes one x m e = inr (subst (λ d. Contains (dists_of revision.linked) d) e (to_map (λ (y : Linked). y.rec.dist) revision.linked x m))

    -- the path of a good of a package that is linked now
    good_meets : (one : Linked) → Contains now.linked one → Contains (paths_of one.goods) path → (Contains altered path → ⊥)
        → IsNewGood revision path → Goes revision one ⊎ (¬ Goes revision one) → IsThere now.linked revision others altered path
    good_meets one m g free n (inl y) = inl ((one, m, y, g), free)
    good_meets one m g free n (inr x) =
        absurd (same_owner p n.0 one path (in_target n.0 n.1) (stays p one m x) n.2 g (λ e. x (goes one n.0 n.1 e)))

    good_comes : (one : Linked) → Contains now.linked one → Contains (paths_of one.goods) path → (Contains altered path → ⊥)
        → IsNewGood revision path ⊎ IsNewFile revision path ⊎ (path ≡ revision_path number)
        → IsThere now.linked revision others altered path
    good_comes one m g free (inl n) = good_meets one m g free n (decided revision one)
    good_comes one m g free (inr (inl f)) =
        absurd (false≢true (sym (outside now.linked one path p.now_in_order m g) ∙ ap is_meta f.2 ∙ prefix_is_meta f.0.rec.dist))
    good_comes one m g free (inr (inr e)) =
        absurd (false≢true (sym (outside now.linked one path p.now_in_order m g) ∙ ap is_meta e ∙ revision_is_meta number))

    good_there : (one : Linked) → Contains now.linked one → Contains (paths_of one.goods) path → (Contains altered path → ⊥)
        → ChangedBy now.linked revision number path → IsThere now.linked revision others altered path
    good_there one m g free (inl h) = inl (h, free)
    good_there one m g free (inr (inl f)) = inr (inl f)
    good_there one m g free (inr (inr c)) = good_comes one m g free (coming_cases number revision path c)

    -- the path of a meta file
    file_comes : (one : Linked) → Contains now.linked one → path ≡ prefix_path one.rec.dist
        → IsNewGood revision path ⊎ IsNewFile revision path ⊎ (path ≡ revision_path number)
        → IsThere now.linked revision others altered path
    file_comes one m e (inl n) = absurd (false≢true (sym (outside target.linked n.0 path p.target_in_order (in_target n.0 n.1) n.2)
        ∙ ap is_meta e ∙ prefix_is_meta one.rec.dist))
    file_comes one m e (inr (inl f)) = inr (inl (one, m, goes one f.0 f.1 (same_dist f.0.rec.dist one.rec.dist (sym f.2 ∙ e)), e))
    file_comes one m e (inr (inr r)) = absurd (prefix_no_revision one.rec.dist number
        (all_at (λ x. IsDist x.rec.dist) now.linked one p.plan.now_made.dists m) (sym e ∙ r))

    file_there : (one : Linked) → Contains now.linked one → path ≡ prefix_path one.rec.dist → ChangedBy now.linked revision number path
        → IsThere now.linked revision others altered path
    file_there one m e (inl g) = absurd (false≢true (sym (outside now.linked g.0 path p.now_in_order g.1 g.3)
        ∙ ap is_meta e ∙ prefix_is_meta one.rec.dist))
    file_there one m e (inr (inl f)) = inr (inl f)
    file_there one m e (inr (inr c)) = file_comes one m e (coming_cases number revision path c)

    old_revision : (n : ℕ) → n < number → path ≡ revision_path n → IsSeat revision number path → ⊥
    old_revision n q e (inl o) = false≢true (sym o ∙ ap is_meta e ∙ revision_is_meta n)
    old_revision n q e (inr (inl f)) = prefix_no_revision f.0 n f.1 (sym f.2 ∙ e)
    old_revision n q e (inr (inr r)) =
        let small : number < 2 ^ 64 = p.plan.small in
        let same = same_number n number (omega (arith, q, small)) small (sym e ∙ r) in
        omega (arith, q, same)

    meta_there : (at_path text : List ℕ) → IsMeta state at_path text → path ≡ at_path → IsThere now.linked revision others altered path
    meta_there _ _ (of_history h) e = absurd (seat_no_history revision number path (seat p path changed) e)
    meta_there _ _ (of_revision n one is) e = absurd (old_revision n
        (subst (λ k. n < k) seen.count (slice_get_within state.revisions n one is)) e (seat p path changed))
    meta_there _ _ (of_linked one is) e = file_there one ((seen.fold.linked one).1 is) e changed

    by : HasKept state altered path ⊎ HasMeta state path ⊎ Contains others path → IsThere now.linked revision others altered path
    by (inl k) = good_there k.1.0 ((seen.fold.linked k.1.0).1 k.1.1)
        (subst (λ x. Contains (paths_of k.1.0.goods) x) k.2 (to_map (λ (good : Good). good.path) k.1.0.goods k.0 k.1.2))
        (λ a. k.1.3 (subst (λ x. Contains altered x) (sym k.2) a)) changed
    by (inr (inl m)) = meta_there path m.0 m.1 refl
    by (inr (inr o)) = inr (inr o)

-- ---- all changes

pub starts : {number_of : List ℕ → Option ℕ} {tree : Tree} {state : State} {kept : Option Folded} {now target : Folded}
    {others altered trash : List (List ℕ)} {number : ℕ} {revision : Revision} {changes : List Change}
    → IsSeen number_of tree state now others altered trash number → IsSoundPlan kept now target others altered trash number revision changes
    → IsStart tree changes
starts {tree = tree} {now = now} {others = others} {altered = altered} {trash = trash} {number = number} {revision = revision} {changes = changes} seen p =
    all_from (IsReady tree) changes (λ change m.
    let planned = all_at (IsPlanned now.linked revision others altered number) changes change p.plan.makes.each m in
    let has = all_at (HasTrash trash number changes) changes change p.plan.makes.trashed m in
    let changed = (p.plan.makes.paths change.path).0 (to_map (λ (c : Change). c.path) changes change m) in
    record {
      old = same (is_some (at tree change.path)) change.old (λ s. planned.old.1 (there seen p change.path changed s))
          (λ o. stands revision seen change.path (planned.old.0 o));
      trash = empty (at tree change.trash) (at tree change.trash) refl (λ found. has.unused (inl (seen.known (trash_path number has.k)
          (decimal number ++ dot ∷ decimal has.k, refl) (subst (λ x. IsSome (at tree x)) has.stands found))));
    })
  where
    same : (v w : Bool) → (v ≡ true → w ≡ true) → (w ≡ true → v ≡ true) → v ≡ w
    same true w f g = sym (f refl)
    same false true f g = g refl
    same false false f g = refl

    empty : {X : Type 0} (o q : Option X) → o ≡ q → (is_some o ≡ true → ⊥) → q ≡ None
    empty o None e f = refl
    empty o (Some x) e f = absurd (f (ap is_some e))
