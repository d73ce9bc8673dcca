-- The edited tree shows the state with the plan's revision added.
use Rattle.std.specs.Prelude.{◌≡◌, ◌<◌, ◌+◌, ℕ, Bool, true, false, not, List, [], ◌∷◌, ◌++◌, is_some, length, slice_get, suc, zero, Option, None, Some, IfSome, IsSome}
use Rattle.std.proofs.Common.{refl, ap, sym, ◌∙◌, subst, arith, inl, inr, ◌⊎◌}
use Rattle.std.proofs.lemmas.Bool.{cases_order, false≢true}
use Rattle.std.proofs.lemmas.Option.{same_Some, slice_get_within}
use Rattle.std.proofs.lemmas.Slice.Eq.{bytes_eq-Decides}
use Rattle.std.specs.List.{Contains}
use Rattle.std.specs.Str.{bytes_eq}
use Rattle.conda_base.specs.Texts.{Ascending}
use Rattle.conda_path.specs.Dists.{IsDist}
use Rattle.conda_path.specs.declared.values.Good.{Good}
use Rattle.conda_path.specs.declared.values.Node.{Node}
use Rattle.conda_device.specs.Tree.{Tree}
use Rattle.conda_paths.specs.Listings.{is_meta}
use Rattle.conda_goods.specs.Goods.{paths_of}
use Rattle.conda_history.specs.declared.stamp.Stamp.{Stamp}
use Rattle.conda_lane.specs.Changes.{IsEdit, IsOf, at, is_named}
use Rattle.conda_lane.specs.declared.change.Change.{Change}
use Rattle.conda_meta.specs.Folds.{IsFold, left}
use Rattle.conda_meta.specs.Shows.{HasKept, HasMeta, IsAside, IsKept, IsMeta, Shows, State, history_path, pending_path, prefix_path, revision_path, state_history}
use Rattle.conda_meta.specs.Shows.IsMeta.{history as of_history, revision as of_revision, linked as of_linked}
use Rattle.conda_meta.specs.Texts.{prefix_text, revision_text}
use Rattle.conda_meta.specs.declared.folding.Folded.{Folded}
use Rattle.conda_meta.specs.declared.linked.Linked.{Linked}
use Rattle.conda_meta.specs.declared.revision.Revision.{Revision}
use Rattle.conda_linking.specs.Laws.{FoldsToTarget}
use Rattle.conda_plan.specs.Law.{IsSeen, IsSoundPlan, KeepsTexts, next_state, text_node, unnamed, with_history}
use Rattle.conda_moves.specs.Coming.{coming, package_file, revision_file}
use Rattle.conda_moves.specs.Going.{Goes}
use Rattle.conda_plan.proofs.EditLemmas.{HasCome, came, come, kept_comes, put_away, put_here, put_some}
use Rattle.conda_plan.proofs.GoodLemmas.{one_good}
use Rattle.conda_plan.proofs.MemberLemmas.{all_at, of_filter, of_map, to_filter, to_map}
use Rattle.conda_plan.proofs.MetaPathLemmas.{history_is_meta, history_not_aside, prefix_is_meta, prefix_no_history, prefix_not_aside, revision_is_meta, revision_no_history, revision_not_aside}
use Rattle.conda_plan.proofs.NamedLemmas.{changed_named, file_unnamed, good_unnamed, old_unnamed, pending_unnamed, trash_aside}
use Rattle.conda_plan.proofs.PlanLemmas.{ChangedBy, IsNewFile, IsNewGood, coming_cases, coming_file, coming_good, coming_revision, decided, new_good_of, one_of, outside, same_owner, seat, seat_no_history, seat_not_aside, stays, target_cases}

-- ---- a list with one more

pub before_last : {X : Type 0} (xs : List X) (x : X) (n : ℕ) → n < length xs → slice_get (xs ++ x ∷ []) n ≡ slice_get xs n
before_last [] x n q = absurd (omega (arith, q))
before_last (y ∷ ys) x zero q = refl
before_last (y ∷ ys) x (suc n) q = before_last ys x n (omega (arith, q))

pub at_last : {X : Type 0} (xs : List X) (x : X) → slice_get (xs ++ x ∷ []) (length xs) ≡ Some x
at_last [] x = refl
at_last (y ∷ ys) x = at_last ys x

long : {X : Type 0} (xs : List X) (x : X) → length (xs ++ x ∷ []) ≡ length xs + 1
long [] x = refl
long (y ∷ ys) x = omega (arith, long ys x)

-- ---- the state afterwards

pub leads : {number_of : List ℕ → Option ℕ} {tree after keeps : Tree} {state : State} {kept : Option Folded} {now target : Folded}
    {others altered trash : List (List ℕ)} {number : ℕ} {revision : Revision} {changes : List Change} (stamp : Stamp)
    → FoldsToTarget → IsSeen number_of tree state now others altered trash number → IsSoundPlan kept now target others altered trash number revision changes
    → IsEdit keeps after tree changes → KeepsTexts keeps number revision
    → Shows number_of (with_history after (next_state state revision stamp)) (next_state state revision stamp) (unnamed changes others) (unnamed changes altered)
leads {number_of = number_of} {tree = tree} {after = after} {keeps = keeps} {state = state} {kept = kept} {now = now} {target = target} {others = others} {altered = altered} {number = number} {revision = revision} {changes = changes} stamp folds seen p edit texts =
    record {
      paths = λ path. (λ h. paths_to path h.0 h.1 (bytes_eq path history_path) refl, paths_from path);
      no_meta_good = λ path k m. false≢true (sym (kept_outside path k) ∙ meta_is_meta path m.0 m.1);
      no_other_good = λ path k o. no_other path (other_of path o) (kept_cases path k);
      no_other_meta = λ path m o. meta_no_other path m.0 m.1 (other_of path o);
      goods = λ good k. goods_of good k (target_cases p k.0 ((fold.linked k.0).1 k.1));
      metas = metas;
      pending = subst (λ o. IfSome o (λ one. (n : ℕ) × (number_of one.bytes ≡ Some n) × (n < length (state.revisions ++ revision ∷ []))))
          (sym pending_same) (weaker (at tree pending_path) seen.shows.pending);
      absent = λ e. absurd (false≢true (sym e));
    }
  where
    next : State
    next = next_state state revision stamp

    node : Node
    node = text_node (state_history next)

    last : Tree
    last = with_history after next

    fold : IsFold (state.revisions ++ revision ∷ []) target
    fold = folds state.revisions kept now target revision seen.fold p.target_in_order.by_dist p.carried p.plan.leads

    in_target : (one : Linked) → Contains revision.linked one → Contains target.linked one
    in_target one m = ((p.plan.leads.linked one).0 m).0

    path_in : (goods : List Good) (good : Good) → Contains goods good → Contains (paths_of goods) good.path
    path_in goods good m = to_map (λ (x : Good). x.path) goods good m

    -- ---- which paths
    opposite : (v : Bool) → not v ≡ true → v ≡ false
    opposite false e = refl
    opposite true e = sym e

    other_of : (path : List ℕ) → Contains (unnamed changes others) path → Contains others path × (is_named changes path ≡ false)
    other_of path o = let f = of_filter (λ x. not (is_named changes x)) others path o in (f.0, opposite (is_named changes path) f.1)

    new_changed : (path : List ℕ) → IsNewGood revision path → ChangedBy now.linked revision number path
    new_changed path n =
        let f = of_map (λ (x : Good). x.path) n.0.goods path n.2 in
        inr (inr (subst (λ x. Contains (paths_of (coming number revision)) x) f.2
        (path_in (coming number revision) f.0 (coming_good number revision n.0 f.0 n.1 f.1))))

    file_changed : (one : Linked) → Contains revision.linked one → Contains (paths_of (coming number revision)) (prefix_path one.rec.dist)
    file_changed one m = path_in (coming number revision) (package_file one) (coming_file number revision one m)

    own_changed : Contains (paths_of (coming number revision)) (revision_path number)
    own_changed = path_in (coming number revision) (revision_file number revision) (coming_revision number revision)

    unlisted : (path : List ℕ) → is_named changes path ≡ true → Contains (unnamed changes altered) path → ⊥
    unlisted path e a = false≢true (ap not (sym e) ∙ (of_filter (λ x. not (is_named changes x)) altered path a).1)

    listed : (paths : List (List ℕ)) (path : List ℕ) → Contains paths path → is_named changes path ≡ false
        → Contains (unnamed changes paths) path
    listed paths path m e = to_filter (λ x. not (is_named changes x)) paths path m (ap not e)

    same_at : (path : List ℕ) → (path ≡ history_path → ⊥) → is_named changes path ≡ false → at last path ≡ at tree path
    same_at path h e = put_away after history_path node path h ∙ edit.others path e

    -- ---- the goods
    kept_outside : (path : List ℕ) → HasKept next (unnamed changes altered) path → is_meta path ≡ false
    kept_outside path k = outside target.linked k.1.0 path p.target_in_order ((fold.linked k.1.0).1 k.1.1)
        (subst (λ x. Contains (paths_of k.1.0.goods) x) k.2 (path_in k.1.0.goods k.0 k.1.2))

    stay_good : (good : Good) (one : Linked) → Contains now.linked one → (Goes revision one → ⊥) → Contains one.goods good
        → (Contains (unnamed changes altered) good.path → ⊥) → IsKept state altered good
    stay_good good one m still g free = (
      one,
      (seen.fold.linked one).0 m,
      g,
      λ a. free (listed altered good.path a (good_unnamed p one good.path m still (path_in one.goods good g))),
    )

    kept_by : (path : List ℕ) (good : Good) (one : Linked) → Contains one.goods good → (Contains (unnamed changes altered) good.path → ⊥)
        → good.path ≡ path → Contains revision.linked one ⊎ (Contains now.linked one × (¬ Goes revision one))
        → IsNewGood revision path ⊎ (HasKept state altered path × (is_named changes path ≡ false))
    kept_by path good one g free e (inl m) = inl (one, m, subst (λ x. Contains (paths_of one.goods) x) e (path_in one.goods good g))
    kept_by path good one g free e (inr s) = inr (
      (good, stay_good good one s.0 s.1 g free, e),
      subst (λ x. is_named changes x ≡ false) e (good_unnamed p one good.path s.0 s.1 (path_in one.goods good g)),
    )

    kept_cases : (path : List ℕ) → HasKept next (unnamed changes altered) path
        → IsNewGood revision path ⊎ (HasKept state altered path × (is_named changes path ≡ false))
    kept_cases path k = kept_by path k.0 k.1.0 k.1.2 k.1.3 k.2 (target_cases p k.1.0 ((fold.linked k.1.0).1 k.1.1))

    no_other : (path : List ℕ) → Contains others path × (is_named changes path ≡ false)
        → IsNewGood revision path ⊎ (HasKept state altered path × (is_named changes path ≡ false)) → ⊥
    no_other path o (inl n) = false≢true (sym o.1 ∙ changed_named p path (new_changed path n))
    no_other path o (inr s) = seen.shows.no_other_good path s.0 o.0

    meets : (good : Good) (one : Linked) → Contains one.goods good → Contains revision.linked one
        → (h : HasCome keeps after number revision good.path)
        → (x : Linked) → Contains revision.linked x → Contains x.goods h.good → (v : Bool) → bytes_eq x.rec.dist one.rec.dist ≡ v
        → h.good ≡ good
    meets good one g m h x n k true e =
        let same : x ≡ one = one_of target.linked x one p.target_in_order.by_dist (in_target x n) (in_target one m)
        ((bytes_eq-Decides x.rec.dist one.rec.dist).0 e) in
        one_good one.goods h.good good (all_at (λ (y : Linked). Ascending (paths_of y.goods)) target.linked one p.plan.target_made.goods (in_target one m))
        (subst (λ (y : Linked). Contains y.goods h.good) same k) g h.path_is
    meets good one g m h x n k false e = absurd (same_owner p x one good.path (in_target x n) (in_target one m)
        (subst (λ y. Contains (paths_of x.goods) y) h.path_is (path_in x.goods h.good k)) (path_in one.goods good g)
        (λ d. false≢true (sym e ∙ (bytes_eq-Decides x.rec.dist one.rec.dist).1 d)))

    come_good : (good : Good) (one : Linked) → Contains one.goods good → Contains revision.linked one
        → (h : HasCome keeps after number revision good.path)
        → h.good ≡ good
    come_good good one g m h =
        let f = new_good_of number revision h.good h.among (subst (λ x. is_meta x ≡ false) (sym h.path_is)
        (outside target.linked one good.path p.target_in_order (in_target one m) (path_in one.goods good g))) in
        meets good one g m h f.0 f.1 f.2 (bytes_eq f.0.rec.dist one.rec.dist) refl

    goods_of : (good : Good) (k : IsKept next (unnamed changes altered) good)
        → Contains revision.linked k.0 ⊎ (Contains now.linked k.0 × (¬ Goes revision k.0)) → IfSome (at last good.path) (IsOf good)
    goods_of good k (inl m) =
        let path = path_in k.0.goods good k.2 in
        let changed = new_changed good.path (k.0, m, path) in
        let h = come p edit good.path (path_in (coming number revision) good (coming_good number revision k.0 good m k.2)) in
        subst (λ o. IfSome o (IsOf good)) (sym (put_away after history_path node good.path (seat_no_history revision number good.path (seat p good.path changed)) ∙ h.found))
        (subst (λ x. IsOf x h.node) (come_good good k.0 k.2 m h) h.is_of)
    goods_of good k (inr s) =
        let path = path_in k.0.goods good k.2 in
        subst (λ o. IfSome o (IsOf good)) (sym (same_at good.path
        (λ e. false≢true (sym (outside now.linked k.0 good.path p.now_in_order s.0 path) ∙ ap is_meta e ∙ history_is_meta))
        (good_unnamed p k.0 good.path s.0 s.1 path)))
        (seen.shows.goods good (stay_good good k.0 s.0 s.1 k.2 k.3))

    -- ---- the meta files
    meta_is_meta : (path text : List ℕ) → IsMeta next path text → is_meta path ≡ true
    meta_is_meta _ _ (of_history h) = history_is_meta
    meta_is_meta _ _ (of_revision n one is) = revision_is_meta n
    meta_is_meta _ _ (of_linked one is) = prefix_is_meta one.rec.dist

    meta_not_aside : (path text : List ℕ) → IsMeta next path text → IsAside path → ⊥
    meta_not_aside _ _ (of_history h) = history_not_aside
    meta_not_aside _ _ (of_revision n one is) = revision_not_aside n
    meta_not_aside _ _ (of_linked one is) = prefix_not_aside one.rec.dist
        (all_at (λ x. IsDist x.rec.dist) target.linked one p.plan.target_made.dists ((fold.linked one).1 is))

    below : (n : ℕ) (one : Revision) → slice_get (state.revisions ++ revision ∷ []) n ≡ Some one → n < number + 1
    below n one is =
        let q = slice_get_within (state.revisions ++ revision ∷ []) n one is in
        omega (arith, q, long state.revisions revision, seen.count)

    old_revision : (n : ℕ) (one : Revision) → n < number → slice_get (state.revisions ++ revision ∷ []) n ≡ Some one
        → slice_get state.revisions n ≡ Some one
    old_revision n one q is = sym (before_last state.revisions revision n (subst (λ k. n < k) (sym seen.count) q)) ∙ is

    own_revision : (n : ℕ) (one : Revision) → n ≡ number → slice_get (state.revisions ++ revision ∷ []) n ≡ Some one → one ≡ revision
    own_revision n one e is =
        same_Some one revision (sym is ∙ ap (λ k. slice_get (state.revisions ++ revision ∷ []) k) (e ∙ sym seen.count) ∙ at_last state.revisions revision)

    revision_here : (n : ℕ) (one : Revision) → slice_get (state.revisions ++ revision ∷ []) n ≡ Some one
        → (n ≡ number) ⊎ ((n < number) ⊎ (number < n)) → at last (revision_path n) ≡ Some (text_node (revision_text one))
    revision_here n one is (inl e) =
        put_away after history_path node (revision_path n) (revision_no_history n)
        ∙ ap (λ k. at after (revision_path k)) e
        ∙ kept_comes (come p edit (revision_path number) own_changed) (text_node (revision_text revision)) texts.own
        ∙ ap (λ x. Some (text_node (revision_text x))) (sym (own_revision n one e is))
    revision_here n one is (inr (inl q)) = same_at (revision_path n) (revision_no_history n) (old_unnamed p n q)
        ∙ seen.shows.metas (revision_path n) (revision_text one) (of_revision n one (old_revision n one q is))
    revision_here n one is (inr (inr q)) = absurd (omega (arith, q, below n one is))

    linked_here : (one : Linked) → Contains revision.linked one ⊎ (Contains now.linked one × (¬ Goes revision one))
        → at last (prefix_path one.rec.dist) ≡ Some (text_node (prefix_text one))
    linked_here one (inl m) =
        put_away after history_path node (prefix_path one.rec.dist) (prefix_no_history one.rec.dist)
        ∙ kept_comes (come p edit (prefix_path one.rec.dist) (file_changed one m)) (text_node (prefix_text one)) (texts.packages one m)
    linked_here one (inr s) = same_at (prefix_path one.rec.dist) (prefix_no_history one.rec.dist) (file_unnamed p one s.0 s.1)
        ∙ seen.shows.metas (prefix_path one.rec.dist) (prefix_text one) (of_linked one ((seen.fold.linked one).0 s.0))

    metas : (path text : List ℕ) → IsMeta next path text → at last path ≡ Some (text_node text)
    metas _ _ (of_history h) = put_here after history_path node
    metas _ _ (of_revision n one is) = revision_here n one is (cases_order n number)
    metas _ _ (of_linked one is) = linked_here one (target_cases p one ((fold.linked one).1 is))

    -- ---- no other path is that of a meta file
    history_other : (v : Bool) → state.present ≡ v → Contains others history_path → ⊥
    history_other true e o = seen.shows.no_other_meta history_path (state_history state, of_history e) o
    history_other false e o = false≢true (sym (ap is_some (seen.shows.absent e).1) ∙ ((seen.shows.paths history_path).1 (inr (inr o))).0)

    revision_other : (n : ℕ) (one : Revision) → slice_get (state.revisions ++ revision ∷ []) n ≡ Some one
        → (n ≡ number) ⊎ ((n < number) ⊎ (number < n))
        → Contains others (revision_path n) × (is_named changes (revision_path n) ≡ false) → ⊥
    revision_other n one is (inl e) o = false≢true (sym o.1 ∙ ap (λ k. is_named changes (revision_path k)) e
        ∙ changed_named p (revision_path number) (inr (inr own_changed)))
    revision_other n one is (inr (inl q)) o =
        seen.shows.no_other_meta (revision_path n) (revision_text one, of_revision n one (old_revision n one q is)) o.0
    revision_other n one is (inr (inr q)) o = absurd (omega (arith, q, below n one is))

    linked_other : (one : Linked) → Contains revision.linked one ⊎ (Contains now.linked one × (¬ Goes revision one))
        → Contains others (prefix_path one.rec.dist) × (is_named changes (prefix_path one.rec.dist) ≡ false) → ⊥
    linked_other one (inl m) o = false≢true (sym o.1 ∙ changed_named p (prefix_path one.rec.dist) (inr (inr (file_changed one m))))
    linked_other one (inr s) o =
        seen.shows.no_other_meta (prefix_path one.rec.dist) (prefix_text one, of_linked one ((seen.fold.linked one).0 s.0)) o.0

    meta_no_other : (path text : List ℕ) → IsMeta next path text → Contains others path × (is_named changes path ≡ false) → ⊥
    meta_no_other _ _ (of_history h) o = history_other state.present refl o.0
    meta_no_other _ _ (of_revision n one is) o = revision_other n one is (cases_order n number) o
    meta_no_other _ _ (of_linked one is) o = linked_other one (target_cases p one ((fold.linked one).1 is)) o

    -- ---- all paths
    came_shown : (path : List ℕ) → Contains (paths_of (coming number revision)) path
        → IsNewGood revision path ⊎ IsNewFile revision path ⊎ (path ≡ revision_path number)
        → HasKept next (unnamed changes altered) path ⊎ HasMeta next path ⊎ Contains (unnamed changes others) path
    came_shown path c (inl n) =
        let f = of_map (λ (x : Good). x.path) n.0.goods path n.2 in
        inl (
          f.0,
          (
            n.0,
            (fold.linked n.0).0 (in_target n.0 n.1),
            f.1,
            λ a. unlisted path (changed_named p path (inr (inr c))) (subst (λ x. Contains (unnamed changes altered) x) f.2 a),
          ),
          f.2,
        )
    came_shown path c (inr (inl f)) = inr (inl (
      prefix_text f.0,
      subst (λ x. IsMeta next x (prefix_text f.0)) (sym f.2)
          (of_linked f.0 ((fold.linked f.0).0 (in_target f.0 f.1))),
    ))
    came_shown path c (inr (inr e)) = inr (inl (
      revision_text revision,
      subst (λ x. IsMeta next x (revision_text revision)) (sym e)
          (of_revision number revision (ap (λ k. slice_get (state.revisions ++ revision ∷ []) k) (sym seen.count) ∙ at_last state.revisions revision)),
    ))

    stay_shown : (path : List ℕ) (one : Linked) → Contains now.linked one → is_named changes path ≡ false → (Goes revision one → ChangedBy now.linked revision number path)
        → Goes revision one ⊎ (¬ Goes revision one) → left (state.revisions ++ revision ∷ []) one.rec.dist ≡ Some one
    stay_shown path one m e f (inl g) = absurd (false≢true (sym e ∙ changed_named p path (f g)))
    stay_shown path one m e f (inr s) = (fold.linked one).0 (stays p one m s)

    meta_shown : (path text : List ℕ) → IsMeta state path text → (path ≡ history_path → ⊥) → is_named changes path ≡ false
        → HasMeta next path
    meta_shown _ _ (of_history h) apart e = absurd (apart refl)
    meta_shown _ _ (of_revision n one is) apart e = (
      revision_text one,
      of_revision n one
          (before_last state.revisions revision n (slice_get_within state.revisions n one is) ∙ is),
    )
    meta_shown _ _ (of_linked one is) apart e =
        let m = (seen.fold.linked one).1 is in
        (prefix_text one, of_linked one (stay_shown (prefix_path one.rec.dist) one m e (λ g. inr (inl (one, m, g, refl))) (decided revision one)))

    old_shown : (path : List ℕ) → (path ≡ history_path → ⊥) → is_named changes path ≡ false
        → HasKept state altered path ⊎ HasMeta state path ⊎ Contains others path
        → HasKept next (unnamed changes altered) path ⊎ HasMeta next path ⊎ Contains (unnamed changes others) path
    old_shown path apart e (inl k) =
        let one = k.1.0 in
        let m = (seen.fold.linked one).1 k.1.1 in
        let g = subst (λ x. Contains (paths_of one.goods) x) k.2 (path_in one.goods k.0 k.1.2) in
        inl (
          k.0,
          (
            one,
            stay_shown path one m e (λ y. inl (one, m, y, g)) (decided revision one),
            k.1.2,
            λ a. k.1.3 (of_filter (λ x. not (is_named changes x)) altered k.0.path a).0,
          ),
          k.2,
        )
    old_shown path apart e (inr (inl m)) = inr (inl (meta_shown path m.0 m.1 apart e))
    old_shown path apart e (inr (inr o)) = inr (inr (listed others path o e))

    after_shown : (path : List ℕ) → IsSome (at after path) → (IsAside path → ⊥) → (path ≡ history_path → ⊥) → (v : Bool)
        → is_named changes path ≡ v
        → HasKept next (unnamed changes altered) path ⊎ HasMeta next path ⊎ Contains (unnamed changes others) path
    after_shown path some free apart true e =
        let c = came p edit path (trash_aside p path e free) some in
        came_shown path c (coming_cases number revision path c)
    after_shown path some free apart false e =
        old_shown path apart e ((seen.shows.paths path).0 (subst IsSome (edit.others path e) some, free))

    paths_to : (path : List ℕ) → IsSome (at last path) → (IsAside path → ⊥) → (v : Bool) → bytes_eq path history_path ≡ v
        → HasKept next (unnamed changes altered) path ⊎ HasMeta next path ⊎ Contains (unnamed changes others) path
    paths_to path some free true e = inr (inl (
      state_history next,
      subst (λ x. IsMeta next x (state_history next)) (sym ((bytes_eq-Decides path history_path).0 e)) (of_history refl),
    ))
    paths_to path some free false e =
        let apart : path ≡ history_path → ⊥ = λ q. false≢true (sym e ∙ (bytes_eq-Decides path history_path).1 q) in
        after_shown path (subst IsSome (put_away after history_path node path apart) some) free apart (is_named changes path) refl

    here : (path : List ℕ) → is_named changes path ≡ false → IsSome (at tree path) × (¬ IsAside path)
        → IsSome (at last path) × (¬ IsAside path)
    here path e h = (put_some after history_path node path (subst IsSome (sym (edit.others path e)) h.0), h.1)

    kept_here : (path : List ℕ) → IsNewGood revision path ⊎ (HasKept state altered path × (is_named changes path ≡ false))
        → IsSome (at last path) × (¬ IsAside path)
    kept_here path (inl n) =
        let changed = new_changed path n in
        let f = of_map (λ (x : Good). x.path) n.0.goods path n.2 in
        let c = subst (λ x. Contains (paths_of (coming number revision)) x) f.2
        (path_in (coming number revision) f.0 (coming_good number revision n.0 f.0 n.1 f.1)) in
        (put_some after history_path node path (ap is_some (come p edit path c).found), seat_not_aside revision number path (seat p path changed))
    kept_here path (inr s) = here path s.1 ((seen.shows.paths path).1 (inl s.0))

    paths_from : (path : List ℕ) → HasKept next (unnamed changes altered) path ⊎ HasMeta next path ⊎ Contains (unnamed changes others) path
        → IsSome (at last path) × (¬ IsAside path)
    paths_from path (inl k) = kept_here path (kept_cases path k)
    paths_from path (inr (inl m)) = (ap is_some (metas path m.0 m.1), meta_not_aside path m.0 m.1)
    paths_from path (inr (inr o)) = let f = other_of path o in here path f.1 ((seen.shows.paths path).1 (inr (inr f.0)))

    -- ---- the pending file
    pending_same : at last pending_path ≡ at tree pending_path
    pending_same = same_at pending_path (λ e. history_not_aside (inr (sym e))) (pending_unnamed p)

    weaker : (o : Option Node) → IfSome o (λ one. (n : ℕ) × (number_of one.bytes ≡ Some n) × (n < length state.revisions))
        → IfSome o (λ one. (n : ℕ) × (number_of one.bytes ≡ Some n) × (n < length (state.revisions ++ revision ∷ [])))
    weaker None h = tt
    weaker (Some one) h = (h.0, h.1, omega (arith, h.2, long state.revisions revision))
