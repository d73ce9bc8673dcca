-- What one device call makes of a change's two paths.
use Rattle.std.proofs.Common.{◌≡◌, ◌⊎◌, inl, inr, ℕ, List, Bool, true, false, true≢false, cond, is_none, is_some, IsSome, IfSome, OnErr, OnOk, Result, Ok, Err, Option, Some, None, refl, ap, subst, sym, ◌∙◌}
use Rattle.std.specs.Str.{bytes_eq}
use Rattle.std.specs.FinMap as map
use Rattle.std.specs.Prelude.{Contains}
use Rattle.conda_path.specs.declared.values.Good.{Good}
use Rattle.conda_path.specs.declared.values.Node.{Node}
use Rattle.conda_device.specs.Fault.{BeforeOrAsked}
use Rattle.conda_device.specs.Tree.{Tree, move, moved, with_node, without}
use Rattle.conda_device.specs.Trees.{get_erased, get_moved, get_put}
use Rattle.conda_lane.specs.declared.change.Change.{Change}
use Rattle.conda_lane.specs.Calls.{Leads}
use Rattle.conda_lane.specs.Changes.{IsMoved, IsNew, IsReady, at}
use Rattle.conda_lane.specs.Purge.{IsErased, erased_trash}
use Rattle.conda_lane.specs.Steps.{Goes, IsPut, IsPutNode}
use Rattle.conda_lane.specs.Supplies.{HasGood, IsGiven, SupplyState}
use Rattle.conda_lane.specs.Undo.{IsClearedAt, IsMovedBackAt, cleared, moved_back, undone_trash}
use Rattle.conda_lane.proofs.Lists.{apart_sym, eq_self}
use Rattle.conda_lane.proofs.WalkLemmas.{leads_map}

pub on_err : {A E : Type 0} {P : Type 0} (result : Result A E) → P → OnErr result P
on_err (Ok x) h = tt
on_err (Err e) h = h

-- a call that failed left all as it was, or had its effect, which leads there
pub stays_or_goes : (E : Tree → Tree → Change → Type 0) (c : Change) (t asked u : Option Tree) → BeforeOrAsked t asked u → Leads (Goes E c) t asked
    → (u ≡ t) ⊎ Leads (Goes E c) t u
stays_or_goes E c t asked u h leads = elim h [
  | inl same ↦ inl same
  | inr is ↦ inr (subst (λ x. Leads (Goes E c) t x) (sym is) leads)
]

pub goes_as : (E : Tree → Tree → Change → Type 0) (c : Change) (t asked u : Option Tree) → u ≡ asked → Leads (Goes E c) t asked → Leads (Goes E c) t u
goes_as E c t asked u is leads = subst (λ x. Leads (Goes E c) t x) (sym is) leads

module _ (tree : Tree) (c : Change) (own : bytes_eq c.path c.trash ≡ false) where
  -- the node at one path goes to the other
  out_path : IsSome (at tree c.path) → at (move tree c.path c.trash) c.path ≡ None
  out_path is =
      get_moved tree c.path c.trash c.path is ∙ ap (λ b. cond b (at tree c.path) (cond (bytes_eq c.path c.path) None (at tree c.path))) own
      ∙ ap (λ b. cond b None (at tree c.path)) (eq_self c.path)

  out_trash : IsSome (at tree c.path) → at (move tree c.path c.trash) c.trash ≡ at tree c.path
  out_trash is =
      get_moved tree c.path c.trash c.trash is ∙ ap (λ b. cond b (at tree c.path) (cond (bytes_eq c.trash c.path) None (at tree c.trash))) (eq_self c.trash)

  out_others : IsSome (at tree c.path) → (p : List ℕ) → bytes_eq p c.path ≡ false → bytes_eq p c.trash ≡ false → at (move tree c.path c.trash) p ≡ at tree p
  out_others is p path trash =
      get_moved tree c.path c.trash p is ∙ ap (λ b. cond b (at tree c.path) (cond (bytes_eq p c.path) None (at tree p))) trash
      ∙ ap (λ b. cond b None (at tree p)) path

  in_path : IsSome (at tree c.trash) → at (move tree c.trash c.path) c.path ≡ at tree c.trash
  in_path is =
      get_moved tree c.trash c.path c.path is ∙ ap (λ b. cond b (at tree c.trash) (cond (bytes_eq c.path c.trash) None (at tree c.path))) (eq_self c.path)

  in_trash : IsSome (at tree c.trash) → at (move tree c.trash c.path) c.trash ≡ None
  in_trash is =
      get_moved tree c.trash c.path c.trash is
      ∙ ap (λ b. cond b (at tree c.trash) (cond (bytes_eq c.trash c.trash) None (at tree c.trash))) (apart_sym c.path c.trash own)
      ∙ ap (λ b. cond b None (at tree c.trash)) (eq_self c.trash)

  in_others : IsSome (at tree c.trash) → (p : List ℕ) → bytes_eq p c.path ≡ false → bytes_eq p c.trash ≡ false → at (move tree c.trash c.path) p ≡ at tree p
  in_others is p path trash =
      get_moved tree c.trash c.path p is ∙ ap (λ b. cond b (at tree c.trash) (cond (bytes_eq p c.trash) None (at tree p))) path
      ∙ ap (λ b. cond b None (at tree p)) trash

  out_goes : IsReady tree c → c.old ≡ true → Goes IsMoved c tree (move tree c.path c.trash)
  out_goes ready old =
      let is : IsSome (at tree c.path) = ready.old ∙ old in
      record { own = record { path = out_path is; trash = out_trash is }; others = out_others is }

  some_moves : (path found : Option Node) → IsSome found → found ≡ moved_back true path found
  some_moves path None is = absurd (true≢false (sym is))
  some_moves path (Some node) is = refl

  in_goes : c.old ≡ true → IsSome (at tree c.trash) → Goes IsMovedBackAt c tree (move tree c.trash c.path)
  in_goes old is = record {
    own = record {
      path = in_path is ∙ some_moves (at tree c.path) (at tree c.trash) is ∙ sym (ap (λ b. moved_back b (at tree c.path) (at tree c.trash)) old);
      trash = in_trash is ∙ sym (ap (λ b. undone_trash b (at tree c.trash)) old);
    };
    others = in_others is;
  }

  -- the path is erased
  cleared_goes : cleared c.old (at tree c.path) (at tree c.trash) ≡ None → Goes IsClearedAt c tree (map.remove tree c.path)
  cleared_goes is = record {
    own = record {
      path = get_erased tree c.path c.path ∙ ap (λ b. cond b None (at tree c.path)) (eq_self c.path) ∙ sym is;
      trash = get_erased tree c.path c.trash ∙ ap (λ b. cond b None (at tree c.trash)) (apart_sym c.path c.trash own);
    };
    others = λ p path trash. get_erased tree c.path p ∙ ap (λ b. cond b None (at tree p)) path;
  }

  -- or the trash
  erased_goes : c.old ≡ true → Goes IsErased c tree (map.remove tree c.trash)
  erased_goes old = record {
    own = record {
      path = get_erased tree c.trash c.path ∙ ap (λ b. cond b None (at tree c.path)) own;
      trash =
          get_erased tree c.trash c.trash ∙ ap (λ b. cond b None (at tree c.trash)) (eq_self c.trash)
          ∙ sym (ap (λ b. erased_trash b (at tree c.trash)) old);
    };
    others = λ p path trash. get_erased tree c.trash p ∙ ap (λ b. cond b None (at tree p)) trash;
  }

none_cleared : (path found : Option Node) → IsSome found → cleared true path found ≡ None
none_cleared path None is = absurd (true≢false (sym is))
none_cleared path (Some node) is = refl

-- ---- where the tree is told

module _ (t : Option Tree) (c : Change) (own : bytes_eq c.path c.trash ≡ false) where
  pub shift_out : IfSome t (λ tree. IsReady tree c) → c.old ≡ true → Leads (Goes IsMoved c) t (moved t c.path c.trash)
  shift_out ready old = elim t as (λ o. IfSome o (λ tree. IsReady tree c) → Leads (Goes IsMoved c) o (moved o c.path c.trash)) [
    | None ↦ λ r. tt
    | Some tree ↦ λ r. out_goes tree c own r old
  ] ready

  pub shift_in : c.old ≡ true → IfSome t (λ tree. true ≡ is_some (at tree c.trash)) → Leads (Goes IsMovedBackAt c) t (moved t c.trash c.path)
  shift_in old found = elim t as (λ o. IfSome o (λ tree. true ≡ is_some (at tree c.trash)) → Leads (Goes IsMovedBackAt c) o (moved o c.trash c.path)) [
    | None ↦ λ r. tt
    | Some tree ↦ λ r. in_goes tree c own old (sym r)
  ] found

  pub erase_new : c.old ≡ false → Leads (Goes IsClearedAt c) t (without t c.path)
  erase_new old = elim t as (λ o. Leads (Goes IsClearedAt c) o (without o c.path)) [
    | None ↦ tt
    | Some tree ↦ cleared_goes tree c own (ap (λ b. cleared b (at tree c.path) (at tree c.trash)) old)
  ]

  pub erase_replaced : c.old ≡ true → IfSome t (λ tree. true ≡ is_some (at tree c.trash)) → Leads (Goes IsClearedAt c) t (without t c.path)
  erase_replaced old found = elim t as (λ o. IfSome o (λ tree. true ≡ is_some (at tree c.trash)) → Leads (Goes IsClearedAt c) o (without o c.path)) [
    | None ↦ λ r. tt
    | Some tree ↦ λ r. cleared_goes tree c own (ap (λ b. cleared b (at tree c.path) (at tree c.trash)) old ∙ none_cleared (at tree c.path) (at tree c.trash) (sym r))
  ] found

  pub erase_old : c.old ≡ true → Leads (Goes IsErased c) t (without t c.trash)
  erase_old old = elim t as (λ o. Leads (Goes IsErased c) o (without o c.trash)) [
    | None ↦ tt
    | Some tree ↦ erased_goes tree c own old
  ]

-- ---- after a look

pub found_true : (t : Option Tree) (c : Change) (found : Bool) → found ≡ true → IfSome t (λ tree. found ≡ is_some (at tree c.trash)) → IfSome t (λ tree. true ≡ is_some (at tree c.trash))
found_true t c found is h = subst (λ b. IfSome t (λ tree. b ≡ is_some (at tree c.trash))) is h

-- the call is made on the tree as it was before the look
pub same_or_goes : (E : Tree → Tree → Change → Type 0) (c : Change) (f : Option Tree → Option Tree) (t u v : Option Tree) → u ≡ t → BeforeOrAsked u (f u) v → Leads (Goes E c) t (f t)
    → (v ≡ t) ⊎ Leads (Goes E c) t v
same_or_goes E c f t u v is h leads = stays_or_goes E c t (f t) v (subst (λ x. BeforeOrAsked x (f x) v) is h) leads

pub goes_after : (E : Tree → Tree → Change → Type 0) (c : Change) (f : Option Tree → Option Tree) (t u v : Option Tree) → u ≡ t → v ≡ f u → Leads (Goes E c) t (f t) → Leads (Goes E c) t v
goes_after E c f t u v is h leads = goes_as E c t (f t) v (h ∙ ap f is) leads

pub on_ok_map : {A E P Q : Type 0} (result : Result A E) → (P → Q) → OnOk result P → OnOk result Q
on_ok_map (Ok x) f h = f h
on_ok_map (Err e) f h = tt

-- ---- a node is put

put_goes : (tree : Tree) (c : Change) (node : Node) → bytes_eq c.path c.trash ≡ false → Goes (IsPutNode node) c tree (map.insert tree c.path node)
put_goes tree c node own = record {
  own = record {
    path = get_put tree c.path c.path node ∙ ap (λ b. cond b (Some node) (at tree c.path)) (eq_self c.path);
    trash = get_put tree c.path c.trash node ∙ ap (λ b. cond b (Some node) (at tree c.trash)) (apart_sym c.path c.trash own);
  };
  others = λ p path trash. get_put tree c.path p node ∙ ap (λ b. cond b (Some node) (at tree p)) path;
}

pub put_leads : (t : Option Tree) (c : Change) (node : Node) → bytes_eq c.path c.trash ≡ false → Leads (Goes (IsPutNode node) c) t (with_node t c.path node)
put_leads None c node own = tt
put_leads (Some tree) c node own = put_goes tree c node own

-- it is the new node of the change
pub node_is_new : (state : SupplyState) (c : Change) (node : Node) → IsGiven state c.path node → HasGood state.goods c.path c.new → is_none c.new ≡ false
    → IsNew state.kept c.path c.new (Some node)
node_is_new state c node given =
    elim c.new as (λ o. HasGood state.goods c.path o → is_none o ≡ false → IsNew state.kept c.path o (Some node)) [
      | None ↦ λ has some. absurd (true≢false some)
      | Some good ↦ λ has some. (given.good good has.1 has.0, given.kept)
    ]

goes_new : (kept : Tree) (c : Change) (node : Node) (before now : Tree) → IsNew kept c.path c.new (Some node) → Goes (IsPutNode node) c before now → Goes (IsPut kept) c before now
goes_new kept c node before now new goes = record {
  own = record { path = subst (λ o. IsNew kept c.path c.new o) (sym goes.own.path) new; trash = goes.own.trash };
  others = goes.others;
}

pub leads_new : (kept : Tree) (c : Change) (node : Node) (t u : Option Tree) → IsNew kept c.path c.new (Some node) → Leads (Goes (IsPutNode node) c) t u → Leads (Goes (IsPut kept) c) t u
leads_new kept c node t u new leads = leads_map (λ before now g. goes_new kept c node before now new g) t u leads

pub went_new : (kept : Tree) (c : Change) (node : Node) (t u : Option Tree) → IsNew kept c.path c.new (Some node)
    → (u ≡ t) ⊎ Leads (Goes (IsPutNode node) c) t u → (u ≡ t) ⊎ Leads (Goes (IsPut kept) c) t u
went_new kept c node t u new h = elim h [
  | inl same ↦ inl same
  | inr leads ↦ inr (leads_new kept c node t u new leads)
]

-- a change without a new node has what it may have
no_new : (kept : Tree) (path : List ℕ) (new : Option Good) (found : Option Node) → is_none new ≡ true → found ≡ None → IsNew kept path new found
no_new kept path None found none free = free
no_new kept path (Some good) found none free = absurd (true≢false (sym none))

pub nothing_put : (kept : Tree) (t : Option Tree) (c : Change) → is_none c.new ≡ true → IfSome t (λ tree. at tree c.path ≡ None) → Leads (Goes (IsPut kept) c) t t
nothing_put kept None c none free = tt
nothing_put kept (Some tree) c none free = record {
  own = record { path = no_new kept c.path c.new (at tree c.path) none free; trash = refl };
  others = λ p path trash. refl;
}

-- a supply is asked for the path of one of its goods
pub asked_good : (goods : List Good) (path : List ℕ) (new : Option Good) → HasGood goods path new → is_none new ≡ false → (good : Good) × Contains goods good × (good.path ≡ path)
asked_good goods path None has some = absurd (true≢false some)
asked_good goods path (Some good) has some = (good, has.1, has.0)

pub on_err_map : {A E P Q : Type 0} (result : Result A E) → (P → Q) → OnErr result P → OnErr result Q
on_err_map (Ok x) f h = tt
on_err_map (Err e) f h = f h
