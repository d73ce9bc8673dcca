-- What stands between, and what undoing gives, after each call.
use Rattle.std.proofs.Common.{◌≡◌, inl, inr, List, Bool, true, false, is_some, Option, Some, None, option_map, refl, ap, subst, sym, ◌∙◌}
use Rattle.conda_path.specs.declared.values.Node.{Node}
use Rattle.conda_device.specs.Tree.{Tree}
use Rattle.conda_lane.specs.declared.change.Change.{Change}
use Rattle.conda_lane.specs.Calls.{Leads}
use Rattle.conda_lane.specs.Changes.{AllFinished, AllMoved, AreApart, Between, IsBetween, IsFinished, IsMoved, IsMovedOut, IsNew, IsReady, IsStart, IsUntouched, Stands, at}
use Rattle.conda_lane.specs.Purge.{IsErased, erased_trash}
use Rattle.conda_lane.specs.Steps.{IsPut, IsSame}
use Rattle.conda_lane.specs.Undo.{CanMoveBack, HasOneNode, IsCleared, IsClearedAt, IsMovedBack, IsMovedBackAt, cleared, moved_back, undone, undone_path, undone_trash}
use Rattle.conda_lane.proofs.Lists.{all_map, all_zip}
use Rattle.conda_lane.proofs.UndoLemmas.{none_there, undone_exact, undone_halves, undone_only, undone_start}
use Rattle.conda_lane.proofs.WalkLemmas.{Halted, IsLocal, Plain}

-- ---- effects are a matter of the two paths

pub moved_local : IsLocal (Plain IsMoved)
moved_local = record {
  now = λ i before mid now c same h. record { path = same.path ∙ h.path; trash = same.trash ∙ h.trash };
  before = λ i before mid now c same h. record { path = h.path; trash = h.trash ∙ same.path };
}

pub cleared_local : IsLocal (Plain IsClearedAt)
cleared_local = record {
  now = λ i before mid now c same h. record { path = same.path ∙ h.path; trash = same.trash ∙ h.trash };
  before = λ i before mid now c same h. record {
    path = h.path ∙ ap (λ o. cleared c.old o (at mid c.trash)) same.path ∙ ap (cleared c.old (at before c.path)) same.trash;
    trash = h.trash ∙ same.trash;
  };
}

pub moved_back_local : IsLocal (Plain IsMovedBackAt)
moved_back_local = record {
  now = λ i before mid now c same h. record { path = same.path ∙ h.path; trash = same.trash ∙ h.trash };
  before = λ i before mid now c same h. record {
    path = h.path ∙ ap (λ o. moved_back c.old o (at mid c.trash)) same.path ∙ ap (moved_back c.old (at before c.path)) same.trash;
    trash = h.trash ∙ ap (undone_trash c.old) same.trash;
  };
}

-- ---- moving out

pub moved_between : (kept before now : Tree) (cs : List Change) → IsStart before cs → Halted IsMoved cs before now → Between kept now before cs
moved_between kept before now cs ready halted = record {
  each = all_zip (λ c r h. elim h [
    | inl moved ↦ inr (inl moved)
    | inr same ↦ inl (record { path = same.path; trash = same.trash ∙ r.trash })
  ]) cs ready halted.each;
  others = halted.others;
}

-- ---- putting in

pub put_local : (kept : Tree) → IsLocal (Plain (IsPut kept))
put_local kept = record {
  now = λ i before mid now c same h. record { path = subst (λ o. IsNew kept c.path c.new o) (sym same.path) h.path; trash = same.trash ∙ h.trash };
  before = λ i before mid now c same h. record { path = h.path; trash = h.trash ∙ same.trash };
}

pub put_between : (kept start before now : Tree) (cs : List Change) → Halted (IsPut kept) cs before now → AllMoved before start cs → Between kept now start cs
put_between kept start before now cs halted moved = record {
  each = all_zip (λ c h m. elim h [
    | inl put ↦ inr (inr (record { path = put.path; trash = put.trash ∙ m.trash }))
    | inr same ↦ inr (inl (record { path = same.path ∙ m.path; trash = same.trash ∙ m.trash }))
  ]) cs halted.each moved.each;
  others = λ p none. halted.others p none ∙ moved.others p none;
}

pub put_finished : (kept start before now : Tree) (cs : List Change) → Stands (IsPut kept before now) before now cs → AllMoved before start cs → AllFinished kept now start cs
put_finished kept start before now cs put moved = record {
  each = all_zip (λ c h m. record { path = h.path; trash = h.trash ∙ m.trash }) cs put.each moved.each;
  others = λ p none. put.others p none ∙ moved.others p none;
}

pub free_at : (before now : Tree) (c : Change) → IsSame before now c → IsMovedOut before c → at now c.path ≡ None
free_at before now c same h = same.path ∙ h.path

-- ---- undoing gives the same again

cleared_path : (old : Bool) (path trash : Option Node) → undone_path old (cleared old path trash) trash ≡ undone_path old path trash
cleared_path false path trash = refl
cleared_path true path None = refl
cleared_path true path (Some node) = refl

back_path : (old : Bool) (path trash : Option Node) → undone_path old (moved_back old path trash) (undone_trash old trash) ≡ undone_path old path trash
back_path false path trash = refl
back_path true path None = refl
back_path true path (Some node) = refl

back_trash : (old : Bool) (trash : Option Node) → undone_trash old (undone_trash old trash) ≡ undone_trash old trash
back_trash false trash = refl
back_trash true trash = refl

-- undoing leaves the same at a change's two paths
pub record UndoesAlike (before now : Tree) (c : Change) : Type 0 where
  pub path : undone_path c.old (at now c.path) (at now c.trash) ≡ undone_path c.old (at before c.path) (at before c.trash)
  pub trash : undone_trash c.old (at now c.trash) ≡ undone_trash c.old (at before c.trash)

same_alike : (before now : Tree) (c : Change) → IsSame before now c → UndoesAlike before now c
same_alike before now c same = record {
  path = ap (λ o. undone_path c.old o (at now c.trash)) same.path ∙ ap (undone_path c.old (at before c.path)) same.trash;
  trash = ap (undone_trash c.old) same.trash;
}

cleared_alike : (before now : Tree) (c : Change) → IsClearedAt before now c → UndoesAlike before now c
cleared_alike before now c h = record {
  path = ap (λ o. undone_path c.old o (at now c.trash)) h.path ∙ ap (undone_path c.old (cleared c.old (at before c.path) (at before c.trash))) h.trash ∙ cleared_path c.old (at before c.path) (at before c.trash);
  trash = ap (undone_trash c.old) h.trash;
}

back_alike : (before now : Tree) (c : Change) → IsMovedBackAt before now c → UndoesAlike before now c
back_alike before now c h = record {
  path = ap (λ o. undone_path c.old o (at now c.trash)) h.path ∙ ap (undone_path c.old (moved_back c.old (at before c.path) (at before c.trash))) h.trash ∙ back_path c.old (at before c.path) (at before c.trash);
  trash = ap (undone_trash c.old) h.trash ∙ back_trash c.old (at before c.trash);
}

alike_undone : (before now : Tree) (cs : List Change) → AreApart cs → Stands (UndoesAlike before now) before now cs → undone now cs ≡ undone before cs
alike_undone before now cs apart alike =
    let is = undone_exact now cs apart in
    undone_only before (undone now cs) cs apart (record {
      each = all_zip (λ c h a. record { path = h.path ∙ a.path; trash = h.trash ∙ a.trash }) cs is.each alike.each;
      others = λ p none. is.others p none ∙ alike.others p none;
    })

halted_alike : (E : Tree → Tree → Change → Type 0) (before now : Tree) (cs : List Change) → ((c : Change) → E before now c → UndoesAlike before now c)
    → AreApart cs → Halted E cs before now → undone now cs ≡ undone before cs
halted_alike E before now cs f apart halted = alike_undone before now cs apart (record {
  each = all_map (λ c h. elim h [ inl e ↦ f c e | inr same ↦ same_alike before now c same ]) cs halted.each;
  others = halted.others;
})

pub cleared_undone : (before now : Tree) (cs : List Change) → AreApart cs → Halted IsClearedAt cs before now → undone now cs ≡ undone before cs
cleared_undone before now cs apart halted = halted_alike IsClearedAt before now cs (cleared_alike before now) apart halted

pub back_undone : (before now : Tree) (cs : List Change) → AreApart cs → Halted IsMovedBackAt cs before now → undone now cs ≡ undone before cs
back_undone before now cs apart halted = halted_alike IsMovedBackAt before now cs (back_alike before now) apart halted

-- ---- undoing stays between

cleared_gone : (old : Bool) (path trash : Option Node) → is_some trash ≡ old → cleared old path trash ≡ None
cleared_gone false path trash is = refl
cleared_gone true path None is = cc
cleared_gone true path (Some node) is = refl

cleared_left : (old : Bool) (path : Option Node) → is_some path ≡ old → cleared old path None ≡ path
cleared_left false path is = sym (none_there path is)
cleared_left true path is = refl

back_left : (old : Bool) (path : Option Node) → moved_back old path None ≡ path
back_left false path = refl
back_left true path = refl

trash_left : (old : Bool) → undone_trash old None ≡ None
trash_left false = refl
trash_left true = refl

back_found : (path found : Option Node) → is_some found ≡ true → moved_back true path found ≡ found
back_found path None is = cc
back_found path (Some node) is = refl

module _ (kept start before now : Tree) (c : Change) (ready : IsReady start c) where
  same_state : IsSame before now c → IsBetween kept start before c → IsBetween kept start now c
  same_state same h = elim h [
    | inl s ↦ inl (record { path = same.path ∙ s.path; trash = same.trash ∙ s.trash })
    | inr r ↦ elim r [
      | inl s ↦ inr (inl (record { path = same.path ∙ s.path; trash = same.trash ∙ s.trash }))
      | inr s ↦ inr (inr (record { path = subst (λ o. IsNew kept c.path c.new o) (sym same.path) s.path; trash = same.trash ∙ s.trash }))
    ]
  ]

  -- where the trash has the old node, the new one is gone
  cleared_moved : IsClearedAt before now c → at before c.trash ≡ at start c.path → IsMoved start now c
  cleared_moved h trash = record {
    path = h.path ∙ cleared_gone c.old (at before c.path) (at before c.trash) (ap is_some trash ∙ ready.old);
    trash = h.trash ∙ trash;
  }

  cleared_state : IsClearedAt before now c → IsBetween kept start before c → IsBetween kept start now c
  cleared_state h state = elim state [
    | inl s ↦ inl (record {
      path = h.path ∙ ap (cleared c.old (at before c.path)) s.trash ∙ cleared_left c.old (at before c.path) (ap is_some s.path ∙ ready.old) ∙ s.path;
      trash = h.trash ∙ s.trash;
    })
    | inr r ↦ elim r [
      | inl s ↦ inr (inl (cleared_moved h s.trash))
      | inr s ↦ inr (inl (cleared_moved h s.trash))
    ]
  ]

  -- the old node is at the path again
  back_again : IsMovedBackAt before now c → c.old ≡ true → at before c.trash ≡ at start c.path → IsUntouched start now c
  back_again h old trash = record {
    path =
        h.path ∙ ap (λ b. moved_back b (at before c.path) (at before c.trash)) old
        ∙ back_found (at before c.path) (at before c.trash) (ap is_some trash ∙ ready.old ∙ old) ∙ trash;
    trash = h.trash ∙ ap (λ b. undone_trash b (at before c.trash)) old;
  }

  back_same : IsMovedBackAt before now c → c.old ≡ false → IsSame before now c
  back_same h old = record {
    path = h.path ∙ ap (λ b. moved_back b (at before c.path) (at before c.trash)) old;
    trash = h.trash ∙ ap (λ b. undone_trash b (at before c.trash)) old;
  }

  trashed_state : IsMovedBackAt before now c → at before c.trash ≡ at start c.path → IsBetween kept start before c → IsBetween kept start now c
  trashed_state h trash state = elim c.old as (λ b. c.old ≡ b → IsBetween kept start now c) [
    | true ↦ λ old. inl (back_again h old trash)
    | false ↦ λ old. same_state (back_same h old) state
  ] refl

  back_state : IsMovedBackAt before now c → IsBetween kept start before c → IsBetween kept start now c
  back_state h state = elim state [
    | inl s ↦ inl (record {
      path = h.path ∙ ap (moved_back c.old (at before c.path)) s.trash ∙ back_left c.old (at before c.path) ∙ s.path;
      trash = h.trash ∙ ap (undone_trash c.old) s.trash ∙ trash_left c.old;
    })
    | inr r ↦ elim r [
      | inl s ↦ trashed_state h s.trash (inr (inl s))
      | inr s ↦ trashed_state h s.trash (inr (inr s))
    ]
  ]

module _ (kept start before now : Tree) (cs : List Change) (ready : IsStart start cs) where
  halted_between : (E : Tree → Tree → Change → Type 0) → ((c : Change) → IsReady start c → E before now c → IsBetween kept start before c → IsBetween kept start now c)
      → Halted E cs before now → Between kept before start cs → Between kept now start cs
  halted_between E f halted between =
      let states = all_zip {R = λ c. IsReady start c × IsBetween kept start before c} (λ c r s. (r, s)) cs ready between.each in
      record {
        each = all_zip (λ c h s. elim h [ inl e ↦ f c s.0 e s.1 | inr same ↦ same_state kept start before now c s.0 same s.1 ]) cs halted.each states;
        others = λ p none. halted.others p none ∙ between.others p none;
      }

  pub cleared_between : Halted IsClearedAt cs before now → Between kept before start cs → Between kept now start cs
  cleared_between halted between = halted_between IsClearedAt (λ c r e s. cleared_state kept start before now c r e s) halted between

  pub back_between : Halted IsMovedBackAt cs before now → Between kept before start cs → Between kept now start cs
  back_between halted between = halted_between IsMovedBackAt (λ c r e s. back_state kept start before now c r e s) halted between

-- ---- both halves

one_node : (old : Bool) (path trash : Option Node) → HasOneNode old (cleared old path trash) trash
one_node false path trash = tt
one_node true path None = tt
one_node true path (Some node) = refl

pub can_move_back : (before now : Tree) (cs : List Change) → IsCleared now before cs → CanMoveBack now cs
can_move_back before now cs is = all_map (λ c h.
    subst (λ o. HasOneNode c.old o (at now c.trash)) (sym h.path)
    (subst (λ o. HasOneNode c.old (cleared c.old (at before c.path) (at before c.trash)) o) (sym h.trash) (one_node c.old (at before c.path) (at before c.trash)))) cs is.each

-- what holds of the changes that are left, of a tree in which their paths are as they were
pub one_node_at : (before now : Tree) (c : Change) → IsSame before now c → HasOneNode c.old (at before c.path) (at before c.trash) → HasOneNode c.old (at now c.path) (at now c.trash)
one_node_at before now c same h =
    subst (λ o. HasOneNode c.old o (at now c.trash)) (sym same.path) (subst (λ o. HasOneNode c.old (at before c.path) o) (sym same.trash) h)

pub ready_at : (before now : Tree) (c : Change) → IsSame before now c → IsReady before c → IsReady now c
ready_at before now c same r = record { old = ap is_some same.path ∙ r.old; trash = same.trash ∙ r.trash }

-- ---- where the tree is told

pub halves_told : (cs : List Change) (t u v : Option Tree) → AreApart cs → Leads (λ before now. IsCleared now before cs) t u → Leads (λ before now. IsMovedBack now before cs) u v
    → v ≡ option_map (λ tree. undone tree cs) t
halves_told cs None None None apart h i = refl
halves_told cs None None (Some c) apart h i = absurd i
halves_told cs None (Some b) v apart h i = absurd h
halves_told cs (Some a) None v apart h i = absurd h
halves_told cs (Some a) (Some b) None apart h i = absurd i
halves_told cs (Some a) (Some b) (Some c) apart h i = ap Some (undone_halves a b c cs apart h i)

pub start_told : (kept start : Tree) (cs : List Change) (t v : Option Tree) → AreApart cs → IsStart start cs → v ≡ option_map (λ tree. undone tree cs) t
    → Leads (λ before now. Between kept before start cs → now ≡ start) t v
start_told kept start cs t v apart ready is =
    subst (λ x. Leads (λ before now. Between kept before start cs → now ≡ start) t x) (sym is)
    (elim t as (λ o. Leads (λ before now. Between kept before start cs → now ≡ start) o (option_map (λ tree. undone tree cs) o)) [
      | None ↦ tt
      | Some tree ↦ λ between. undone_start kept tree start cs apart ready between
    ])
