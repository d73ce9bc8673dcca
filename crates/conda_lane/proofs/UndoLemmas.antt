-- What undoing makes of a tree, at each path.
use Rattle.std.proofs.Common.{◌≡◌, inl, inr, ℕ, List, [], ◌∷◌, Bool, true, false, true≢false, cond, is_some, Option, Some, None, refl, ap, sym, ◌∙◌}
use Rattle.std.specs.List.{AllByRecursion}
use Rattle.std.specs.Str.{bytes_eq}
use Rattle.std.specs.FinMap as map
use Rattle.conda_path.specs.declared.values.Node.{Node}
use Rattle.conda_device.specs.Tree.{Tree}
use Rattle.conda_device.specs.Trees.{get_erased, get_put, same_trees}
use Rattle.conda_lane.specs.declared.change.Change.{Change}
use Rattle.conda_lane.specs.Changes.{AreApart, Between, IsBetween, IsReady, IsStart, at, is_named}
use Rattle.conda_lane.specs.Steps.{Goes}
use Rattle.conda_lane.specs.Undo.{IsCleared, IsMovedBack, IsUndone, IsUndoneAt, back, cleared, moved_back, undone, undone_one, undone_path, undone_trash}
use Rattle.conda_lane.proofs.Lists.{all_zip, apart_rest, apart_sym, eq_self, first_unnamed, others_apart, own_apart, same_named, unnamed}

-- ---- trees that are the same

-- trees that have the same at the paths of each change and at all others are one
pub one_tree : (one other before : Tree) (cs : List Change)
    → AllByRecursion (λ c. (at one c.path ≡ at other c.path) × (at one c.trash ≡ at other c.trash)) cs
    → ((p : List ℕ) → is_named cs p ≡ false → at one p ≡ at before p) → ((p : List ℕ) → is_named cs p ≡ false → at other p ≡ at before p) → one ≡ other
one_tree one other before cs each first second = same_trees one other (λ p.
    elim (is_named cs p) as (λ b. is_named cs p ≡ b → at one p ≡ at other p) [
      | true ↦ λ named. same_named one other cs p each named
      | false ↦ λ free. first p free ∙ sym (second p free)
    ] refl)

-- ---- one change is undone

module _ (tree : Tree) (c : Change) (own : bytes_eq c.path c.trash ≡ false) where
  erase_goes : c.old ≡ false → Goes IsUndoneAt c tree (map.remove tree c.path)
  erase_goes old = record {
    own = record {
      path =
          get_erased tree c.path c.path ∙ ap (λ b. cond b None (at tree c.path)) (eq_self c.path)
          ∙ sym (ap (λ b. undone_path b (at tree c.path) (at tree c.trash)) old);
      trash =
          get_erased tree c.path c.trash ∙ ap (λ b. cond b None (at tree c.trash)) (apart_sym c.path c.trash own)
          ∙ sym (ap (λ b. undone_trash b (at tree c.trash)) old);
    };
    others = λ p path trash. get_erased tree c.path p ∙ ap (λ b. cond b None (at tree p)) path;
  }

  back_goes : c.old ≡ true → (found : Option Node) → at tree c.trash ≡ found → Goes IsUndoneAt c tree (back tree c found)
  back_goes old None is = record {
    own = record {
      path = sym (ap (λ b. undone_path b (at tree c.path) (at tree c.trash)) old ∙ ap (undone_path true (at tree c.path)) is);
      trash = is ∙ sym (ap (λ b. undone_trash b (at tree c.trash)) old);
    };
    others = λ p path trash. refl;
  }
  back_goes old (Some node) is =
      let less = map.remove tree c.trash in
      record {
        own = record {
          path =
              get_put less c.path c.path node ∙ ap (λ b. cond b (Some node) (at less c.path)) (eq_self c.path)
              ∙ sym (ap (λ b. undone_path b (at tree c.path) (at tree c.trash)) old ∙ ap (undone_path true (at tree c.path)) is);
          trash =
              get_put less c.path c.trash node ∙ ap (λ b. cond b (Some node) (at less c.trash)) (apart_sym c.path c.trash own)
              ∙ get_erased tree c.trash c.trash ∙ ap (λ b. cond b None (at tree c.trash)) (eq_self c.trash)
              ∙ sym (ap (λ b. undone_trash b (at tree c.trash)) old);
        };
        others = λ p path trash.
            get_put less c.path p node ∙ ap (λ b. cond b (Some node) (at less p)) path
            ∙ get_erased tree c.trash p ∙ ap (λ b. cond b None (at tree p)) trash;
      }

  pub one_goes : Goes IsUndoneAt c tree (undone_one tree c)
  one_goes =
      elim c.old as (λ b. c.old ≡ b → Goes IsUndoneAt c tree (cond b (back tree c (at tree c.trash)) (map.remove tree c.path))) [
        | true ↦ λ old. back_goes old (at tree c.trash) refl
        | false ↦ λ old. erase_goes old
      ] refl

-- ---- all changes are undone

-- the first change is undone where the rest were
undone_more : (tree rest now : Tree) (c : Change) (cs : List Change) → AreApart (c ∷ cs) → IsUndone rest tree cs → Goes IsUndoneAt c rest now → IsUndone now tree (c ∷ cs)
undone_more tree rest now c cs apart before goes =
    let free = first_unnamed c cs apart in
    let path : at rest c.path ≡ at tree c.path = before.others c.path free.0 in
    let trash : at rest c.trash ≡ at tree c.trash = before.others c.trash free.1 in
    record {
      each = (
        record {
          path = goes.own.path ∙ ap (λ o. undone_path c.old o (at rest c.trash)) path ∙ ap (undone_path c.old (at tree c.path)) trash;
          trash = goes.own.trash ∙ ap (undone_trash c.old) trash;
        },
        all_zip (λ d away is. record {
          path = goes.others d.path away.path_path away.path_trash ∙ is.path;
          trash = goes.others d.trash away.trash_path away.trash_trash ∙ is.trash;
        }) cs (others_apart c cs apart) before.each,
      );
      others = λ p none. let parts = unnamed c cs p none in goes.others p parts.0 parts.1 ∙ before.others p parts.2;
    }

pub undone_exact : (tree : Tree) (cs : List Change) → AreApart cs → IsUndone (undone tree cs) tree cs
undone_exact tree [] apart = record { each = tt; others = λ p none. refl }
undone_exact tree (c ∷ cs) apart =
    undone_more tree (undone tree cs) (undone_one (undone tree cs) c) c cs apart (undone_exact tree cs (apart_rest c cs apart)) (one_goes (undone tree cs) c (own_apart c cs apart))

-- there is one such tree
pub undone_once : (tree one other : Tree) (cs : List Change) → IsUndone one tree cs → IsUndone other tree cs → one ≡ other
undone_once tree one other cs first second =
    one_tree one other tree cs (all_zip (λ c a b. (a.path ∙ sym b.path, a.trash ∙ sym b.trash)) cs first.each second.each) first.others second.others

pub undone_only : (tree now : Tree) (cs : List Change) → AreApart cs → IsUndone now tree cs → now ≡ undone tree cs
undone_only tree now cs apart is = undone_once tree now (undone tree cs) cs is (undone_exact tree cs apart)

-- ---- the halves

halves_path : (old : Bool) (path trash : Option Node) → moved_back old (cleared old path trash) trash ≡ undone_path old path trash
halves_path false path trash = refl
halves_path true path None = refl
halves_path true path (Some node) = refl

pub undone_halves : (tree mid now : Tree) (cs : List Change) → AreApart cs → IsCleared mid tree cs → IsMovedBack now mid cs → now ≡ undone tree cs
undone_halves tree mid now cs apart first second = undone_only tree now cs apart (record {
  each = all_zip (λ c a b. record {
    path =
        b.path ∙ ap (λ o. moved_back c.old o (at mid c.trash)) a.path ∙ ap (moved_back c.old (cleared c.old (at tree c.path) (at tree c.trash))) a.trash
        ∙ halves_path c.old (at tree c.path) (at tree c.trash);
    trash = b.trash ∙ ap (undone_trash c.old) a.trash;
  }) cs first.each second.each;
  others = λ p none. second.others p none ∙ first.others p none;
})

-- ---- from every state between

pub none_there : (found : Option Node) → is_some found ≡ false → found ≡ None
none_there None h = refl
none_there (Some node) h = absurd (true≢false h)

some_back : (path found : Option Node) → is_some found ≡ true → undone_path true path found ≡ found
some_back path None h = absurd (true≢false (sym h))
some_back path (Some node) h = refl

module _ (kept start tree : Tree) (c : Change) (ready : IsReady start c) where
  -- what undoing leaves is what was there at the start, where the trash has the old node
  trashed : at tree c.trash ≡ at start c.path → (at start c.path ≡ undone_path c.old (at tree c.path) (at tree c.trash)) × (at start c.trash ≡ undone_trash c.old (at tree c.trash))
  trashed is =
      elim c.old as (λ b. c.old ≡ b → (at start c.path ≡ undone_path b (at tree c.path) (at tree c.trash)) × (at start c.trash ≡ undone_trash b (at tree c.trash))) [
        | true ↦ λ old. (sym (some_back (at tree c.path) (at start c.path) (ready.old ∙ old)) ∙ ap (undone_path true (at tree c.path)) (sym is), ready.trash)
        | false ↦ λ old. let none = none_there (at start c.path) (ready.old ∙ old) in (none, ready.trash ∙ sym (is ∙ none))
      ] refl

  untouched : at tree c.path ≡ at start c.path → at tree c.trash ≡ None → (at start c.path ≡ undone_path c.old (at tree c.path) (at tree c.trash)) × (at start c.trash ≡ undone_trash c.old (at tree c.trash))
  untouched path trash =
      elim c.old as (λ b. c.old ≡ b → (at start c.path ≡ undone_path b (at tree c.path) (at tree c.trash)) × (at start c.trash ≡ undone_trash b (at tree c.trash))) [
        | true ↦ λ old. (sym path ∙ ap (undone_path true (at tree c.path)) (sym trash), ready.trash)
        | false ↦ λ old. (none_there (at start c.path) (ready.old ∙ old), ready.trash ∙ sym trash)
      ] refl

  state_undone : IsBetween kept start tree c → (at start c.path ≡ undone_path c.old (at tree c.path) (at tree c.trash)) × (at start c.trash ≡ undone_trash c.old (at tree c.trash))
  state_undone state = elim state [
    | inl s ↦ untouched s.path s.trash
    | inr r ↦ elim r [
      | inl s ↦ trashed s.trash
      | inr s ↦ trashed s.trash
    ]
  ]

pub undone_start : (kept tree start : Tree) (cs : List Change) → AreApart cs → IsStart start cs → Between kept tree start cs → undone tree cs ≡ start
undone_start kept tree start cs apart ready is = sym (undone_only tree start cs apart (record {
  each = all_zip (λ c r state. let h = state_undone kept start tree c r state in record { path = h.0; trash = h.1 }) cs ready is.each;
  others = λ p none. sym (is.others p none);
}))
