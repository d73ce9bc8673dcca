-- The folders that were found among the paths of a channel.
use Rattle.std.proofs.Common.{◌≡◌, ◌<◌, ◌+◌, ◌⊎◌, ◌↔◌, inl, inr, suc, ℕ, List, [], ◌∷◌, ◌++◌, All, Contains, IsSome, is_some, length, drop, refl, ap, subst, sym, ◌∙◌, arith}
use Rattle.std.specs.Ordering.{eq_by_cmp, nat_cmp}
use Rattle.std.specs.Cmp.{eq_by_cmp_equiv}
use Rattle.std.specs.Cmp.Lexicographic.{nat_list_cmp_total, nat_list_eq_equiv, pointwise, slice_cmp, texts_ties}
use Rattle.std.specs.List.{dedup}
use Rattle.std.specs.List.Sorted.{IsPermutation, IsSorted, IsStrictlySortedBy}
use Rattle.std.specs.Prelude.{nat_eq, true}
use Rattle.std.specs.Map.{keys_of}
use Rattle.std.specs.FinMap as map
use Rattle.std.proofs.lemmas.List.{append_cancel_left, append_cancel_right}
use Rattle.std.proofs.lemmas.List.Elements.{All-append, All-cons, All-contains, All-nil, Contains-append_left, Contains-append_cases, Contains-push, Contains-push_cases}
use Rattle.std.proofs.lemmas.Bool.Decides.{Decides-eqb}
use Rattle.std.proofs.lemmas.List.Kept.{Contains-dedup, Contains-from_dedup, IsStrictlySortedBy-dedup}
use Rattle.std.proofs.lemmas.List.Sorted.{Contains-permutation, IsPermutation-sym}
use Rattle.std.proofs.lemmas.Slice.Eq.{slice_eq-Decides}
use Rattle.conda_base.specs.Texts.{Ascending}
use Rattle.std.proofs.lemmas.Map.Lookups.{exact_bytes}
use Rattle.std.proofs.lemmas.Map.Views.{All-keys_from_lookup, Contains-keys_from_lookup, tells_apart}
use Rattle.conda_base.specs.Signs.{slash}
use Rattle.conda_path.specs.declared.values.Node.{Node}
use Rattle.conda_device.specs.Channels.{Files, HasFolder, ListsFolders, index_path}
use Rattle.conda_mem.specs.Entries.{Entries, get_tree, tree_of}
use Rattle.conda_mem.specs.Folders.{IsIndexOf}
use Rattle.conda_mem.proofs.FolderLemmas.{ending}

-- these names are of folders, and each other folder's index file is among the paths that are left
pub record FoundSoFar (all : Files) (subdir : List ℕ) (names rest : List (List ℕ)) : Type 0 where
  pub sound : All (HasFolder all subdir) names
  pub complete : (name : List ℕ) → HasFolder all subdir name → Contains names name ⊎ Contains rest (index_path subdir name)
  pub inside : All (λ path. IsSome (map.get all path)) rest

begins_with : (es : Entries) (subdir : List ℕ) → FoundSoFar (tree_of es) subdir [] (keys_of es)
begins_with es subdir = record {
  sound = All-nil (HasFolder (tree_of es) subdir);
  complete = λ name has. inr (Contains-keys_from_lookup {eq = eq_by_cmp (slice_cmp nat_cmp)} (tells_apart exact_bytes) (index_path subdir name) es (ap is_some (sym (get_tree es (index_path subdir name))) ∙ has.there));
  inside = All-keys_from_lookup (eq_by_cmp_equiv nat_list_cmp_total) (λ path. IsSome (map.get (tree_of es) path)) es (λ q found. ap is_some (get_tree es q) ∙ found);
}

pub begins : (all : Files) (es : Entries) (subdir : List ℕ) → tree_of es ≡ all → FoundSoFar all subdir [] (keys_of es)
begins all es subdir is = let P : Files → Type 0 = λ f. FoundSoFar f subdir [] (keys_of es) in subst P is (begins_with es subdir)

nowhere : (x : List ℕ) → Contains [] x → ⊥
nowhere x c = omega arith

only_one : (y x : List ℕ) → Contains (y ∷ []) x → y ≡ x
only_one y x c = elim (Contains-push_cases [] y x c) [ inl none ↦ absurd (nowhere x none) | inr is ↦ is ]

first_or_rest : (y : List ℕ) (rest : List (List ℕ)) (x : List ℕ) → Contains (y ∷ rest) x → (y ≡ x) ⊎ Contains rest x
first_or_rest y rest x c = elim (Contains-append_cases (y ∷ []) rest x c) [ inl first ↦ inl (only_one y x first) | inr later ↦ inr later ]

module _ (all : Files) (subdir : List ℕ) (names : List (List ℕ)) (path : List ℕ) (rest : List (List ℕ)) where
  others : All (λ p. IsSome (map.get all p)) (path ∷ rest) → All (λ p. IsSome (map.get all p)) rest
  others h k d below = h (suc k) d (omega arith)

  pub goes_on : ((name : List ℕ) → IsIndexOf subdir path name → ⊥) → FoundSoFar all subdir names (path ∷ rest) → FoundSoFar all subdir names rest
  goes_on none far = record {
    sound = far.sound;
    complete = λ name has.
        elim (far.complete name has) [
          | inl found ↦ inl found
          | inr left ↦ elim (first_or_rest path rest (index_path subdir name) left) [ inl is ↦ absurd (none name (is, (has.part, has.plain))) | inr later ↦ inr later ]
        ];
    inside = others far.inside;
  }

  same_name : (name other : List ℕ) → index_path subdir name ≡ index_path subdir other → name ≡ other
  same_name name other is =
      append_cancel_right name other ending (ap (drop 1) (append_cancel_left subdir (slash ∷ (name ++ ending)) (slash ∷ (other ++ ending)) is))

  pub one_more : (name : List ℕ) → IsIndexOf subdir path name → FoundSoFar all subdir names (path ∷ rest) → FoundSoFar all subdir (names ++ name ∷ []) rest
  one_more name is far =
      let P : List ℕ → Type 0 = HasFolder all subdir in
      let has : HasFolder all subdir name = record { part = is.1.0; plain = is.1.1; there = ap (λ p. is_some (map.get all p)) (sym is.0) ∙ far.inside 0 path (omega arith) } in
      record {
        sound = All-append P names (name ∷ []) far.sound (All-cons P name [] has (All-nil P));
        complete = λ other has_it.
            elim (far.complete other has_it) [
              | inl found ↦ inl (Contains-append_left names (name ∷ []) other found)
              | inr left ↦
                  elim (first_or_rest path rest (index_path subdir other) left) [
                    | inl at ↦ let Q : List ℕ → Type 0 = λ n. Contains (names ++ name ∷ []) n in inl (subst Q (same_name name other (sym is.0 ∙ at)) (Contains-push names name))
                    | inr later ↦ inr later
                  ]
            ];
        inside = others far.inside;
      }

pub ended : (all : Files) (subdir : List ℕ) (names : List (List ℕ)) → FoundSoFar all subdir names [] → ListsFolders all subdir names
ended all subdir names far name = (
  λ found. All-contains (HasFolder all subdir) names name far.sound found,
  λ has. elim (far.complete name has) [ inl found ↦ found | inr left ↦ absurd (nowhere (index_path subdir name) left) ],
)

-- ---- the same with what the loop has

pub begins_as : (all : Files) (subdir : List ℕ) (names : List (List ℕ)) (it es : Entries) → tree_of es ≡ all → names ≡ [] → it ≡ es → FoundSoFar all subdir names (keys_of it)
begins_as all subdir names it es is none left =
    let P : List (List ℕ) → Type 0 = λ ns. FoundSoFar all subdir ns (keys_of it) in
    let Q : Entries → Type 0 = λ e. FoundSoFar all subdir [] (keys_of e) in
    subst P (sym none) (subst Q (sym left) (begins all es subdir is))

module _ (all : Files) (subdir : List ℕ) (names : List (List ℕ)) (path shown : List ℕ) (node : Node) (rest it : Entries) where
  pub goes_on_as : shown ≡ path → it ≡ (path, node) ∷ rest → ((name : List ℕ) → IsIndexOf subdir shown name → ⊥)
      → FoundSoFar all subdir names (keys_of it) → FoundSoFar all subdir names (keys_of rest)
  goes_on_as is left none far =
      let Q : Entries → Type 0 = λ e. FoundSoFar all subdir names (keys_of e) in
      goes_on all subdir names path (keys_of rest) (λ name index. none name (is ∙ index.0, index.1)) (subst Q left far)

  pub one_more_as : (name text : List ℕ) (more : List (List ℕ)) → shown ≡ path → it ≡ (path, node) ∷ rest → IsIndexOf subdir shown name → text ≡ name → more ≡ names ++ text ∷ []
      → FoundSoFar all subdir names (keys_of it) → FoundSoFar all subdir more (keys_of rest)
  one_more_as name text more is left index same pushed far =
      let Q : Entries → Type 0 = λ e. FoundSoFar all subdir names (keys_of e) in
      let P : List (List ℕ) → Type 0 = λ ns. FoundSoFar all subdir ns (keys_of rest) in
      subst P (sym (pushed ∙ ap (λ t. names ++ t ∷ []) same)) (one_more all subdir names path (keys_of rest) name (sym is ∙ index.0, index.1) (subst Q left far))

-- ---- in order, each once

same_texts : (x y : List ℕ) → pointwise nat_eq x y ≡ true → x ≡ y
same_texts x y h = (slice_eq-Decides Decides-eqb x y (pointwise nat_eq x y) refl).0 h

ascend : (texts : List (List ℕ)) → IsStrictlySortedBy (slice_cmp nat_cmp) texts → Ascending texts
unfolding IsStrictlySortedBy
ascend [] h = tt
ascend (text ∷ []) h = (tt, tt)
ascend (text ∷ next ∷ rest) h = (h.0.0, ascend (next ∷ rest) h.1)

-- names that are sorted, each left once, ascend
pub once_sorted : (texts kept : List (List ℕ)) → kept ≡ dedup (pointwise nat_eq) texts → IsSorted (slice_cmp nat_cmp) texts → Ascending kept
once_sorted texts kept once sorted = subst Ascending (sym once) (ascend _ (IsStrictlySortedBy-dedup nat_list_cmp_total texts_ties texts sorted))

-- and are the same names
pub once_lists : (all : Files) (subdir : List ℕ) (names sorted kept : List (List ℕ)) → IsPermutation names sorted → kept ≡ dedup (pointwise nat_eq) sorted
    → ListsFolders all subdir names → ListsFolders all subdir kept
once_lists all subdir names sorted kept moved once lists name =
    let P : List (List ℕ) → Type 0 = λ ns. Contains ns name in (
      λ found. (lists name).0 (Contains-permutation sorted names name (IsPermutation-sym names sorted moved) (Contains-from_dedup (pointwise nat_eq) sorted name (subst P once found))),
      λ has. subst P (sym once) (Contains-dedup nat_list_eq_equiv same_texts sorted name (Contains-permutation names sorted name moved ((lists name).1 has))),
    )
