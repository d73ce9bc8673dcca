-- What the loops over packages by dist have made so far.
use Rattle.std.specs.Prelude.{◌≡◌, ◌↔◌, ℕ, ◌+◌, ◌<◌, ◌≤◌, Bool, true, false, cond, List, [], ◌∷◌, ◌++◌, length, take, None, Some, option_copied}
use Rattle.std.proofs.Common.{Bor, refl, ap, sym, ◌∙◌, subst, get_or}
use Rattle.std.proofs.lemmas.List.{map-append, take-map, take_all, take_more}
use Rattle.std.proofs.lemmas.List.Elements.{All-contains, All-push}
use Rattle.std.proofs.lemmas.Map.Text.{btree_map_updates_str}
use Rattle.std.specs.BTreeMap.{BTreeMap, UpdatesBy, get_by}
use Rattle.std.specs.Cmp.Lexicographic.{slice_cmp}
use Rattle.std.specs.List.{All, Contains}
use Rattle.std.specs.Option.{option_or}
use Rattle.std.specs.Ordering.{nat_cmp}
use Rattle.conda_base.specs.Texts.{Ascending, is_text}
use Rattle.conda_meta.specs.Folds.{held, last_of}
use Rattle.conda_meta.specs.Reading.{dists_of}
use Rattle.conda_meta.specs.declared.linked.Linked.{Linked}
use Rattle.conda_linking.proofs.PartLemmas.{AreKept, AscendAmong, first_ascend, none_among, none_kept, one_among, one_kept, one_left, one_not_among}

pub take_one : {A : Type 0} (all : List A) (n : ℕ) (one : A) → n < length all → one ≡ get_or all n one
    → take (n + 1) all ≡ take n all ++ one ∷ []
take_one all n one q is = take_more all n one q ∙ ap (λ x. take n all ++ x ∷ []) (sym is)

dists_more : (all : List Linked) (n : ℕ) (one : Linked) → n < length all → one ≡ get_or all n one
    → dists_of (take (n + 1) all) ≡ dists_of (take n all) ++ one.rec.dist ∷ []
dists_more all n one q is = ap dists_of (take_one all n one q is) ∙ map-append (λ (p : Linked). p.rec.dist) (take n all) (one ∷ [])

more_ascend : (all : List Linked) (n : ℕ) (one : Linked) → Ascending (dists_of all) → n < length all → one ≡ get_or all n one
    → Ascending (dists_of (take n all) ++ one.rec.dist ∷ [])
more_ascend all n one a q is =
    subst Ascending (dists_more all n one q is)
    (subst Ascending (take-map (λ (p : Linked). p.rec.dist) (n + 1) all) (first_ascend (n + 1) (dists_of all) a))

-- ---- the packages that are to link

pub record AreLinked (P : Linked → Type 0) (all : List Linked) (n : ℕ) (kept : List Linked) : Type 0 where
  pub members : AreKept P (take n all) kept
  pub dists : AscendAmong (dists_of (take n all)) (dists_of kept)

pub none_linked : (P : Linked → Type 0) (all : List Linked) → AreLinked P all 0 []
none_linked P all = record { members = none_kept P; dists = none_among }

pub one_linked : (P : Linked → Type 0) (all : List Linked) (n : ℕ) (kept : List Linked) (one : Linked) → Ascending (dists_of all)
    → n < length all → one ≡ get_or all n one → AreLinked P all n kept → P one → AreLinked P all (n + 1) (kept ++ one ∷ [])
one_linked P all n kept one a q is h p = record {
  members = subst (λ xs. AreKept P xs (kept ++ one ∷ [])) (sym (take_one all n one q is)) (one_kept P (take n all) kept one h.members p);
  dists =
      subst (λ xs. AscendAmong xs (dists_of (kept ++ one ∷ []))) (sym (dists_more all n one q is))
      (subst (AscendAmong (dists_of (take n all) ++ one.rec.dist ∷ [])) (sym (map-append (λ (p : Linked). p.rec.dist) kept (one ∷ [])))
      (one_among (dists_of (take n all)) (dists_of kept) one.rec.dist (more_ascend all n one a q is) h.dists));
}

pub one_not_linked : (P : Linked → Type 0) (all : List Linked) (n : ℕ) (kept : List Linked) (one : Linked)
    → n < length all → one ≡ get_or all n one → AreLinked P all n kept → (P one → ⊥) → AreLinked P all (n + 1) kept
one_not_linked P all n kept one q is h p = record {
  members = subst (λ xs. AreKept P xs kept) (sym (take_one all n one q is)) (one_left P (take n all) kept one h.members p);
  dists =
      subst (λ xs. AscendAmong xs (dists_of kept)) (sym (dists_more all n one q is))
      (one_not_among (dists_of (take n all)) (dists_of kept) one.rec.dist h.dists);
}

pub all_linked : (P : Linked → Type 0) (all : List Linked) (n : ℕ) (kept : List Linked) → length all ≤ n → AreLinked P all n kept
    → (one : Linked) → Contains kept one ↔ (Contains all one × P one)
all_linked P all n kept q h = (subst (λ xs. AreKept P xs kept) (take_all n all q) h.members).members

-- ---- the dists that are to unlink

-- no package has the dist
abbrev pub IsGone : List Linked → List ℕ → Type 0
IsGone packages dist = Contains (dists_of packages) dist → ⊥

pub record AreUnlinked (P : List ℕ → Type 0) (all : List Linked) (n : ℕ) (kept : List (List ℕ)) : Type 0 where
  pub members : AreKept P (dists_of (take n all)) kept
  pub dists : AscendAmong (dists_of (take n all)) kept

pub none_unlinked : (P : List ℕ → Type 0) (all : List Linked) → AreUnlinked P all 0 []
none_unlinked P all = record { members = none_kept P; dists = none_among }

pub one_unlinked : (P : List ℕ → Type 0) (all : List Linked) (n : ℕ) (kept : List (List ℕ)) (one : Linked) → Ascending (dists_of all)
    → n < length all → one ≡ get_or all n one → AreUnlinked P all n kept → P one.rec.dist
    → AreUnlinked P all (n + 1) (kept ++ one.rec.dist ∷ [])
one_unlinked P all n kept one a q is h p =
    let e = dists_more all n one q is in
    record {
      members = subst (λ xs. AreKept P xs (kept ++ one.rec.dist ∷ [])) (sym e)
          (one_kept P (dists_of (take n all)) kept one.rec.dist h.members p);
      dists =
          subst (λ xs. AscendAmong xs (kept ++ one.rec.dist ∷ [])) (sym e)
          (one_among (dists_of (take n all)) kept one.rec.dist (more_ascend all n one a q is) h.dists);
    }

pub one_not_unlinked : (P : List ℕ → Type 0) (all : List Linked) (n : ℕ) (kept : List (List ℕ)) (one : Linked)
    → n < length all → one ≡ get_or all n one → AreUnlinked P all n kept → (P one.rec.dist → ⊥) → AreUnlinked P all (n + 1) kept
one_not_unlinked P all n kept one q is h p =
    let e = dists_more all n one q is in
    record {
      members = subst (λ xs. AreKept P xs kept) (sym e) (one_left P (dists_of (take n all)) kept one.rec.dist h.members p);
      dists = subst (λ xs. AscendAmong xs kept) (sym e) (one_not_among (dists_of (take n all)) kept one.rec.dist h.dists);
    }

pub all_unlinked : (P : List ℕ → Type 0) (all : List Linked) (n : ℕ) (kept : List (List ℕ)) → length all ≤ n → AreUnlinked P all n kept
    → (dist : List ℕ) → Contains kept dist ↔ (Contains (dists_of all) dist × P dist)
all_unlinked P all n kept q h = (subst (λ xs. AreKept P (dists_of xs) kept) (take_all n all q) h.members).members

-- ---- the map by dist

last_push : (dist : List ℕ) (packages : List Linked) (one : Linked)
    → last_of dist (packages ++ one ∷ []) ≡ cond (is_text one.rec.dist dist) (Some one) (last_of dist packages)
last_push dist [] one = refl
last_push dist (x ∷ rest) one =
    ap (λ o. option_or o (cond (is_text x.rec.dist dist) (Some x) None)) (last_push dist rest one) ∙ by (is_text one.rec.dist dist)
  where
    by : (v : Bool) → option_or (cond v (Some one) (last_of dist rest)) (cond (is_text x.rec.dist dist) (Some x) None)
        ≡ cond v (Some one) (option_or (last_of dist rest) (cond (is_text x.rec.dist dist) (Some x) None))
    by true = refl
    by false = refl

-- after one more package of the list is put in at its dist, the map has the last of each dist
pub one_held : (all : List Linked) (n : ℕ) (one : Linked) (text : List ℕ) (w : Bor Linked) (old now : BTreeMap (Bor (List ℕ)) (Bor Linked))
    → n < length all → one ≡ get_or all n one → text ≡ one.rec.dist → w.now ≡ one
    → UpdatesBy (λ x y. slice_cmp nat_cmp x.now y.now) (λ k. slice_cmp nat_cmp text k.now) old now (Some w)
    → ((dist : List ℕ) → held old dist ≡ last_of dist (take n all)) → (dist : List ℕ) → held now dist ≡ last_of dist (take (n + 1) all)
one_held all n one text w old now q is t same u before dist =
    ap option_copied (btree_map_updates_str text old now (Some w) u dist)
    ∙ by (is_text text dist)
    ∙ ap (λ x. cond (is_text x dist) (Some w.now) (held old dist)) t
    ∙ ap (λ x. cond (is_text one.rec.dist dist) (Some x) (held old dist)) same
    ∙ ap (cond (is_text one.rec.dist dist) (Some one)) (before dist)
    ∙ sym (last_push dist (take n all) one)
    ∙ ap (last_of dist) (sym (take_one all n one q is))
  where
    by : (v : Bool) → option_copied (cond v (Some w) (get_by (λ k. slice_cmp nat_cmp dist k.now) old)) ≡ cond v (Some w.now) (held old dist)
    by true = refl
    by false = refl

-- ---- a search

-- what none of the whole list is, none is that it contains
pub none_is : {A : Type 0} (P : A → Type 0) (all : List A) (n : ℕ) (one : A) → length all ≤ n → All P (take n all) → Contains all one
    → P one
none_is P all n one q h m = All-contains P all one (subst (All P) (take_all n all q) h) m

-- one more of which it is not
pub one_none : {A : Type 0} (P : A → Type 0) (all : List A) (n : ℕ) (one : A) → n < length all → one ≡ get_or all n one
    → All P (take n all) → P one
    → All P (take (n + 1) all)
one_none P all n one q is h p = subst (All P) (sym (take_one all n one q is)) (All-push P (take n all) one h p)
