-- Lists that ascend and have the same elements are the same, so one revision leads to a target.
use Rattle.std.specs.Prelude.{◌≡◌, ◌↔◌, ℕ, ◌<◌, suc, zero, List, [], ◌∷◌, map, length}
use Rattle.std.proofs.Common.{refl, ap, sym, ◌∙◌, subst, get_or, arith}
use Rattle.std.proofs.lemmas.List.{map-id}
use Rattle.std.specs.Cmp.Lexicographic.{nat_list_cmp_total, slice_cmp}
use Rattle.std.specs.List.{Contains}
use Rattle.std.specs.Ordering.{nat_cmp, ordering_reverse}
use Rattle.std.specs.declared.cmp.Ordering.TheVariants.{Greater, Less}
use Rattle.conda_base.specs.Texts.{Ascending}
use Rattle.conda_meta.specs.declared.linked.Linked.{Linked}
use Rattle.conda_meta.specs.declared.revision.Revision.{Revision}
use Rattle.conda_linking.specs.Laws.{HasOneRevision}

not_before_itself : (text : List ℕ) → slice_cmp nat_cmp text text ≡ Less → ⊥
not_before_itself text h = by (sym h ∙ nat_list_cmp_total.antisymm text text ∙ ap ordering_reverse h)
  where
    by : Less ≡ Greater → ⊥
    by e = cc

-- ---- lists that ascend by a text of each element

module _ {A : Type 0} (text_of : A → List ℕ) where
  abbrev Before : A → A → Type 0
  Before x y = slice_cmp nat_cmp (text_of x) (text_of y) ≡ Less

  -- each element behind the first is greater
  behind : (x : A) (rest : List A) (one : A) (k : ℕ) → Ascending (map text_of (x ∷ rest)) → k < length rest → get_or rest k one ≡ one
      → Before x one
  behind x [] one k a q is = absurd (omega (arith, q))
  behind x (y ∷ rest) one zero a q is = subst (Before x) is a.0
  behind x (y ∷ rest) one (suc k) a q is =
      nat_list_cmp_total.trans (text_of x) (text_of y) (text_of one) a.0 (behind y rest one k a.1 (omega (arith, q)) is)

  first : (x y : A) (xs ys : List A) (j k : ℕ) → Ascending (map text_of (x ∷ xs)) → Ascending (map text_of (y ∷ ys))
      → j < length (y ∷ ys) → get_or (y ∷ ys) j x ≡ x → k < length (x ∷ xs) → get_or (x ∷ xs) k y ≡ y
      → x ≡ y
  first x y xs ys zero k a b q is r at = sym is
  first x y xs ys (suc j) zero a b q is r at = at
  first x y xs ys (suc j) (suc k) a b q is r at =
      absurd (not_before_itself (text_of x) (nat_list_cmp_total.trans (text_of x) (text_of y) (text_of x)
      (behind x xs y k a (omega (arith, r)) at) (behind y ys x j b (omega (arith, q)) is)))

  -- what stands behind the first of one list stands behind the same first of the other
  later : (x y : A) (xs ys : List A) (one : A) → x ≡ y → Ascending (map text_of (x ∷ xs)) → Contains xs one → (k : ℕ)
      → k < length (y ∷ ys) → get_or (y ∷ ys) k one ≡ one
      → Contains ys one
  later x y xs ys one e a m zero q is =
      absurd (not_before_itself (text_of one) (subst (λ z. Before z one) (e ∙ is) (behind x xs one m.0 a m.1 m.2)))
  later x y xs ys one e a m (suc k) q is = (k, omega (arith, q), is)

  pub same_elements : (xs ys : List A) → Ascending (map text_of xs) → Ascending (map text_of ys)
      → ((one : A) → Contains xs one ↔ Contains ys one)
      → xs ≡ ys
  same_elements [] [] a b s = refl
  same_elements [] (y ∷ ys) a b s = let m = (s y).1 (0, omega arith, refl) in absurd (omega (arith, m.1))
  same_elements (x ∷ xs) [] a b s = let m = (s x).0 (0, omega arith, refl) in absurd (omega (arith, m.1))
  same_elements (x ∷ xs) (y ∷ ys) a b s =
      let there = (s x).0 (0, omega arith, refl) in
      let here = (s y).1 (0, omega arith, refl) in
      let e = first x y xs ys there.0 here.0 a b there.1 there.2 here.1 here.2 in
      let rest = same_elements xs ys a.1 b.1 (λ one. (
        λ m. let n = (s one).0 (suc m.0, omega (arith, m.1), m.2) in later x y xs ys one e a m n.0 n.1 n.2,
        λ m. let n = (s one).1 (suc m.0, omega (arith, m.1), m.2) in later y x ys xs one (sym e) b m n.0 n.1 n.2,
      )) in
      ap (λ z. z ∷ xs) e ∙ ap (λ zs. y ∷ zs) rest

same_texts : (xs ys : List (List ℕ)) → Ascending xs → Ascending ys → ((text : List ℕ) → Contains xs text ↔ Contains ys text) → xs ≡ ys
same_texts xs ys a b s = same_elements (λ text. text) xs ys (subst Ascending (sym (map-id xs)) a) (subst Ascending (sym (map-id ys)) b) s

-- ---- one revision

pub one_revision : HasOneRevision
one_revision kept now target a b to_a to_b =
    let linked : a.linked ≡ b.linked =
    same_elements (λ (one : Linked). one.rec.dist) a.linked b.linked to_a.by_dist to_b.by_dist
    (λ one. (λ m. (to_b.linked one).1 ((to_a.linked one).0 m), λ m. (to_a.linked one).1 ((to_b.linked one).0 m))) in
    let unlinked : a.unlinked ≡ b.unlinked =
    same_texts a.unlinked b.unlinked to_a.dists to_b.dists
    (λ dist. (λ m. (to_b.unlinked dist).1 ((to_a.unlinked dist).0 m), λ m. (to_a.unlinked dist).1 ((to_b.unlinked dist).0 m))) in
    ap (λ xs. let r : Revision = record { linked = xs; unlinked = a.unlinked; requested = a.requested } in r) linked
    ∙ ap (λ xs. let r : Revision = record { linked = b.linked; unlinked = xs; requested = a.requested } in r) unlinked
    ∙ ap (λ xs. let r : Revision = record { linked = b.linked; unlinked = b.unlinked; requested = xs } in r)
    (to_a.requested ∙ sym to_b.requested)
