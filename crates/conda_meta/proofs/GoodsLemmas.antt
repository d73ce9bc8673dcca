-- Goods that ascend by path and have the same among them are one list.
use Rattle.std.specs.Prelude.{◌≡◌, ◌≢◌, ◌⊎◌, ℕ, ◌<◌, suc, zero, List, [], ◌∷◌, length, slice_index_or}
use Rattle.std.proofs.Common.{inl, inr, refl, ap, sym, ◌∙◌, subst, arith}
use Rattle.std.proofs.lemmas.Cmp.{nat_list_cmp_total}
use Rattle.std.proofs.lemmas.List.{get_or-map, length-map}
use Rattle.std.proofs.lemmas.List.Sorted.{Contains-permutation, IsPermutation-sym}
use Rattle.std.specs.Cmp.Lexicographic.{slice_cmp}
use Rattle.std.specs.List.{AllPairs, Contains}
use Rattle.std.specs.Ordering.{nat_cmp, ordering_reverse}
use Rattle.std.specs.declared.cmp.Ordering.TheVariants.{Less, Greater}
use Rattle.conda_base.specs.Texts.{Ascending}
use Rattle.conda_path.specs.declared.values.Good.{Good}
use Rattle.conda_goods.specs.Goods.{IsSortedOf, paths_of}

-- the good stands in the list
abbrev IsIn : Good → List Good → Type 0
IsIn x [] = ⊥
IsIn x (y ∷ ys) = (x ≡ y) ⊎ IsIn x ys

never : (a b : List ℕ) → slice_cmp nat_cmp a b ≡ Less → slice_cmp nat_cmp b a ≡ Less → ⊥
never a b p q =
    let clash : Less ≡ Greater = sym q ∙ nat_list_cmp_total.antisymm b a ∙ ap ordering_reverse p in cc clash

above : (x : Good) (xs : List Good) → Ascending (paths_of (x ∷ xs)) → (z : Good) → IsIn z xs → slice_cmp nat_cmp x.path z.path ≡ Less
above x [] up z is = absurd is
above x (y ∷ ys) up z (inl e) = subst (λ (g : Good). slice_cmp nat_cmp x.path g.path ≡ Less) (sym e) up.0
above x (y ∷ ys) up z (inr is) = nat_list_cmp_total.trans x.path y.path z.path up.0 (above y ys up.1 z is)

head : (x : Good) (xs : List Good) (y : Good) (ys : List Good) → Ascending (paths_of (x ∷ xs)) → Ascending (paths_of (y ∷ ys))
    → IsIn x (y ∷ ys) → IsIn y (x ∷ xs) → x ≡ y
head x xs y ys up vp (inl e) there = e
head x xs y ys up vp (inr is) (inl e) = sym e
head x xs y ys up vp (inr is) (inr there) = absurd (never x.path y.path (above x xs up y there) (above y ys vp x is))

tail : (x : Good) (xs : List Good) (y : Good) (ys : List Good) → Ascending (paths_of (x ∷ xs)) → x ≡ y → (z : Good) → IsIn z xs → IsIn z (y ∷ ys) → IsIn z ys
tail x xs y ys up e z is (inr there) = there
tail x xs y ys up e z is (inl other) =
    let less : slice_cmp nat_cmp x.path x.path ≡ Less = subst (λ (g : Good). slice_cmp nat_cmp x.path g.path ≡ Less) (other ∙ sym e) (above x xs up z is) in
    absurd (never x.path x.path less less)

behind : (x : Good) (xs : List Good) → Ascending (paths_of (x ∷ xs)) → Ascending (paths_of xs)
behind x xs up = up.1

one_list : (xs ys : List Good) → Ascending (paths_of xs) → Ascending (paths_of ys) → ((z : Good) → IsIn z xs → IsIn z ys) → ((z : Good) → IsIn z ys → IsIn z xs) → xs ≡ ys
one_list [] [] up vp to from = refl
one_list [] (y ∷ ys) up vp to from = absurd (from y (inl refl))
one_list (x ∷ xs) [] up vp to from = absurd (to x (inl refl))
one_list (x ∷ xs) (y ∷ ys) up vp to from =
    let e = head x xs y ys up vp (to x (inl refl)) (from y (inl refl)) in
    let rest = one_list xs ys up.1 vp.1 (λ z is. tail x xs y ys up e z is (to z (inr is))) (λ z is. tail y ys x xs vp (sym e) z is (from z (inr is))) in
    ap (λ g. g ∷ xs) e ∙ ap (λ gs. y ∷ gs) rest

in_at : (xs : List Good) (x : Good) (k : ℕ) → k < length xs → slice_index_or xs k x ≡ x → IsIn x xs
in_at [] x k q e = absurd (omega (arith, q))
in_at (y ∷ ys) x zero q e = inl (sym e)
in_at (y ∷ ys) x (suc k) q e = inr (in_at ys x k (omega (arith, q)) e)

in_from : (xs : List Good) (x : Good) → Contains xs x → IsIn x xs
in_from xs x has = in_at xs x has.0 has.1 has.2

contains : (xs : List Good) (x : Good) → IsIn x xs → Contains xs x
contains [] x is = absurd is
contains (y ∷ ys) x (inl e) = (0, omega arith, sym e)
contains (y ∷ ys) x (inr is) =
    let r = contains ys x is in
    (suc r.0, omega (arith, r.1), r.2)

-- goods that ascend have different paths
pub apart : (goods : List Good) → AllPairs (λ a b. slice_cmp nat_cmp a b ≡ Less) (paths_of goods) → AllPairs (λ a b. a.path ≢ b.path) goods
apart goods less i j d p q e =
    let low : slice_cmp nat_cmp (slice_index_or goods i d).path (slice_index_or goods j d).path ≡ Less =
    subst (λ a. slice_cmp nat_cmp a (slice_index_or goods j d).path ≡ Less) (get_or-map (λ (g : Good). g.path) goods i d d.path (omega (arith, p, q)))
    (subst (λ b. slice_cmp nat_cmp (slice_index_or (paths_of goods) i d.path) b ≡ Less) (get_or-map (λ (g : Good). g.path) goods j d d.path q)
    (less i j d.path p (subst (λ n. j < n) (sym (length-map goods (λ (g : Good). g.path))) q))) in
    let same : slice_cmp nat_cmp (slice_index_or goods i d).path (slice_index_or goods i d).path ≡ Less =
    subst (λ b. slice_cmp nat_cmp (slice_index_or goods i d).path b ≡ Less) (sym e) low in
    never (slice_index_or goods i d).path (slice_index_or goods i d).path same same

pub same_goods : (goods made : List Good) → Ascending (paths_of goods) → IsSortedOf goods made → made ≡ goods
same_goods goods made up sorted =
    one_list made goods sorted.ascending up
    (λ z is. in_from goods z (Contains-permutation made goods z (IsPermutation-sym goods made sorted.same) (contains made z is)))
    (λ z is. in_from made z (Contains-permutation goods made z sorted.same (contains goods z is)))
