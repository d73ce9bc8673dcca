-- Lists in the order of keys: what a finite map of them has, and that sorting and leaving out what ties gives it.
use Rattle.std.specs.Prelude.{◌≡◌, ◌↔◌, ℕ, ◌<◌, zero, suc, Bool, true, false, cond, not, ◌&&◌, List, [], ◌∷◌, map, length, filter, Option, None, Some, slice_index_or}
use Rattle.std.proofs.Common.{T, Bor, refl, ap, sym, ◌∙◌, subst, inl, inr, ◌⊎◌, arith}
use Rattle.std.proofs.lemmas.Cmp.{alike_right, on_total, tied_itself}
use Rattle.std.proofs.lemmas.Fn.{always_returns_same}
use Rattle.std.proofs.lemmas.List.Elements.{filter_agree}
use Rattle.std.proofs.lemmas.List.Kept.{IsStrictlySortedBy-dedup}
use Rattle.std.proofs.lemmas.List.Sorted.{ranks_by}
use Rattle.std.proofs.lemmas.Map.Lookups.{CmpEqualImpliesEq}
use Rattle.std.specs.Cmp.{IsStrictWeakOrder, IsTotalOrder}
use Rattle.std.specs.Fn.{Called, ComparesAs, Mut}
use Rattle.std.specs.FinMap as fin
use Rattle.std.specs.FinMap.{entries, entries-insert, entries_sorted, from_entries, get-entries, get-from_entries, len-entries}
use Rattle.std.specs.FinMap.Entries.{below_all, by_order, find, find_tied, is_sorted, put, same_entries}
use Rattle.std.specs.List.{AllByRecursion, Contains, dedup, dedup_from}
use Rattle.std.specs.List.Sorted.{IsSorted, IsSortedBy, IsStable, IsStableBy, IsStrictlySortedBy, ties}
use Rattle.std.specs.Ordering.{eq_by_cmp, is_eq, is_lt, on, ordering_reverse}
use Rattle.std.specs.declared.cmp.Ordering.{Ordering}
use Rattle.std.specs.declared.cmp.Ordering.TheVariants.{Less, Equal, Greater}
use Rattle.conda_repodata.specs.Ascending.{ascending, keyed}

-- ---- tests

both : (a b : Bool) → T a → T b → T (a && b)
both true b p q = q
both false b p q = absurd p

first_of_both : (a b : Bool) → T (a && b) → T a
first_of_both true b p = tt
first_of_both false b p = p

second_of_both : (a b : Bool) → T (a && b) → T b
second_of_both true b p = p
second_of_both false b p = absurd p

is_less : (o : Ordering) → T (is_lt o) → o ≡ Less
is_less Less p = refl
is_less Equal p = absurd p
is_less Greater p = absurd p

less_is : (o : Ordering) → o ≡ Less → T (is_lt o)
less_is Less p = tt
less_is Equal p = cc p
less_is Greater p = cc p

pub is_equal : (o : Ordering) → is_eq o ≡ true → o ≡ Equal
is_equal Less p = cc p
is_equal Equal p = refl
is_equal Greater p = cc p

pub equal_is : (o : Ordering) → o ≡ Equal → is_eq o ≡ true
equal_is o p = ap is_eq p

tests_tie : (a b : Ordering) → a ≡ ordering_reverse b → (not (is_lt a) && not (is_lt b)) ≡ is_eq a
tests_tie a Less e = ap (λ o. not (is_lt o) && not (is_lt Less)) e ∙ sym (ap is_eq e)
tests_tie a Equal e = ap (λ o. not (is_lt o) && not (is_lt Equal)) e ∙ sym (ap is_eq e)
tests_tie a Greater e = ap (λ o. not (is_lt o) && not (is_lt Greater)) e ∙ sym (ap is_eq e)

repeated : {A : Type 0} (b : Bool) (x y z : A) → cond b x z ≡ cond b x (cond b y z)
repeated true x y z = refl
repeated false x y z = refl

-- the element is one of the list
abbrev pub IsIn : {X : Type 0} → X → List X → Type 0
IsIn x [] = ⊥
IsIn x (y ∷ ys) = (x ≡ y) ⊎ IsIn x ys

module _ {K X : Type 0} {R : K → K → Ordering} (o : IsTotalOrder R) (key : X → K) where
  -- the first element whose key ties with this one
  abbrev pub at : K → List X → Option X
  at q xs = find R q (keyed key xs)

  abbrev pub Ascends : List X → Type 0
  Ascends xs = IsStrictlySortedBy R (map key xs)

  -- ---- in order, as a test

  below_is : (k : K) (xs : List X) → AllByRecursion (λ q. R k q ≡ Less) (map key xs) → T (below_all R k (keyed key xs))
  below_is k [] h = tt
  below_is k (x ∷ xs) h = both (is_lt (R k (key x))) (below_all R k (keyed key xs)) (less_is (R k (key x)) h.0) (below_is k xs h.1)

  sorted_is : (xs : List X) → Ascends xs → T (is_sorted R (keyed key xs))
  unfolding IsStrictlySortedBy
  sorted_is [] h = tt
  sorted_is (x ∷ xs) h = both (below_all R (key x) (keyed key xs)) (is_sorted R (keyed key xs)) (below_is (key x) xs h.0) (sorted_is xs h.1)

  is_below : (k : K) (xs : List X) → T (below_all R k (keyed key xs)) → AllByRecursion (λ q. R k q ≡ Less) (map key xs)
  is_below k [] h = tt
  is_below k (x ∷ xs) h = (
    is_less (R k (key x)) (first_of_both (is_lt (R k (key x))) (below_all R k (keyed key xs)) h),
    is_below k xs
        (second_of_both (is_lt (R k (key x))) (below_all R k (keyed key xs)) h),
  )

  is_ascending : (xs : List X) → T (is_sorted R (keyed key xs)) → Ascends xs
  unfolding IsStrictlySortedBy
  is_ascending [] h = tt
  is_ascending (x ∷ xs) h = (
    is_below (key x) xs (first_of_both (below_all R (key x) (keyed key xs)) (is_sorted R (keyed key xs)) h),
    is_ascending xs
        (second_of_both (below_all R (key x) (keyed key xs)) (is_sorted R (keyed key xs)) h),
  )

  same_values : (xs : List X) → map (λ (e : K × X). e.1) (keyed key xs) ≡ xs
  same_values [] = refl
  same_values (x ∷ xs) = ap (λ r. x ∷ r) (same_values xs)

  -- two lists in order with the same element at each key are one
  pub same_list : CmpEqualImpliesEq R → (xs ys : List X) → Ascends xs → Ascends ys → ((q : K) → at q xs ≡ at q ys) → xs ≡ ys
  same_list exact xs ys a b same =
      sym (same_values xs) ∙ ap (map (λ (e : K × X). e.1))
      (same_entries R o exact (keyed key xs) (keyed key ys) (sorted_is xs a) (sorted_is ys b) same) ∙ same_values ys

  -- ---- what the finite map has

  -- each entry has the key of its value
  abbrev AreKeyed : List (K × X) → Type 0
  AreKeyed es = AllByRecursion (λ e. e.0 ≡ key e.1) es

  none_keyed : (es : List (K × X)) → length es ≡ 0 → AreKeyed es
  none_keyed [] e = tt
  none_keyed (x ∷ es) e = absurd (omega arith)

  keyed_put : CmpEqualImpliesEq R → (x : X) (es : List (K × X)) → AreKeyed es → AreKeyed (put R (key x) x es)
  keyed_put exact x [] h = (refl, tt)
  keyed_put exact x (e ∷ es) h = by (R (key x) e.0) refl (keyed_put exact x es h.1)
    where
      by : (r : Ordering) → R (key x) e.0 ≡ r → AreKeyed (put R (key x) x es)
          → AreKeyed (by_order r ((key x, x) ∷ e ∷ es) ((e.0, x) ∷ es) (e ∷ put R (key x) x es))
      by Less is more = (refl, h)
      by Equal is more = (sym (exact (key x) e.0 is), h.1)
      by Greater is more = (h.0, more)

  keyed_entries : CmpEqualImpliesEq R → (xs : List X) → AreKeyed (entries (from_entries {R = R} (keyed key xs)))
  keyed_entries exact [] =
      none_keyed (entries (fin.empty {X = X} {R = R})) (sym (len-entries (fin.empty {X = X} {R = R})) ∙ fin.len-empty R X)
  keyed_entries exact (x ∷ xs) =
      subst AreKeyed (sym (entries-insert o (from_entries {R = R} (keyed key xs)) (key x) x))
      (keyed_put exact x (entries (from_entries {R = R} (keyed key xs))) (keyed_entries exact xs))

  same_keyed : (es : List (K × X)) → AreKeyed es → keyed key (map (λ e. e.1) es) ≡ es
  same_keyed [] h = refl
  same_keyed (e ∷ es) h =
      let is : (key e.1, e.1) ≡ e = ap (λ k. (k, e.1)) (sym h.0) in
      ap (λ f. f ∷ keyed key (map (λ e. e.1) es)) is ∙ ap (λ r. e ∷ r) (same_keyed es h.1)

  module _ (exact : CmpEqualImpliesEq R) (xs : List X) where
    as_entries : keyed key (ascending R key xs) ≡ entries (from_entries {R = R} (keyed key xs))
    as_entries = same_keyed (entries (from_entries {R = R} (keyed key xs))) (keyed_entries exact xs)

    pub ascends : Ascends (ascending R key xs)
    ascends =
        is_ascending (ascending R key xs) (subst (λ es. T (is_sorted R es)) (sym as_entries)
        (entries_sorted (from_entries {R = R} (keyed key xs))))

    -- at each key it has the first element
    pub first_kept : (q : K) → at q (ascending R key xs) ≡ at q xs
    first_kept q =
        ap (find R q) as_entries ∙ sym (get-entries (from_entries {R = R} (keyed key xs)) q) ∙ get-from_entries o (keyed key xs) q

  -- ---- elements

  at_in : (q : K) (xs : List X) (x : X) → at q xs ≡ Some x → IsIn x xs × (R q (key x) ≡ Equal)
  at_in q [] x e = cc e
  at_in q (y ∷ ys) x e = by (eq_by_cmp R q (key y)) refl e (at_in q ys x)
    where
      by : (b : Bool) → eq_by_cmp R q (key y) ≡ b → cond b (Some y) (at q ys) ≡ Some x
          → (at q ys ≡ Some x → IsIn x ys × (R q (key x) ≡ Equal)) → ((x ≡ y) ⊎ IsIn x ys) × (R q (key x) ≡ Equal)
      by true t e more = let same : y ≡ x = cc e in (inl (sym same), subst (λ z. R q (key z) ≡ Equal) same (is_equal (R q (key y)) t))
      by false t e more = let r = more e in (inr r.0, r.1)

  -- what stands behind is above
  behind : (k : K) (x : X) (xs : List X) → AllByRecursion (λ q. R k q ≡ Less) (map key xs) → IsIn x xs → R k (key x) ≡ Less
  behind k x [] h i = absurd i
  behind k x (y ∷ ys) h (inl e) = subst (λ z. R k (key z) ≡ Less) (sym e) h.0
  behind k x (y ∷ ys) h (inr i) = behind k x ys h.1 i

  in_at : (xs : List X) (x : X) → Ascends xs → IsIn x xs → at (key x) xs ≡ Some x
  unfolding IsStrictlySortedBy
  in_at [] x a i = absurd i
  in_at (y ∷ ys) x a (inl e) =
      ap (λ b. cond b (Some y) (at (key x) ys)) (equal_is (R (key x) (key y))
      (subst (λ z. R (key x) (key z) ≡ Equal) e (tied_itself o (key x)))) ∙ ap Some (sym e)
  in_at (y ∷ ys) x a (inr i) =
      let above : R (key x) (key y) ≡ Greater = o.antisymm (key x) (key y) ∙ ap ordering_reverse (behind (key y) x ys a.0 i) in
      ap (λ r. cond (is_eq r) (Some y) (at (key x) ys)) above ∙ in_at ys x a.1 i

  -- ---- sorting, and leaving out what ties with the one before

  deduped : (E : X → X → Bool) → ((x y : X) → E x y ≡ eq_by_cmp R (key x) (key y)) → (q : K) (x : X) (xs : List X)
      → at q (dedup_from E x xs) ≡ at q (x ∷ xs)
  deduped E tied q x [] = refl
  deduped E tied q x (y ∷ ys) = by (E y x) refl (deduped E tied q x ys) (deduped E tied q y ys)
    where
      by : (b : Bool) → E y x ≡ b → at q (dedup_from E x ys) ≡ at q (x ∷ ys) → at q (dedup_from E y ys) ≡ at q (y ∷ ys)
          → at q (cond b (dedup_from E x ys) (x ∷ dedup_from E y ys)) ≡ at q (x ∷ y ∷ ys)
      by true t same other =
          let alike : R q (key y) ≡ R q (key x) = alike_right o (key y) (key x) q (is_equal (R (key y) (key x)) (sym (tied y x) ∙ t)) in
          same ∙ repeated (eq_by_cmp R q (key x)) (Some x) (Some y) (at q ys)
          ∙ ap (λ r. cond (eq_by_cmp R q (key x)) (Some x) (cond (is_eq r) (Some y) (at q ys))) (sym alike)
      by false t other same = ap (cond (eq_by_cmp R q (key x)) (Some x)) same

  at_deduped : (E : X → X → Bool) → ((x y : X) → E x y ≡ eq_by_cmp R (key x) (key y)) → (q : K) (xs : List X) → at q (dedup E xs) ≡ at q xs
  at_deduped E tied q [] = refl
  at_deduped E tied q (x ∷ xs) = deduped E tied q x xs

  head : List X → Option X
  head [] = None
  head (x ∷ xs) = Some x

  at_head : (x : X) (xs : List X) → at (key x) xs ≡ head (filter (ties (λ a b. is_lt (R (key a) (key b))) x) xs)
  unfolding head
  at_head x xs =
      first xs ∙ ap head (filter_agree (λ y. eq_by_cmp R (key x) (key y)) (ties (λ a b. is_lt (R (key a) (key b))) x)
      (λ y. sym (tests_tie (R (key x) (key y)) (R (key y) (key x)) (o.antisymm (key x) (key y)))) xs)
    where
      first : (xs : List X) → at (key x) xs ≡ head (filter (λ y. eq_by_cmp R (key x) (key y)) xs)
      first [] = refl
      first (y ∷ ys) = by (eq_by_cmp R (key x) (key y)) (first ys)
        where
          by : (b : Bool) → at (key x) ys ≡ head (filter (λ y. eq_by_cmp R (key x) (key y)) ys)
              → cond b (Some y) (at (key x) ys) ≡ head (cond b (y ∷ filter (λ y. eq_by_cmp R (key x) (key y)) ys)
              (filter (λ y. eq_by_cmp R (key x) (key y)) ys))
          by true e = refl
          by false e = e

  mapped_below : (z : X) (zs : List X) → AllByRecursion (λ y. on key R z y ≡ Less) zs
      → AllByRecursion (λ q. R (key z) q ≡ Less) (map key zs)
  mapped_below z [] h = tt
  mapped_below z (y ∷ ys) h = (h.0, mapped_below z ys h.1)

  mapped : (zs : List X) → IsStrictlySortedBy (on key R) zs → Ascends zs
  unfolding IsStrictlySortedBy
  mapped [] h = tt
  mapped (z ∷ zs) h = (mapped_below z zs h.0, mapped zs h.1)

  module _ (xs ys : List X) where
    found_too : ((x : X) → at (key x) xs ≡ Some x → at (key x) ys ≡ Some x) → (q : K) (x : X) → at q xs ≡ Some x → at q ys ≡ Some x
    found_too h q x e =
        let tie : R q (key x) ≡ Equal = (at_in q xs x e).1 in
        sym (find_tied R o q (key x) tie (keyed key ys)) ∙ h x (find_tied R o q (key x) tie (keyed key xs) ∙ e)

    -- lists that have the same elements at the elements' own keys have them at every key
    pub same_at : ((x : X) → (at (key x) xs ≡ Some x) ↔ (at (key x) ys ≡ Some x)) → (q : K) → at q xs ≡ at q ys
    same_at same q = by (at q xs) refl (at q ys) refl
      where
        back : (x : X) → at (key x) ys ≡ Some x → at (key x) xs ≡ Some x
        back x e = (same x).1 e

        by : (a : Option X) → at q xs ≡ a → (b : Option X) → at q ys ≡ b → at q xs ≡ at q ys
        by (Some x) e b f = e ∙ sym (found_too (λ y g. (same y).0 g) q x e)
        by None e None f = e ∙ sym f
        by None e (Some y) f =
            let g : at q xs ≡ Some y =
            sym (find_tied R o q (key y) (at_in q ys y f).1 (keyed key xs))
            ∙ back y (find_tied R o q (key y) (at_in q ys y f).1 (keyed key ys) ∙ f) in cc g

    -- a stable sort, and of neighbours that tie the first alone
    pub sorted_once : CmpEqualImpliesEq R → (E : X → X → Bool) → ((x y : X) → E x y ≡ eq_by_cmp R (key x) (key y)) → IsSorted (on key R) ys
        → IsStable (on key R) xs ys → dedup E ys ≡ ascending R key xs
    sorted_once exact E tied up stable =
        let same : (q : K) → at q ys ≡ at q xs =
        λ q. sym (same_at (λ x. let e = at_head x ys ∙ ap head (stable x) ∙ sym (at_head x xs) in (λ h. e ∙ h, λ h. sym e ∙ h)) q)
        in
        same_list exact (dedup E ys) (ascending R key xs) (mapped (dedup E ys) (IsStrictlySortedBy-dedup (on_total key o) tied ys up))
        (ascends exact xs)
        (λ q. at_deduped E tied q ys ∙ same q ∙ sym (first_kept exact xs q))

  -- what `sort_by` gives by a closure that compares keys
  pub sorted_by : {F : Type 0} {g : Mut F (Bor X × (Bor X × Unit {0})) Ordering} {f : F} (xs ys : List X)
      → ((lt : X → X → Bool) → IsStrictWeakOrder lt → ComparesAs g lt f → IsSortedBy lt ys)
      → ((lt : X → X → Bool) → IsStrictWeakOrder lt → ComparesAs g lt f → IsStableBy lt xs ys)
      → ((a : Bor X × (Bor X × Unit {0})) (r : Ordering) (f' : F) → Called g f a r f' → (r ≡ R (key a.0.now) (key a.1.0.now)) × (f' ≡ f))
      → IsSorted (on key R) ys × IsStable (on key R) xs ys
  sorted_by {g = g} {f = f} xs ys up stable h =
      let lt : X → X → Bool = λ x y. is_lt (R (key x) (key y)) in
      let order : IsStrictWeakOrder lt = ranks_by o key in
      let compares : ComparesAs g lt f =
      always_returns_same g (λ a r. is_lt r ≡ lt a.0.now a.1.0.now) f (λ a r f' k. (ap is_lt (h a r f' k).0, (h a r f' k).1))
      in
      (up lt order compares, stable lt order compares)

  -- ---- an element of a list in order

  contained : (xs : List X) (x : X) → IsIn x xs → Contains xs x
  contained [] x i = absurd i
  contained (y ∷ ys) x (inl e) = (0, omega arith, sym e)
  contained (y ∷ ys) x (inr i) = let c = contained ys x i in (suc c.0, omega (arith, c.1), c.2)

  is_in : (xs : List X) (x : X) (k : ℕ) → k < length xs → slice_index_or xs k x ≡ x → IsIn x xs
  is_in [] x k short e = absurd (omega arith)
  is_in (y ∷ ys) x zero short e = inl (sym e)
  is_in (y ∷ ys) x (suc k) short e = inr (is_in ys x k (omega arith) e)

  -- it stands in the list exactly where the list has it at its key
  pub contains_at : (xs : List X) → Ascends xs → (x : X) → Contains xs x ↔ (at (key x) xs ≡ Some x)
  contains_at xs a x = (λ c. in_at xs x a (is_in xs x c.0 c.1 c.2), λ e. contained xs x (at_in (key x) xs x e).0)
