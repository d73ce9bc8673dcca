-- Goods sorted by their derived order ascend by path where their paths differ, and those of parts without a conflict do.
use Rattle.std.specs.Prelude.{◌≡◌, ◌≢◌, ℕ, ◌+◌, ◌<◌, suc, Bool, true, false, List, [], ◌∷◌, ◌++◌, length, Some, slice_index_or}
use Rattle.std.proofs.Common.{Bor, refl, ap, sym, ◌∙◌, subst, inl, inr, arith, append_assoc, ◌≤◌, drop, take, get_or}
use Rattle.std.proofs.lemmas.Fn.{always_returns_same}
use Rattle.std.proofs.lemmas.List.Sorted.{ranks_by}
use Rattle.std.specs.Cmp.{IsStrictWeakOrder}
use Rattle.std.specs.Fn.{Called, ComparesAs, Mut}
use Rattle.std.proofs.lemmas.Bool.{false_from_ne_true, true≢false}
use Rattle.std.proofs.lemmas.Cmp.{nat_list_cmp_total, nat_list_eq_equiv, tied_itself}
use Rattle.std.proofs.lemmas.List.Elements.{All-contains, All-more, Contains-get_or}
use Rattle.std.proofs.lemmas.List.{append-nil}
use Rattle.std.proofs.lemmas.Map.Keys.{IsDistinct-IsPermutation}
use Rattle.std.proofs.lemmas.Map.Lookups.{exact_bytes}
use Rattle.std.proofs.lemmas.Slice.Eq.{bytes_eq-Decides}
use Rattle.std.specs.Cmp.Lexicographic.{slice_cmp}
use Rattle.std.specs.List.{All, AllByRecursion, AllPairs, Contains, IsDistinct}
use Rattle.std.specs.List.Sorted.{IsPermutation, IsSortedBy}
use Rattle.std.specs.Ordering.{is_lt, nat_cmp, ordering_reverse}
use Rattle.std.specs.Str.{bytes_eq}
use Rattle.std.specs.declared.cmp.Ordering.{Ordering}
use Rattle.std.specs.declared.cmp.Ordering.TheVariants.{Less, Equal, Greater}
use Rattle.conda_base.proofs.AscendingLemmas.{ascending_law}
use Rattle.conda_base.specs.Texts.{Ascending}
use Rattle.conda_path.specs.declared.values.Good.{Good}
use Rattle.conda_goods.specs.Claims.{same_owner}
use Rattle.conda_goods.specs.Conflicts.{NoConflict, OwnersRepeatNoPath, ShareNoPath, goods_of}
use Rattle.conda_goods.specs.Goods.{IsSortedOf, paths_of}
use Rattle.conda_goods.specs.declared.owned.Owned.{Owned}
use Rattle.conda_goods.proofs.Lists.{IsIn, Contains_from_in, Pairs, all_from_pairs, drop_all, drop_item, from_flat, in_map, pairs_append, pairs_from_all, take_all}
use Rattle.conda_goods.proofs.Holders.{same_owner_is}

abbrev pub Differ : Good → Good → Type 0
Differ a b = a.path ≢ b.path

same_path : Good → Good → Bool
same_path a b = bytes_eq a.path b.path

-- ---- sorted goods

all_differ : (g : Good) (goods : List Good) → ((h : Good) → IsIn h goods → Differ g h) → AllByRecursion (λ h. same_path g h ≡ false) goods
unfolding same_path
all_differ g [] k = tt
all_differ g (h ∷ goods) k =
    (false_from_ne_true (bytes_eq g.path h.path) (λ e. k h (inl refl) ((bytes_eq-Decides g.path h.path).0 e)), all_differ g goods (λ x m. k x (inr m)))

distinct : (goods : List Good) → Pairs Differ goods → IsDistinct same_path goods
unfolding IsDistinct
distinct [] h = tt
distinct (g ∷ goods) h = (all_differ g goods h.0, distinct goods h.1)

flips : (a b : Good) → same_path a b ≡ same_path b a
unfolding same_path
flips a b = nat_list_eq_equiv.symm a.path b.path

less_of : (a b : List ℕ) → slice_cmp nat_cmp b a ≢ Less → a ≢ b → slice_cmp nat_cmp a b ≡ Less
less_of a b above two = by (slice_cmp nat_cmp a b) refl
  where
    by : (o : Ordering) → slice_cmp nat_cmp a b ≡ o → o ≡ Less
    by Less e = refl
    by Equal e = absurd (two (exact_bytes a b e))
    by Greater e = absurd (above (nat_list_cmp_total.antisymm b a ∙ ap ordering_reverse e))

abbrev is_before : Good → Good → Bool
is_before a b = is_lt (slice_cmp nat_cmp a.path b.path)

not_before : (a b : List ℕ) → is_lt (slice_cmp nat_cmp a b) ≡ false → slice_cmp nat_cmp a b ≢ Less
not_before a b h e = true≢false (sym (ap is_lt e) ∙ h)

tail_sorted : {X : Type 0} (lt : X → X → Bool) (x : X) (xs : List X) → IsSortedBy lt (x ∷ xs) → IsSortedBy lt xs
tail_sorted lt x xs h k d p q =
    let e : suc k + 1 ≡ suc (k + 1) = omega arith in
    subst (λ n. lt (slice_index_or (x ∷ xs) n d) (slice_index_or xs k d) ≡ false) e (h (suc k) d (omega arith) (omega (arith, q)))

ascend : (goods : List Good) → IsSortedBy is_before goods → IsDistinct same_path goods → Ascending (paths_of goods)
unfolding same_path IsDistinct
ascend [] sorted apart = tt
ascend (g ∷ []) sorted apart = (tt, tt)
ascend (g ∷ h ∷ goods) sorted apart = (
  less_of g.path h.path (not_before h.path g.path (sorted 0 g (omega arith) (omega arith))) (λ e. true≢false (sym ((bytes_eq-Decides g.path h.path).1 e) ∙ apart.0.0)),
  ascend (h ∷ goods) (tail_sorted is_before g (h ∷ goods) sorted) apart.1,
)

-- what sorting by path gives
pub sorted_goods : {F : Type 0} {g : Mut F (Bor Good × (Bor Good × Unit {0})) Ordering} {f : F} (goods sorted : List Good) → IsPermutation goods sorted → ((lt : Good → Good → Bool) → IsStrictWeakOrder lt → ComparesAs g lt f → IsSortedBy lt sorted) → ((a : Bor Good × (Bor Good × Unit {0})) (r : Ordering) (f' : F) → Called g f a r f' → (r ≡ slice_cmp nat_cmp a.0.now.path a.1.0.now.path) × (f' ≡ f)) → AllPairs Differ goods → IsSortedOf goods sorted
sorted_goods {F} {g} {f} goods sorted same up says apart =
    let order : IsStrictWeakOrder is_before = ranks_by nat_list_cmp_total (λ good. good.path) in
    let compares : ComparesAs g is_before f =
    always_returns_same g (λ a r. is_lt r ≡ is_before a.0.now a.1.0.now) f (λ a r f' k. (ap is_lt (says a r f' k).0, (says a r f' k).1))
    in
    record {
      same = same;
      ascending = ascend sorted (up is_before order compares) (IsDistinct-IsPermutation same_path flips goods sorted same (distinct goods (pairs_from_all Differ goods apart)));
    }

-- ---- the goods of parts

own : (goods : List Good) → Pairs (λ a b. slice_cmp nat_cmp a b ≡ Less) (paths_of goods) → Pairs Differ goods
own [] h = tt
own (g ∷ goods) h = (differs, own goods h.1)
  where
    differs : (x : Good) → IsIn x goods → Differ g x
    differs x m e =
        let less : slice_cmp nat_cmp g.path x.path ≡ Less = h.0 x.path (in_map (λ good. good.path) goods x m) in
        let tied : slice_cmp nat_cmp g.path x.path ≡ Equal = ap (λ p. slice_cmp nat_cmp g.path p) (sym e) ∙ tied_itself nat_list_cmp_total g.path in
        let clash : Less ≡ Equal = sym less ∙ tied in cc

pairs_goods : (parts : List Owned) → Pairs ShareNoPath parts → ((part : Owned) → IsIn part parts → Ascending (paths_of part.goods)) → Pairs Differ (goods_of parts)
pairs_goods [] h up = tt
pairs_goods (part ∷ parts) h up =
    pairs_append Differ part.goods (goods_of parts)
    (own part.goods (pairs_from_all (λ a b. slice_cmp nat_cmp a b ≡ Less) (paths_of part.goods) ((ascending_law (paths_of part.goods)).0 (up part (inl refl)))))
    (pairs_goods parts h.1 (λ p m. up p (inr m)))
    apart
  where
    apart : (x y : Good) → IsIn x part.goods → IsIn y (goods_of parts) → Differ x y
    apart x y m n e =
        let r = from_flat (λ p. p.goods) parts y n in
        let first : Contains (paths_of part.goods) y.path = Contains_from_in (paths_of part.goods) y.path (subst (λ p. IsIn p (paths_of part.goods)) e (in_map (λ good. good.path) part.goods x m)) in
        h.0 r.0 r.1 y.path first (Contains_from_in (paths_of r.0.goods) y.path (in_map (λ good. good.path) r.0.goods y r.2))

pub apart_goods : (parts : List Owned) → AllPairs ShareNoPath parts → ((part : Owned) → IsIn part parts → Ascending (paths_of part.goods)) → AllPairs Differ (goods_of parts)
apart_goods parts h up = all_from_pairs Differ (goods_of parts) (pairs_goods parts (pairs_from_all ShareNoPath parts h) up)

pub apart_parts : (parts : List Owned) (others : List (List ℕ)) → NoConflict parts others → OwnersRepeatNoPath parts → AllPairs ShareNoPath parts
apart_parts parts others none repeats i j d p q path m n =
    by (same_owner (slice_index_or parts i d).owner (slice_index_or parts j d).owner) refl
  where
    by : (v : Bool) → same_owner (slice_index_or parts i d).owner (slice_index_or parts j d).owner ≡ v → ⊥
    by true e = repeats i j d p q ((same_owner_is (slice_index_or parts i d).owner (slice_index_or parts j d).owner).0 e) path m n
    by false e = none path (Some (slice_index_or parts i d).owner) (Some (slice_index_or parts j d).owner) (record {
      two = λ s. true≢false (sym ((same_owner_is (slice_index_or parts i d).owner (slice_index_or parts j d).owner).1 (inner s)) ∙ e);
      has = (slice_index_or parts i d, Contains-get_or parts i d (omega (arith, p, q)), refl, m);
      above = (path, (slice_index_or parts j d, Contains-get_or parts j d q, refl, n), inl refl);
    })
      where
        inner : Some (slice_index_or parts i d).owner ≡ Some (slice_index_or parts j d).owner → (slice_index_or parts i d).owner ≡ (slice_index_or parts j d).owner
        inner s = cc

-- ---- the loop over the parts

pub goods_step : (parts : List Owned) (i : ℕ) (item : Owned) (old new : List Good) → i < length parts → item ≡ get_or parts i item → new ≡ old ++ item.goods → new ++ goods_of (drop (i + 1) parts) ≡ old ++ goods_of (drop i parts)
goods_step parts i item old new q is e =
    ap (λ g. g ++ goods_of (drop (i + 1) parts)) e ∙ append_assoc old item.goods (goods_of (drop (i + 1) parts))
    ∙ ap (λ ps. old ++ goods_of ps) (sym (drop_item parts i item q is))

pub item_ascends : (parts : List Owned) (i : ℕ) (item : Owned) → i < length parts → item ≡ get_or parts i item → Ascending (paths_of item.goods) → All (λ part. Ascending (paths_of part.goods)) (take i parts) → All (λ part. Ascending (paths_of part.goods)) (take (i + 1) parts)
item_ascends parts i item q is up before =
    All-more (λ part. Ascending (paths_of part.goods)) parts i item q before (subst (λ part. Ascending (paths_of part.goods)) is up)

pub all_apart : (parts : List Owned) (i : ℕ) (goods : List Good) → AllPairs ShareNoPath parts → length parts ≤ i → goods ++ goods_of (drop i parts) ≡ goods_of parts → All (λ part. Ascending (paths_of part.goods)) (take i parts) → AllPairs Differ goods
all_apart parts i goods apart q e up =
    let all : goods ≡ goods_of parts = sym (append-nil goods) ∙ ap (λ ps. goods ++ goods_of ps) (sym (drop_all parts i q)) ∙ e in
    let ascends : (part : Owned) → IsIn part parts → Ascending (paths_of part.goods) =
    λ part m. All-contains (λ p. Ascending (paths_of p.goods)) parts part (subst (All (λ p. Ascending (paths_of p.goods))) (take_all parts i q) up) (Contains_from_in parts part m)
    in
    subst (AllPairs Differ) (sym all) (apart_goods parts apart ascends)
