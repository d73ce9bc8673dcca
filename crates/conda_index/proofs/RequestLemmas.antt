-- Pools of different names as a request.
use Rattle.std.specs.Prelude.{◌≡◌, ◌≢◌, ℕ, ◌+◌, ◌<◌, ◌≤◌, ◌^◌, zero, suc, Bool, true, false, cond, List, [], ◌∷◌, AllPairs, Contains, length, nat_eq}
use Rattle.std.proofs.Common.{refl, ap, sym, ◌∙◌, subst, arith, get_or, true≢false, zero-add}
use Rattle.std.proofs.lemmas.Cmp.{nat_list_cmp_total, tied_itself}
use Rattle.std.proofs.lemmas.List.{length-append}
use Rattle.std.proofs.lemmas.List.Elements.{All-contains}
use Rattle.std.specs.Cmp.Lexicographic.{pointwise, slice_cmp, texts_ties}
use Rattle.std.specs.List.{AllByRecursion, IsDistinct}
use Rattle.std.specs.List.Sorted.{IsSorted}
use Rattle.std.specs.Ordering.{is_eq, is_lt, nat_cmp, ordering_reverse}
use Rattle.std.specs.declared.cmp.Ordering.{Ordering}
use Rattle.std.specs.declared.cmp.Ordering.TheVariants.{Less, Equal, Greater}
use Rattle.conda_base.specs.Texts.{Ascending, IsBeforeFirst}
use Rattle.conda_record.specs.declared.pkg_record.PkgRecord.{PkgRecord}
use Rattle.conda_record.specs.declared.pool.NamePool.{NamePool}
use Rattle.conda_encode.specs.Matching.{lowered}
use Rattle.conda_encode.specs.Variables.{IsPlain, IsRequest, records}
use Rattle.conda_encode.specs.declared.asked.Asked.{Asked}
use Rattle.conda_index.specs.Names.{is_named, name_of}
use Rattle.conda_index.specs.Pools.{IsIndex, NamesPlainly, pool_of}
use Rattle.conda_index.specs.Reached.{names_of}
use Rattle.conda_index.proofs.GatherLemmas.{same_text}
use Rattle.conda_index.proofs.ReachLemmas.{first_in, in_map, later_in, of_filter, of_flat_map}

-- ---- at most one of different names is that of a record

-- one more record adds at most one to the pools of different names
abbrev lengths : List PkgRecord → List (List ℕ) → ℕ
lengths index [] = 0
lengths index (name ∷ names) = length (pool_of index name) + lengths index names

abbrev Lowered : List (List ℕ) → Type 0
Lowered names = AllByRecursion (λ name. lowered name ≡ name) names

-- none of the names is this one
abbrev Lacks : List ℕ → List (List ℕ) → Type 0
Lacks own names = AllByRecursion (λ name. own ≡ name → ⊥) names

abbrev Different : List (List ℕ) → Type 0
Different [] = Unit {0}
Different (name ∷ names) = Lacks name names × Different names

module _ (x : PkgRecord) (xs : List PkgRecord) where
  named_so : (name : List ℕ) → lowered name ≡ name → is_named name x ≡ true → name_of x ≡ name
  named_so name low h = same_text (name_of x) (lowered name) h ∙ low

  one_pool : (name : List ℕ) (b : Bool) → is_named name x ≡ b → length (pool_of (x ∷ xs) name) ≡ length (cond b (x ∷ pool_of xs name) (pool_of xs name))
  one_pool name b e = ap (λ c. length (cond c (x ∷ pool_of xs name) (pool_of xs name))) e

  same_lengths : (names : List (List ℕ)) → Lowered names → Lacks (name_of x) names → lengths (x ∷ xs) names ≡ lengths xs names
  same_lengths [] low h = refl
  same_lengths (name ∷ names) low h =
      ap (λ n. n + lengths (x ∷ xs) names) (by (is_named name x) refl)
      ∙ ap (λ n. length (pool_of xs name) + n) (same_lengths names low.1 h.1)
    where
      by : (b : Bool) → is_named name x ≡ b → length (pool_of (x ∷ xs) name) ≡ length (pool_of xs name)
      by true e = absurd (h.0 (named_so name low.0 e))
      by false e = one_pool name false e

  lengths_more : (names : List (List ℕ)) → Lowered names → Different names → lengths (x ∷ xs) names ≤ suc (lengths xs names)
  lengths_more [] low d = omega arith
  lengths_more (name ∷ names) low d =
      by (is_named name x) refl (lengths_more names low.1 d.1) (λ lacks. same_lengths names low.1 lacks)
    where
      by : (b : Bool) → is_named name x ≡ b → lengths (x ∷ xs) names ≤ suc (lengths xs names)
          → (Lacks (name_of x) names → lengths (x ∷ xs) names ≡ lengths xs names)
          → length (pool_of (x ∷ xs) name) + lengths (x ∷ xs) names ≤ suc (length (pool_of xs name) + lengths xs names)
      by true e more same =
          let own : name_of x ≡ name = named_so name low.0 e in
          let rest : lengths (x ∷ xs) names ≡ lengths xs names = same (subst (λ n. Lacks n names) (sym own) d.0) in
          let one : length (pool_of (x ∷ xs) name) ≡ suc (length (pool_of xs name)) = one_pool name true e in
          omega (arith, rest, one)
      by false e more same =
          let one : length (pool_of (x ∷ xs) name) ≡ length (pool_of xs name) = one_pool name false e in
          omega (arith, more, one)

lengths_none : (names : List (List ℕ)) → lengths [] names ≡ 0
lengths_none [] = refl
lengths_none (name ∷ names) = zero-add (lengths [] names) ∙ lengths_none names

-- the pools of different names have no more records than the index
lengths_few : (index : List PkgRecord) (names : List (List ℕ)) → Lowered names → Different names → lengths index names ≤ length index
lengths_few [] names low d = omega (arith, lengths_none names)
lengths_few (x ∷ xs) names low d =
    let more = lengths_more x xs names low d in
    let rest = lengths_few xs names low d in
    omega (arith, more, rest)

-- ---- texts in order

ascends_pair : (x y : List ℕ) → is_lt (slice_cmp nat_cmp y x) ≡ false → pointwise nat_eq x y ≡ false → slice_cmp nat_cmp x y ≡ Less
ascends_pair x y h k = by (slice_cmp nat_cmp x y) refl
  where
    by : (o : Ordering) → slice_cmp nat_cmp x y ≡ o → slice_cmp nat_cmp x y ≡ Less
    by Less e = e
    by Equal e = absurd (true≢false (sym (texts_ties x y ∙ ap is_eq e) ∙ k))
    by Greater e = absurd (true≢false (sym (ap is_lt (nat_list_cmp_total.antisymm y x ∙ ap ordering_reverse e)) ∙ h))

-- a sorted list of different texts ascends
pub ascends : (ks : List (List ℕ)) → IsSorted (slice_cmp nat_cmp) ks → IsDistinct (pointwise nat_eq) ks → Ascending ks
unfolding IsDistinct
ascends [] s d = tt
ascends (x ∷ []) s d = (tt, tt)
ascends (x ∷ y ∷ rest) s d = (
  ascends_pair x y (s 0 x (omega arith) (omega arith)) d.0.0,
  ascends (y ∷ rest)
      (λ k e low high.
      let next : suc (k + 1) ≡ suc k + 1 = omega arith in
      ap (λ i. is_lt (slice_cmp nat_cmp (get_or (x ∷ y ∷ rest) i e) (get_or (y ∷ rest) k e))) next ∙ s (suc k) e (omega arith) (omega arith))
      d.1,
)

over : (text next : List ℕ) (rest : List (List ℕ)) → slice_cmp nat_cmp text next ≡ Less → IsBeforeFirst next rest → IsBeforeFirst text rest
over text next [] h k = tt
over text next (other ∷ rest) h k = nat_list_cmp_total.trans text next other h k

later : (text : List ℕ) (rest : List (List ℕ)) → IsBeforeFirst text rest → Ascending rest → Lacks text rest
later text [] h a = tt
later text (next ∷ rest) h a = (
  λ e. let same : slice_cmp nat_cmp text next ≡ Equal = ap (slice_cmp nat_cmp text) (sym e) ∙ tied_itself nat_list_cmp_total text in cc,
  later text rest (over text next rest h a.0) a.1,
)

different : (names : List (List ℕ)) → Ascending names → Different names
different [] a = tt
different (name ∷ names) a = (later name names a.0 a.1, different names a.1)

lacks_at : (own : List ℕ) (pools : List NamePool) → Lacks own (names_of pools) → (j : ℕ) (d : NamePool) → j < length pools
    → own ≡ (get_or pools j d).name → ⊥
lacks_at own [] h j d short = absurd (omega arith)
lacks_at own (pool ∷ pools) h zero d short = h.0
lacks_at own (pool ∷ pools) h (suc j) d short = lacks_at own pools h.1 j d (omega arith)

apart : (pools : List NamePool) → Different (names_of pools) → AllPairs (λ p q. p.name ≢ q.name) pools
apart [] h i j d low short = absurd (omega arith)
apart (pool ∷ pools) h zero zero d low short = absurd (omega arith)
apart (pool ∷ pools) h zero (suc j) d low short = lacks_at pool.name pools h.0 j d (omega arith)
apart (pool ∷ pools) h (suc i) zero d low short = absurd (omega arith)
apart (pool ∷ pools) h (suc i) (suc j) d low short = apart pools h.1 i j d (omega arith) (omega arith)

-- ---- the request

all_in : {X : Type 0} {P : X → Type 0} (xs : List X) → ((x : X) → Contains xs x → P x) → AllByRecursion P xs
all_in [] h = tt
all_in (x ∷ xs) h = (h x (first_in x xs), all_in xs (λ y c. h y (later_in x y xs c)))

module _ (index : List PkgRecord) (is : IsIndex index) (pools : List NamePool)
    (lows : (name : List ℕ) → Contains (names_of pools) name → lowered name ≡ name) (order : Ascending (names_of pools))
    (recs : (pool : NamePool) → Contains pools pool → pool.recs ≡ pool_of index pool.name) where
  long : (ps : List NamePool) → AllByRecursion (λ (pool : NamePool). pool.recs ≡ pool_of index pool.name) ps
      → length (records ps) ≡ lengths index (names_of ps)
  long [] h = refl
  long (pool ∷ ps) h =
      length-append pool.recs (records ps) ∙ ap (λ r. length r + length (records ps)) h.0
      ∙ ap (λ n. length (pool_of index pool.name) + n) (long ps h.1)

  few : length (records pools) < 2 ^ 28
  few =
      let same = long pools (all_in pools recs) in
      let small = lengths_few index (names_of pools) (all_in (names_of pools) lows) (different (names_of pools) order) in
      let limit = is.few in
      omega (arith, same, small, limit)

  in_index : (pkg : PkgRecord) → Contains (records pools) pkg → Contains index pkg
  in_index pkg c =
      let m = of_flat_map (λ (pool : NamePool). pool.recs) pools pkg c in
      (of_filter (is_named (m.0).name) index pkg (subst (λ r. Contains r pkg) (recs m.0 m.1.0) m.1.1)).0

  own : (pool : NamePool) → Contains pools pool → (pkg : PkgRecord) → Contains pool.recs pkg → lowered pkg.name ≡ pool.name
  own pool c pkg d =
      let named = (of_filter (is_named pool.name) index pkg (subst (λ r. Contains r pkg) (recs pool c) d)).1 in
      same_text (name_of pkg) (lowered pool.name) named ∙ lows pool.name (in_map (λ (p : NamePool). p.name) pools pool c)

  pub request : (asked : List Asked) → ((item : Asked) → Contains asked item → IsPlain item.spec) → IsRequest pools asked
  request asked plain = record {
    few = few;
    apart = apart pools (different (names_of pools) order);
    own = own;
    items_plain = plain;
    depends_plain = λ pkg c spec d. All-contains IsPlain pkg.depends spec (All-contains NamesPlainly index pkg is.plain (in_index pkg c)).0 d;
    constrains_plain = λ pkg c spec d. All-contains IsPlain pkg.constrains spec (All-contains NamesPlainly index pkg is.plain (in_index pkg c)).1 d;
  }
