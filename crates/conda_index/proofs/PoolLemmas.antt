-- The pool of a name among records that stand in order, and the records of pools.
use Rattle.std.specs.Prelude.{◌≡◌, ℕ, ◌+◌, ◌<◌, ◌≤◌, zero, suc, Bool, true, false, cond, List, [], ◌∷◌, ◌++◌, filter, map, length, All}
use Rattle.std.proofs.Common.{ap, sym, ◌∙◌, subst, arith, get_or, take, drop}
use Rattle.std.proofs.lemmas.Grind.{flat_map-append}
use Rattle.std.proofs.lemmas.List.{append-nil, drop_all, length-append, length-map, take-append-drop, take_all, take_more}
use Rattle.std.proofs.lemmas.List.Elements.{All-append, All-filter, All-map, All-nil, filter-append}
use Rattle.std.proofs.lemmas.List.Sorted.{All-permutation, length_permutation}
use Rattle.std.specs.List.{AllByRecursion, AllWithin}
use Rattle.std.specs.List.Sorted.{IsPartitionPoint, IsPartitionedBy, IsPermutation, IsSorted}
use Rattle.std.specs.Ordering.{is_lt}
use Rattle.conda_record.specs.declared.pkg_record.PkgRecord.{PkgRecord}
use Rattle.conda_repodata.specs.declared.repodata.Repodata.{Repodata}
use Rattle.conda_encode.specs.Variables.{IsPlain}
use Rattle.conda_index.specs.Gather.{is_shown, shown, virtual_records}
use Rattle.conda_index.specs.Names.{is_named, is_virtual_name}
use Rattle.conda_index.specs.Order.{index_cmp, is_before, is_within}
use Rattle.conda_index.specs.Pools.{IsIndex, IsPool, NamesPlainly, given, index_limit, pool_of, pool_records, virtual_record}
use Rattle.conda_index.specs.declared.virtuals.Virtual.{Virtual}
use Rattle.conda_index.proofs.FilterLemmas.{filter_every, filter_none, filter_permutation}
use Rattle.conda_index.proofs.GatherLemmas.{pool_given}
use Rattle.conda_index.proofs.OrderLemmas.{VersionLaws, plain_pool, before_first, before_not_named, behind_not_named, sorted_drop, within_first, within_named}

module _ {X : Type 0} (P : X → Type 0) where
  within_take : (xs : List X) (n : ℕ) → n ≤ length xs → AllWithin P xs 0 n → AllByRecursion P (take n xs)
  within_take [] zero le h = tt
  within_take [] (suc n) le h = absurd (omega arith)
  within_take (x ∷ xs) zero le h = tt
  within_take (x ∷ xs) (suc n) le h =
      (h 0 x (omega arith) (omega arith), within_take xs n (omega arith) (λ k d low high. h (suc k) d (omega arith) (omega arith)))

  within_all : (xs : List X) → AllWithin P xs 0 (length xs) → AllByRecursion P xs
  within_all [] h = tt
  within_all (x ∷ xs) h =
      (h 0 x (omega arith) (omega arith), within_all xs (λ k d low high. h (suc k) d (omega arith) (omega arith)))

  within_drop : (xs : List X) (n : ℕ) → AllWithin P xs n (length xs) → AllByRecursion P (drop n xs)
  within_drop [] zero h = tt
  within_drop [] (suc n) h = tt
  within_drop (x ∷ xs) zero h = within_all (x ∷ xs) h
  within_drop (x ∷ xs) (suc n) h = within_drop xs n (λ k d low high. h (suc k) d (omega arith) (omega arith))

all_weaker : {X : Type 0} (P Q : X → Type 0) → ((x : X) → P x → Q x) → (xs : List X) → AllByRecursion P xs → AllByRecursion Q xs
all_weaker P Q f [] h = tt
all_weaker P Q f (x ∷ xs) h = (f x h.0, all_weaker P Q f xs h.1)

all_both : {X : Type 0} (P Q R : X → Type 0) → ((x : X) → P x → Q x → R x) → (xs : List X) → AllByRecursion P xs → AllByRecursion Q xs
    → AllByRecursion R xs
all_both P Q R f [] h k = tt
all_both P Q R f (x ∷ xs) h k = (f x h.0 k.0, all_both P Q R f xs h.1 k.1)

all_take : {X : Type 0} (P : X → Type 0) (n : ℕ) (xs : List X) → AllByRecursion P xs → AllByRecursion P (take n xs)
all_take P zero [] h = tt
all_take P zero (x ∷ xs) h = tt
all_take P (suc n) [] h = tt
all_take P (suc n) (x ∷ xs) h = (h.0, all_take P n xs h.1)

-- what stands between the first record whose name isn't before this one and the first behind whose name is after it
pub pool_between : (name : List ℕ) (records : List PkgRecord) (start count : ℕ) → start ≤ length records
    → count ≤ length (drop start records)
    → IsPartitionPoint (λ pkg. is_before name pkg ≡ true) (λ pkg. is_before name pkg ≡ false) records start
    → IsPartitionPoint (λ pkg. is_within name pkg ≡ true) (λ pkg. is_within name pkg ≡ false) (drop start records) count
    → take count (drop start records) ≡ pool_of records name
pool_between name records start count le short first second =
    let rest = drop start records in
    let before : filter (is_named name) (take start records) ≡ [] =
    filter_none (is_named name) (take start records)
    (all_weaker (λ pkg. is_before name pkg ≡ true) (λ pkg. is_named name pkg ≡ false) (before_not_named name) (take start records) (within_take (λ pkg. is_before name pkg ≡ true) records start le first.0))
    in
    let inside : filter (is_named name) (take count rest) ≡ take count rest =
    filter_every (is_named name) (take count rest)
    (all_both (λ pkg. is_before name pkg ≡ false) (λ pkg. is_within name pkg ≡ true) (λ pkg. is_named name pkg ≡ true) (within_named name)
    (take count rest)
    (all_take (λ pkg. is_before name pkg ≡ false) count rest (within_drop (λ pkg. is_before name pkg ≡ false) records start first.1))
    (within_take (λ pkg. is_within name pkg ≡ true) rest count short second.0))
    in
    let behind : filter (is_named name) (drop count rest) ≡ [] =
    filter_none (is_named name) (drop count rest)
    (all_weaker (λ pkg. is_within name pkg ≡ false) (λ pkg. is_named name pkg ≡ false) (behind_not_named name) (drop count rest) (within_drop (λ pkg. is_within name pkg ≡ false) rest count second.1))
    in
    let of_rest : filter (is_named name) rest ≡ take count rest =
    ap (filter (is_named name)) (sym (take-append-drop count rest)) ∙ filter-append (is_named name) (take count rest) (drop count rest)
    ∙ ap (λ l. filter (is_named name) (take count rest) ++ l) behind ∙ append-nil (filter (is_named name) (take count rest)) ∙ inside
    in
    let of_all : pool_of records name ≡ take count rest =
    ap (filter (is_named name)) (sym (take-append-drop start records)) ∙ filter-append (is_named name) (take start records) rest
    ∙ ap (λ l. l ++ filter (is_named name) rest) before ∙ of_rest
    in
    sym of_all

-- the same by what two searches by bisection answer
pub pool_at : VersionLaws → (name : List ℕ) (records : List PkgRecord) → IsSorted index_cmp records → (start count : ℕ) (behind pool : List PkgRecord)
    → behind ≡ drop start records → pool ≡ take count behind → start ≤ length records → count ≤ length behind
    → (IsPartitionedBy (is_before name) records
    → IsPartitionPoint (λ pkg. is_before name pkg ≡ true) (λ pkg. is_before name pkg ≡ false) records start)
    → (IsPartitionedBy (is_within name) behind
    → IsPartitionPoint (λ pkg. is_within name pkg ≡ true) (λ pkg. is_within name pkg ≡ false) behind count)
    → pool ≡ pool_of records name
pool_at laws name records order start count behind pool e f le short first second =
    let rest_order : IsSorted index_cmp (drop start records) = sorted_drop (λ a b. is_lt (index_cmp a b)) start records order in
    let behind_order : IsSorted index_cmp behind = subst (IsSorted index_cmp) (sym e) rest_order in
    let point : IsPartitionPoint (λ pkg. is_within name pkg ≡ true) (λ pkg. is_within name pkg ≡ false) behind count =
    second (within_first laws name behind behind_order)
    in
    f ∙ ap (take count) e
    ∙ pool_between name records start count le (subst (λ l. count ≤ length l) e short) (first (before_first laws name records order))
    (subst (λ l. IsPartitionPoint (λ pkg. is_within name pkg ≡ true) (λ pkg. is_within name pkg ≡ false) l count) e point)

kept_few : {X : Type 0} (p : X → Bool) (xs : List X) → length (filter p xs) ≤ length xs
kept_few p [] = omega arith
kept_few p (x ∷ xs) = by (p x) (kept_few p xs)
  where
    by : (b : Bool) → length (filter p xs) ≤ length xs → length (cond b (x ∷ filter p xs) (filter p xs)) ≤ suc (length xs)
    by true h = omega (arith, h)
    by false h = omega (arith, h)

-- ---- parts

-- what holds of the records of some parts and of one part more
pub given_more : (P : PkgRecord → Type 0) (parts : List Repodata) (i : ℕ) (part : Repodata) → i < length parts → part ≡ get_or parts i part
    → All P (given (take i parts)) → All P part.recs → All P (given (take (i + 1) parts))
given_more P parts i part short is before own =
    subst (λ ps. All P (given ps)) (sym (take_more parts i part short))
    (subst (All P) (sym (flat_map-append (λ (p : Repodata). p.recs) (take i parts) (get_or parts i part ∷ [])))
    (All-append P (given (take i parts)) (given (get_or parts i part ∷ [])) before
    (subst (λ (p : Repodata). All P (given (p ∷ []))) is (subst (All P) (sym (append-nil part.recs)) own))))

-- ---- an index

-- what an index is made of meets its conditions, whatever its order
pub made : (parts : List Repodata) (virtuals : List Virtual) (index : List PkgRecord) → All NamesPlainly (given parts)
    → length (given parts) + length virtuals ≤ index_limit
    → IsPermutation (shown (given parts) ++ virtual_records virtuals) index → IsSorted index_cmp index → IsIndex index
made parts virtuals index plain few same order = record {
  order = order;
  plain =
      All-permutation NamesPlainly (shown (given parts) ++ virtual_records virtuals) index same
      (All-append NamesPlainly (shown (given parts)) (virtual_records virtuals)
      (All-filter (is_shown (given parts)) NamesPlainly (given parts) plain)
      (All-filter (λ (pkg : PkgRecord). is_virtual_name pkg.name) NamesPlainly (map virtual_record virtuals)
      (All-map NamesPlainly virtual_record virtuals
      (λ k d short. (All-nil IsPlain, All-nil IsPlain)))));
  few =
      let long = length_permutation (shown (given parts) ++ virtual_records virtuals) index same in
      let both = length-append (shown (given parts)) (virtual_records virtuals) in
      let first = kept_few (is_shown (given parts)) (given parts) in
      let second = kept_few (λ (pkg : PkgRecord). is_virtual_name pkg.name) (map virtual_record virtuals) in
      let mapped = length-map virtuals virtual_record in
      omega (arith, long, both, first, second, mapped);
}

-- a list that was written back over one of its length
pub whole : {X : Type 0} (lent items new : List X) (n : ℕ) → lent ≡ items → length lent ≡ n → IsPermutation lent new
    → take n (new ++ drop (length new) items) ≡ new
whole lent items new n e len same =
    let long : length new ≡ length lent = length_permutation lent new same in
    let alike : length lent ≡ length items = ap length e in
    let none : drop (length new) items ≡ [] = drop_all (length new) items (omega (arith, long, alike)) in
    ap (λ r. take n (new ++ r)) none ∙ ap (take n) (append-nil new) ∙ take_all n new (omega (arith, long, len))

-- each name has its pool in it
pub pooled : VersionLaws → (parts : List Repodata) (virtuals : List Virtual) (index : List PkgRecord)
    → IsPermutation (shown (given parts) ++ virtual_records virtuals) index → IsSorted index_cmp index
    → (name : List ℕ) → IsPool (pool_records parts virtuals name) (pool_of index name)
pooled laws parts virtuals index same order name = record {
  same =
      subst (λ l. IsPermutation l (pool_of index name)) (pool_given name parts virtuals)
      (filter_permutation (is_named name) (shown (given parts) ++ virtual_records virtuals) index same);
  order = plain_pool laws name index order;
}
