-- The orders of records.
use Rattle.std.specs.Prelude.{◌≡◌, ℕ, ◌+◌, ◌<◌, Bool, true, false, List, filter, length}
use Rattle.std.proofs.Common.{Bor, refl, ap, sym, ◌∙◌, arith, get_or, drop}
use Rattle.std.proofs.lemmas.Fn.{always_returns_same}
use Rattle.std.proofs.lemmas.Cmp.{back_total, nat_cmp_total, nat_list_cmp_total, on_total, then_total, tied_back, upto}
use Rattle.std.proofs.lemmas.List.{get_or-drop, length-drop}
use Rattle.std.proofs.lemmas.List.Elements.{filter_passes}
use Rattle.std.proofs.lemmas.List.Kept.{IsSortedBy-filter}
use Rattle.std.proofs.lemmas.List.Sorted.{ranks_by, sorted_far}
use Rattle.std.specs.Cmp.{IsStrictWeakOrder, IsTotalOrder}
use Rattle.std.specs.Cmp.Lexicographic.{slice_cmp, texts_ties}
use Rattle.std.specs.Fn.{Called, ComparesAs, Mut}
use Rattle.std.specs.List.Sorted.{IsPartitionedBy, IsSorted, IsSortedBy}
use Rattle.std.specs.Ordering.{is_eq, is_gt, is_le, is_lt, nat_cmp, ordering_reverse, ordering_then}
use Rattle.std.specs.declared.cmp.Ordering.{Ordering}
use Rattle.std.specs.declared.cmp.Ordering.TheVariants.{Less, Equal, Greater}
use Rattle.conda_record.specs.declared.pkg_record.PkgRecord.{PkgRecord}
use Rattle.conda_version.specs.Order.{version_cmp}
use Rattle.conda_encode.specs.Matching.{lowered}
use Rattle.conda_index.specs.Names.{is_named, name_of}
use Rattle.conda_index.specs.Order.{index_cmp, is_before, is_within, plain_cmp}

-- what conda_version's law says of the order of versions
pub record VersionLaws : Type 0 where
  pub transitive : (u v w : List ℕ) → is_le (version_cmp u v) ≡ true → is_le (version_cmp v w) ≡ true → is_le (version_cmp u w) ≡ true
  pub total : (v w : List ℕ) → version_cmp v w ≡ ordering_reverse (version_cmp w v)
  pub equals : (u v w : List ℕ) → version_cmp u v ≡ Equal → version_cmp u w ≡ version_cmp v w

version_total : VersionLaws → IsTotalOrder version_cmp
version_total laws = record { antisymm = laws.total; trans = above; congr = laws.equals }
  where
    above : (u v w : List ℕ) → version_cmp u v ≡ Less → version_cmp v w ≡ Less → version_cmp u w ≡ Less
    above u v w h k =
        by (version_cmp u w) refl
        (laws.transitive u v w (ap is_le h) (ap is_le k))
      where
        by : (o : Ordering) → version_cmp u w ≡ o → is_le (version_cmp u w) ≡ true → version_cmp u w ≡ Less
        by Less e le = e
        by Equal e le =
            let back : version_cmp w v ≡ Greater = laws.total w v ∙ ap ordering_reverse k in
            let same : version_cmp u v ≡ version_cmp w v = laws.equals u w v e in
            cc
        by Greater e le = let no : is_le Greater ≡ true = ap is_le (sym e) ∙ le in cc

pub plain_total : VersionLaws → IsTotalOrder plain_cmp
plain_total laws =
    then_total (on_total (λ (pkg : PkgRecord). pkg.version) (back_total (version_total laws)))
    (then_total (on_total (λ (pkg : PkgRecord). pkg.build_number) (back_total nat_cmp_total))
    (then_total (on_total (λ (pkg : PkgRecord). pkg.timestamp) (back_total nat_cmp_total))
    (then_total (on_total (λ (pkg : PkgRecord). pkg.dist) nat_list_cmp_total) (on_total (λ (pkg : PkgRecord). pkg.subdir) nat_list_cmp_total))))

pub index_total : VersionLaws → IsTotalOrder index_cmp
index_total laws = then_total (on_total name_of nat_list_cmp_total) (plain_total laws)

pub ranks : VersionLaws → IsStrictWeakOrder (λ (a : PkgRecord) (b : PkgRecord). is_lt (index_cmp a b))
ranks laws = ranks_by (index_total laws) (λ (pkg : PkgRecord). pkg)

-- what a sort by a closure that compares so gives
pub sorted_by_index : {F : Type 0} {g : Mut F (Bor PkgRecord × (Bor PkgRecord × Unit {0})) Ordering} {f : F} → VersionLaws → (ys : List PkgRecord)
    → ((lt : PkgRecord → PkgRecord → Bool) → IsStrictWeakOrder lt → ComparesAs g lt f → IsSortedBy lt ys)
    → ((a : Bor PkgRecord × (Bor PkgRecord × Unit {0})) (r : Ordering) (f' : F) → Called g f a r f'
    → (r ≡ index_cmp a.0.now a.1.0.now) × (f' ≡ f))
    → IsSorted index_cmp ys
sorted_by_index {g = g} {f = f} laws ys up h =
    up (λ a b. is_lt (index_cmp a b)) (ranks laws)
    (always_returns_same g (λ a r. is_lt r ≡ is_lt (index_cmp a.0.now a.1.0.now)) f
    (λ a r f' k. (ap is_lt (h a r f' k).0, (h a r f' k).1)))

-- ---- names

named_is : (name : List ℕ) (pkg : PkgRecord) → is_named name pkg ≡ is_eq (slice_cmp nat_cmp (name_of pkg) (lowered name))
named_is name pkg = texts_ties (name_of pkg) (lowered name)

pub before_not_named : (name : List ℕ) (pkg : PkgRecord) → is_before name pkg ≡ true → is_named name pkg ≡ false
before_not_named name pkg h = named_is name pkg ∙ by (slice_cmp nat_cmp (name_of pkg) (lowered name)) h
  where
    by : (o : Ordering) → is_lt o ≡ true → is_eq o ≡ false
    by Less h = refl
    by Equal h = cc h
    by Greater h = refl

pub within_named : (name : List ℕ) (pkg : PkgRecord) → is_before name pkg ≡ false → is_within name pkg ≡ true → is_named name pkg ≡ true
within_named name pkg h k = named_is name pkg ∙ by (slice_cmp nat_cmp (name_of pkg) (lowered name)) h k
  where
    by : (o : Ordering) → is_lt o ≡ false → is_le o ≡ true → is_eq o ≡ true
    by Less h k = cc h
    by Equal h k = refl
    by Greater h k = cc k

pub behind_not_named : (name : List ℕ) (pkg : PkgRecord) → is_within name pkg ≡ false → is_named name pkg ≡ false
behind_not_named name pkg h = named_is name pkg ∙ by (slice_cmp nat_cmp (name_of pkg) (lowered name)) h
  where
    by : (o : Ordering) → is_le o ≡ false → is_eq o ≡ false
    by Less h = cc h
    by Equal h = cc h
    by Greater h = refl

-- records in order have their names in order
names_in_order : (a b : PkgRecord) → is_lt (index_cmp b a) ≡ false → is_gt (slice_cmp nat_cmp (name_of a) (name_of b)) ≡ false
names_in_order a b h = by (slice_cmp nat_cmp (name_of a) (name_of b)) refl
  where
    by : (o : Ordering) → slice_cmp nat_cmp (name_of a) (name_of b) ≡ o → is_gt o ≡ false
    by Less e = refl
    by Equal e = refl
    by Greater e =
        let less : slice_cmp nat_cmp (name_of b) (name_of a) ≡ Less = nat_list_cmp_total.antisymm (name_of b) (name_of a) ∙ ap ordering_reverse e in
        let no : is_lt Less ≡ false = ap (λ o. is_lt (ordering_then o (plain_cmp b a))) (sym less) ∙ h in
        cc

le_is : (o : Ordering) → is_le o ≡ true → is_gt o ≡ false
le_is Less h = refl
le_is Equal h = refl
le_is Greater h = cc

not_gt : (o : Ordering) → is_gt o ≡ false → is_le o ≡ true
not_gt Less h = refl
not_gt Equal h = refl
not_gt Greater h = cc

within_down : (a b z : List ℕ) → is_gt (slice_cmp nat_cmp a b) ≡ false → is_le (slice_cmp nat_cmp b z) ≡ true → is_le (slice_cmp nat_cmp a z) ≡ true
within_down a b z h k = not_gt (slice_cmp nat_cmp a z) (upto nat_list_cmp_total a b z h (le_is (slice_cmp nat_cmp b z) k))

lt_is : (o : Ordering) → is_lt o ≡ true → o ≡ Less
lt_is Less h = refl
lt_is Equal h = cc h
lt_is Greater h = cc h

before_down : (a b z : List ℕ) → is_gt (slice_cmp nat_cmp a b) ≡ false → is_lt (slice_cmp nat_cmp b z) ≡ true → is_lt (slice_cmp nat_cmp a z) ≡ true
before_down a b z h k = by (slice_cmp nat_cmp a b) refl h
  where
    less : slice_cmp nat_cmp b z ≡ Less
    less = lt_is (slice_cmp nat_cmp b z) k

    by : (o : Ordering) → slice_cmp nat_cmp a b ≡ o → is_gt o ≡ false → is_lt (slice_cmp nat_cmp a z) ≡ true
    by Less e h = ap is_lt (nat_list_cmp_total.trans a b z e less)
    by Equal e h = ap is_lt (nat_list_cmp_total.congr a b z e ∙ less)
    by Greater e h = cc h

module _ (laws : VersionLaws) (name : List ℕ) (records : List PkgRecord) (order : IsSorted index_cmp records) where
  pub before_first : IsPartitionedBy (is_before name) records
  before_first i j d le short h =
      before_down (name_of (get_or records i d)) (name_of (get_or records j d)) (lowered name)
      (names_in_order (get_or records i d) (get_or records j d)
      (sorted_far (λ a b. is_lt (index_cmp a b)) (ranks laws) records order i j d le short))
      h

  pub within_first : IsPartitionedBy (is_within name) records
  within_first i j d le short h =
      within_down (name_of (get_or records i d)) (name_of (get_or records j d)) (lowered name)
      (names_in_order (get_or records i d) (get_or records j d)
      (sorted_far (λ a b. is_lt (index_cmp a b)) (ranks laws) records order i j d le short))
      h

-- what stands behind some of a sorted list is sorted
pub sorted_drop : {X : Type 0} (lt : X → X → Bool) (n : ℕ) (xs : List X) → IsSortedBy lt xs → IsSortedBy lt (drop n xs)
sorted_drop {X} lt n xs h k d low high =
    let short : n + k + 1 < length xs = omega (arith, length-drop n xs) in
    let next : get_or (drop n xs) (k + 1) d ≡ get_or xs (n + k + 1) d =
    get_or-drop n xs (k + 1) d ∙ ap (λ i. get_or xs i d) (omega arith)
    in
    ap (λ x. lt x (get_or (drop n xs) k d)) next ∙ ap (lt (get_or xs (n + k + 1) d)) (get_or-drop n xs k d)
    ∙ h (n + k) d (omega arith) short

-- ---- pools

-- records of one name in the order of an index are in plain order
pub plain_pool : VersionLaws → (name : List ℕ) (records : List PkgRecord) → IsSorted index_cmp records
    → IsSorted plain_cmp (filter (is_named name) records)
plain_pool laws name records order k d low high =
    let pool = filter (is_named name) records in
    let up : is_lt (index_cmp (get_or pool (k + 1) d) (get_or pool k d)) ≡ false =
    IsSortedBy-filter (λ a b. is_lt (index_cmp a b)) (ranks laws) (is_named name) records order k d low high
    in
    let next : is_named name (get_or pool (k + 1) d) ≡ true = filter_passes (is_named name) records (k + 1) d high in
    let this : is_named name (get_or pool k d) ≡ true = filter_passes (is_named name) records k d (omega arith) in
    let one : slice_cmp nat_cmp (name_of (get_or pool (k + 1) d)) (name_of (get_or pool k d)) ≡ Equal =
    both (name_of (get_or pool (k + 1) d)) (name_of (get_or pool k d)) (lowered name)
    (tied _ (sym (named_is name (get_or pool (k + 1) d)) ∙ next)) (tied _ (sym (named_is name (get_or pool k d)) ∙ this))
    in
    ap (λ o. is_lt (ordering_then o (plain_cmp (get_or pool (k + 1) d) (get_or pool k d)))) (sym one) ∙ up
  where
    tied : (o : Ordering) → is_eq o ≡ true → o ≡ Equal
    tied Less h = cc h
    tied Equal h = refl
    tied Greater h = cc h

    both : (a b z : List ℕ) → slice_cmp nat_cmp a z ≡ Equal → slice_cmp nat_cmp b z ≡ Equal → slice_cmp nat_cmp a b ≡ Equal
    both a b z h k = nat_list_cmp_total.congr a z b h ∙ tied_back nat_list_cmp_total b z k
