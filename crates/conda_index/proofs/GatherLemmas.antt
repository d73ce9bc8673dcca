-- What is gathered of records one after another, and the pools of what was gathered.
use Rattle.std.specs.Prelude.{◌≡◌, ℕ, Bool, true, false, not, cond, ◌&&◌, List, [], ◌∷◌, ◌++◌, Contains, Option, None, Some, codes, filter, find, map, nat_eq, unwrap_or, zero, suc}
use Rattle.std.proofs.Common.{refl, ap, sym, ◌∙◌, arith}
use Rattle.std.proofs.lemmas.Cmp.{nat_list_eq_equiv}
use Rattle.std.proofs.lemmas.List.{append-nil, map-append}
use Rattle.std.proofs.lemmas.List.Elements.{All-contains_itself, All-weaker, filter-append, recursion_from_All}
use Rattle.std.proofs.lemmas.Map.Lookups.{exact_bytes}
use Rattle.std.specs.Cmp.Lexicographic.{pointwise, slice_cmp, texts_ties}
use Rattle.std.specs.List.{starts_with}
use Rattle.std.specs.HashMap.{get}
use Rattle.std.specs.Option.{option_map}
use Rattle.std.specs.Ordering.{is_eq, nat_cmp}
use Rattle.std.specs.declared.cmp.Ordering.{Ordering}
use Rattle.std.specs.declared.cmp.Ordering.TheVariants.{Less, Equal, Greater}
use Rattle.conda_base.specs.Texts.{is_text}
use Rattle.conda_encode.specs.Matching.{lowered}
use Rattle.conda_record.specs.declared.pkg_record.PkgRecord.{PkgRecord}
use Rattle.conda_repodata.specs.declared.repodata.Repodata.{Repodata}
use Rattle.conda_index.specs.Gather.{IsGathered, first_of, is_kept, is_shown, shown, virtual_records}
use Rattle.conda_index.specs.declared.gather.Gathered.{Gathered}
use Rattle.conda_index.specs.Names.{is_named, is_virtual_name, name_of}
use Rattle.conda_index.specs.Pools.{channel_pool, first_channel, given, is_of, pool_records, virtual_record}
use Rattle.conda_index.specs.declared.virtuals.Virtual.{Virtual}
use Rattle.conda_index.proofs.FilterLemmas.{filter_same, filter_twice}

-- ---- names

tied : (o : Ordering) → is_eq o ≡ true → o ≡ Equal
tied Less h = cc h
tied Equal h = refl
tied Greater h = cc h

pub same_text : (a b : List ℕ) → is_text a b ≡ true → a ≡ b
same_text a b h = exact_bytes a b (tied (slice_cmp nat_cmp a b) (sym (texts_ties a b) ∙ h))

named_alike : (name : List ℕ) (pkg : PkgRecord) → is_named name pkg ≡ true → name_of pkg ≡ lowered name
named_alike name pkg h = same_text (name_of pkg) (lowered name) h

-- ---- one more record

-- the first of the name among some records and one more
found_more : (p : PkgRecord → Bool) (before : List PkgRecord) (pkg : PkgRecord)
    → option_map (λ (pkg : PkgRecord). pkg.channel) (find p (before ++ pkg ∷ []))
    ≡ cond (p pkg) (Some (unwrap_or (option_map (λ (pkg : PkgRecord). pkg.channel) (find p before)) pkg.channel))
    (option_map (λ (pkg : PkgRecord). pkg.channel) (find p before))
found_more p [] pkg = by (p pkg)
  where
    by : (b : Bool) → option_map (λ (pkg : PkgRecord). pkg.channel) (cond b (Some pkg) None) ≡ cond b (Some pkg.channel) None
    by true = refl
    by false = refl
found_more p (x ∷ xs) pkg = by (p x) (p pkg) (found_more p xs pkg)
  where
    by : (b c : Bool)
        → option_map (λ (pkg : PkgRecord). pkg.channel) (find p (xs ++ pkg ∷ []))
        ≡ cond c (Some (unwrap_or (option_map (λ (pkg : PkgRecord). pkg.channel) (find p xs)) pkg.channel))
        (option_map (λ (pkg : PkgRecord). pkg.channel) (find p xs))
        → option_map (λ (pkg : PkgRecord). pkg.channel) (cond b (Some x) (find p (xs ++ pkg ∷ [])))
        ≡ cond c (Some (unwrap_or (option_map (λ (pkg : PkgRecord). pkg.channel) (cond b (Some x) (find p xs))) pkg.channel))
        (option_map (λ (pkg : PkgRecord). pkg.channel) (cond b (Some x) (find p xs)))
    by true true h = refl
    by true false h = refl
    by false c h = h

pub first_more : (before : List PkgRecord) (pkg : PkgRecord) (name : List ℕ)
    → first_of (before ++ pkg ∷ []) name
    ≡ cond (is_text (name_of pkg) name) (Some (unwrap_or (first_of before name) pkg.channel)) (first_of before name)
first_more before pkg name = found_more (λ (other : PkgRecord). is_text (name_of other) name) before pkg

find_contained : (p : PkgRecord → Bool) (xs : List PkgRecord) (x : PkgRecord) → Contains xs x → p x ≡ true
    → (y : PkgRecord) × (find p xs ≡ Some y)
find_contained p [] x c h = absurd (omega (arith, c.1))
find_contained p (y ∷ ys) x (zero, short, is) h = (y, ap (λ b. cond b (Some y) (find p ys)) (ap p is ∙ h))
find_contained p (y ∷ ys) x (suc k, short, is) h = by (find_contained p ys x (k, omega arith, is) h) (p y)
  where
    by : (z : PkgRecord) × (find p ys ≡ Some z) → (b : Bool) → (z : PkgRecord) × (cond b (Some y) (find p ys) ≡ Some z)
    by more true = (y, refl)
    by more false = more

named_itself : (pkg : PkgRecord) → is_named pkg.name pkg ≡ true
named_itself pkg = nat_list_eq_equiv.refl (name_of pkg)

-- one more record doesn't change the first channel of a name that is known
stays : (before : List PkgRecord) (pkg x : PkgRecord) → Contains before x → is_shown (before ++ pkg ∷ []) x ≡ is_shown before x
stays before pkg x c =
    let there = find_contained (is_named x.name) before x c (named_itself x) in
    let old : first_of before (name_of x) ≡ Some (there.0).channel = ap (option_map (λ (pkg : PkgRecord). pkg.channel)) there.1 in
    let new : first_of (before ++ pkg ∷ []) (name_of x) ≡ Some (there.0).channel =
    first_more before pkg (name_of x)
    ∙ ap (λ o. cond (is_text (name_of pkg) (name_of x)) (Some (unwrap_or o pkg.channel)) o) old
    ∙ either (is_text (name_of pkg) (name_of x)) (Some (there.0).channel)
    in
    ap (λ o. not (is_virtual_name x.name) && is_of o x) (new ∙ sym old)
  where
    either : (b : Bool) (o : Option (List ℕ)) → cond b o o ≡ o
    either true o = refl
    either false o = refl

pub shown_more : (before : List PkgRecord) (pkg : PkgRecord)
    → shown (before ++ pkg ∷ []) ≡ shown before ++ cond (is_kept (first_of before (name_of pkg)) pkg) (pkg ∷ []) []
shown_more before pkg =
    filter-append (is_shown (before ++ pkg ∷ [])) before (pkg ∷ [])
    ∙ ap (λ l. l ++ filter (is_shown (before ++ pkg ∷ [])) (pkg ∷ []))
    (filter_same (is_shown (before ++ pkg ∷ [])) (is_shown before) before
    (recursion_from_All (λ x. is_shown (before ++ pkg ∷ []) x ≡ is_shown before x) before
    (All-weaker (Contains before) (λ x. is_shown (before ++ pkg ∷ []) x ≡ is_shown before x) (stays before pkg) before (All-contains_itself before))))
    ∙ ap (λ b. shown before ++ cond b (pkg ∷ []) []) own
  where
    own : is_shown (before ++ pkg ∷ []) pkg ≡ is_kept (first_of before (name_of pkg)) pkg
    own =
        ap (λ o. not (is_virtual_name pkg.name) && is_of o pkg)
        (first_more before pkg (name_of pkg)
        ∙ ap (λ b. cond b (Some (unwrap_or (first_of before (name_of pkg)) pkg.channel)) (first_of before (name_of pkg))) (named_itself pkg))

-- of one name the first channels are one
alike_first : (before : List PkgRecord) (own name channel : List ℕ) (other : Option (List ℕ))
    → cond (is_text own name) (Some (unwrap_or (first_of before own) channel)) other
    ≡ cond (is_text own name) (Some (unwrap_or (first_of before name) channel)) other
alike_first before own name channel other = by (is_text own name) refl
  where
    by : (b : Bool) → is_text own name ≡ b
        → cond b (Some (unwrap_or (first_of before own) channel)) other ≡ cond b (Some (unwrap_or (first_of before name) channel)) other
    by true e = ap (λ n. Some (unwrap_or (first_of before n) channel)) (same_text own name e)
    by false e = refl

-- what was gathered, after one more record
pub gathered_more : (before : List PkgRecord) (pkg : PkgRecord) (old new : Gathered) → IsGathered before old
    → ((other : List ℕ) → get (pointwise nat_eq) new.firsts other
    ≡ cond (pointwise nat_eq (name_of pkg) other) (Some (unwrap_or (get (pointwise nat_eq) old.firsts (name_of pkg)) pkg.channel))
    (get (pointwise nat_eq) old.firsts other))
    → (keeps : Bool) → keeps ≡ is_kept (get (pointwise nat_eq) old.firsts (name_of pkg)) pkg
    → new.records.items ≡ old.records.items ++ cond keeps (pkg ∷ []) []
    → IsGathered (before ++ pkg ∷ []) new
gathered_more before pkg old new g known keeps e items = record {
  firsts = λ name.
      known name
      ∙ ap (λ o. cond (is_text (name_of pkg) name) (Some (unwrap_or o pkg.channel)) (get (pointwise nat_eq) old.firsts name)) (g.firsts (name_of pkg))
      ∙ ap (cond (is_text (name_of pkg) name) (Some (unwrap_or (first_of before (name_of pkg)) pkg.channel))) (g.firsts name)
      ∙ alike_first before (name_of pkg) name pkg.channel (first_of before name)
      ∙ sym (first_more before pkg name);
  kept =
      items ∙ ap (λ l. l ++ cond keeps (pkg ∷ []) []) g.kept
      ∙ ap (λ b. shown before ++ cond b (pkg ∷ []) []) (e ∙ ap (λ o. is_kept o pkg) (g.firsts (name_of pkg)))
      ∙ sym (shown_more before pkg);
}

-- ---- virtual packages

pub virtual_more : (before : List Virtual) (virtual : Virtual)
    → virtual_records (before ++ virtual ∷ [])
    ≡ virtual_records before ++ cond (is_virtual_name virtual.name) (virtual_record virtual ∷ []) []
virtual_more before virtual =
    ap (filter (λ (pkg : PkgRecord). is_virtual_name pkg.name)) (map-append virtual_record before (virtual ∷ []))
    ∙ filter-append (λ (pkg : PkgRecord). is_virtual_name pkg.name) (map virtual_record before) (virtual_record virtual ∷ [])

-- ---- the records of a pool

never : {X : Type 0} (xs : List X) → filter (λ _. false) xs ≡ []
never [] = refl
never (x ∷ xs) = never xs

none_and : (b : Bool) → (b && false) ≡ false
none_and true = refl
none_and false = refl

-- a record of the name has the name of virtual packages where the name is one
virtual_alike : (name : List ℕ) (pkg : PkgRecord) → is_named name pkg ≡ true → is_virtual_name pkg.name ≡ is_virtual_name name
virtual_alike name pkg h = ap (λ n. starts_with nat_eq n (codes "__")) (named_alike name pkg h)

module _ (name : List ℕ) where
  -- of the records that aren't hidden none is virtual
  no_channel : (all : List PkgRecord) → is_virtual_name name ≡ true → filter (is_named name) (shown all) ≡ []
  no_channel all v = filter_twice (is_named name) (is_shown all) (λ _. false) none all ∙ never all
    where
      none : (pkg : PkgRecord) → (is_shown all pkg && is_named name pkg) ≡ false
      none pkg = by (is_named name pkg) refl
        where
          by : (b : Bool) → is_named name pkg ≡ b → (is_shown all pkg && b) ≡ false
          by true e = ap (λ w. (not w && is_of (first_channel all pkg.name) pkg) && true) (virtual_alike name pkg e ∙ v)
          by false e = none_and (is_shown all pkg)

  all_virtual : (records : List PkgRecord) → is_virtual_name name ≡ true
      → filter (is_named name) (filter (λ (pkg : PkgRecord). is_virtual_name pkg.name) records) ≡ filter (is_named name) records
  all_virtual records v = filter_twice (is_named name) (λ (pkg : PkgRecord). is_virtual_name pkg.name) (is_named name) same records
    where
      same : (pkg : PkgRecord) → (is_virtual_name pkg.name && is_named name pkg) ≡ is_named name pkg
      same pkg = by (is_named name pkg) refl
        where
          by : (b : Bool) → is_named name pkg ≡ b → (is_virtual_name pkg.name && b) ≡ b
          by true e = ap (λ w. w && true) (virtual_alike name pkg e ∙ v)
          by false e = none_and (is_virtual_name pkg.name)

  of_channel : (all : List PkgRecord) → is_virtual_name name ≡ false → filter (is_named name) (shown all) ≡ channel_pool all name
  of_channel all v =
      filter_twice (is_named name) (is_shown all) (λ (pkg : PkgRecord). is_named name pkg && is_of (first_channel all name) pkg) same all
    where
      same : (pkg : PkgRecord) → (is_shown all pkg && is_named name pkg) ≡ (is_named name pkg && is_of (first_channel all name) pkg)
      same pkg = by (is_named name pkg) refl
        where
          and_true : (b : Bool) → (b && true) ≡ b
          and_true true = refl
          and_true false = refl

          by : (b : Bool) → is_named name pkg ≡ b → (is_shown all pkg && b) ≡ (b && is_of (first_channel all name) pkg)
          by true e =
              and_true (is_shown all pkg)
              ∙ ap (λ w. not w && is_of (first_channel all pkg.name) pkg) (virtual_alike name pkg e ∙ v)
              ∙ ap (λ n. is_of (first_of all n) pkg) (named_alike name pkg e)
          by false e = none_and (is_shown all pkg)

  no_virtual : (records : List PkgRecord) → is_virtual_name name ≡ false
      → filter (is_named name) (filter (λ (pkg : PkgRecord). is_virtual_name pkg.name) records) ≡ []
  no_virtual records v =
      filter_twice (is_named name) (λ (pkg : PkgRecord). is_virtual_name pkg.name) (λ _. false) none records ∙ never records
    where
      none : (pkg : PkgRecord) → (is_virtual_name pkg.name && is_named name pkg) ≡ false
      none pkg = by (is_named name pkg) refl
        where
          by : (b : Bool) → is_named name pkg ≡ b → (is_virtual_name pkg.name && b) ≡ false
          by true e = ap (λ w. w && true) (virtual_alike name pkg e ∙ v)
          by false e = none_and (is_virtual_name pkg.name)

  -- the records of the name among those that aren't hidden and those of virtual packages
  pub pool_given : (parts : List Repodata) (virtuals : List Virtual)
      → filter (is_named name) (shown (given parts) ++ virtual_records virtuals) ≡ pool_records parts virtuals name
  pool_given parts virtuals =
      filter-append (is_named name) (shown (given parts)) (virtual_records virtuals) ∙ by (is_virtual_name name) refl
    where
      by : (b : Bool) → is_virtual_name name ≡ b
          → filter (is_named name) (shown (given parts)) ++ filter (is_named name) (virtual_records virtuals)
          ≡ cond b (filter (is_named name) (map virtual_record virtuals)) (channel_pool (given parts) name)
      by true e =
          ap (λ l. l ++ filter (is_named name) (virtual_records virtuals)) (no_channel (given parts) e)
          ∙ all_virtual (map virtual_record virtuals) e
      by false e =
          ap (λ l. filter (is_named name) (shown (given parts)) ++ l) (no_virtual (map virtual_record virtuals) e)
          ∙ append-nil (filter (is_named name) (shown (given parts))) ∙ of_channel (given parts) e
