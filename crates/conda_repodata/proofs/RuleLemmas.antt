-- What is read of a text whose names ascend is what the text means, and nothing else is.
use Rattle.std.specs.Prelude.{◌≡◌, ◌↔◌, ◌≤◌, ◌<◌, ℕ, Bool, true, false, cond, not, if◌then◌else◌, List, [], ◌∷◌, ◌++◌, map, codes, Option, None, Some, option_and_then, unwrap_or, Ok, Err, IsOk}
use Rattle.std.proofs.Common.{refl, ap, sym, ◌∙◌, subst, inl, inr, ◌⊎◌, arith}
use Rattle.std.proofs.lemmas.Bool.{true≢false}
use Rattle.std.proofs.lemmas.Cmp.{nat_list_cmp_total, tied_itself}
use Rattle.std.proofs.lemmas.Map.Lookups.{exact_bytes}
use Rattle.std.specs.Cmp.Lexicographic.{slice_cmp}
use Rattle.std.specs.List.{Contains}
use Rattle.std.specs.List.Sorted.{IsStrictlySortedBy}
use Rattle.std.specs.Option.{ok_or, option_map_or}
use Rattle.std.specs.Ordering.{eq_by_cmp, is_eq, match_ordering, nat_cmp}
use Rattle.std.specs.declared.cmp.Ordering.{Ordering}
use Rattle.std.specs.declared.cmp.Ordering.TheVariants.{Less, Equal, Greater}
use Rattle.serde_json.specs.Data.{Data, null, boolean, number, string, array, object, Members, no_members, member}
use Rattle.serde_json.specs.Find.{as_object, get, get_member}
use Rattle.conda_base.specs.Reads.{Read, ◌>>=◌}
use Rattle.conda_json.specs.Fields.{is_absent, optional, or_fault}
use Rattle.conda_json.specs.Json.{KeysAscend, KeysAscendInMembers, object_at, object_read}
use Rattle.conda_json.specs.Shown.{bound, cleared}
use Rattle.conda_json.specs.declared.optional.Null.{Null}
use Rattle.conda_path.specs.Files.{IsFileOf}
use Rattle.conda_record.specs.declared.error.RecordField.{RecordField}
use Rattle.conda_record.specs.declared.pkg_record.PkgRecord.{PkgRecord}
use Rattle.conda_repodata.specs.Ascending.{ascending}
use Rattle.conda_repodata.specs.Entries.{aside_of, dist_of, entry_read, place_cmp, place_of, rank, section_name}
use Rattle.conda_repodata.specs.Reading.{all_records, all_unread, if_read, if_unread, records_of, repodata_of, repodata_read, repodata_with, section_field, section_read, unread_of}
use Rattle.conda_repodata.specs.Rules.{Entry, IsEntry, IsRepodata, IsTaken, IsUnread}
use Rattle.conda_repodata.specs.declared.aside.Aside.{Aside}
use Rattle.conda_repodata.specs.declared.aside.Section.{Section}
use Rattle.conda_repodata.specs.declared.aside.Unread.{Unread}
use Rattle.conda_repodata.specs.declared.error.RepodataField.{RepodataField}
use Rattle.conda_repodata.specs.declared.repodata.Repodata.{Repodata}
use Rattle.conda_repodata.proofs.AscendingLemmas.{IsIn, ascends, at, contains_at, first_kept, is_equal, same_at, same_list}
use Rattle.conda_repodata.proofs.EntryLemmas.{Before, InOrder, RecordLaw, entries_of, entry_at, entry_walked, members_at, named, of_each, ranked, walk, walk_in_order, walked_entry}
use Rattle.conda_repodata.proofs.OrderLemmas.{place_exact, place_total}

abbrev C : List ℕ → List ℕ → Ordering
C = slice_cmp nat_cmp

lt-le : (m n : ℕ) → m < n → m ≤ n
lt-le m n h = omega arith

lt-not_le : (m n : ℕ) → m < n → n ≤ m → ⊥
lt-not_le m n h k = omega arith

tied : (x y : List ℕ) → eq_by_cmp C x y ≡ true → x ≡ y
tied x y h = exact_bytes x y (is_equal (C x y) h)

untied : (x y : List ℕ) → eq_by_cmp C x y ≡ false → x ≡ y → ⊥
untied x y h same = true≢false (sym (ap is_eq (subst (λ z. C x z ≡ Equal) same (tied_itself nat_list_cmp_total x))) ∙ h)

-- the entry's record, or what is wrong with it
abbrev reads : List ℕ → List ℕ → Entry → Read PkgRecord RecordField
reads channel subdir e = entry_read channel subdir e.file e.value

module _ (channel subdir : List ℕ) where
  -- ---- the records of entries

  abbrev good : List Entry → List PkgRecord
  good [] = []
  good (e ∷ es) = if_read (reads channel subdir e) (good es)

  good-append : (s : Section) (ms : Members) (es : List Entry) → records_of channel subdir ms ++ good es ≡ good (entries_of s ms ++ es)
  good-append s no_members es = refl
  good-append s (member file value rest) es = by (entry_read channel subdir file value) (good-append s rest es)
    where
      by : (r : Read PkgRecord RecordField) → records_of channel subdir rest ++ good es ≡ good (entries_of s rest ++ es)
          → if_read r (records_of channel subdir rest) ++ good es ≡ if_read r (good (entries_of s rest ++ es))
      by (Ok pkg) e = ap (λ r. pkg ∷ r) e
      by (Err field) e = e

  good_is : (s : Section) (ms : Members) → records_of channel subdir ms ≡ good (entries_of s ms)
  good_is s no_members = refl
  good_is s (member file value rest) = ap (if_read (entry_read channel subdir file value)) (good_is s rest)

  records_are : (packages conda : Members)
      → all_records channel subdir packages conda ≡ good (walk packages conda)
  records_are packages conda =
      ap (λ r. records_of channel subdir conda ++ r) (good_is Section.Packages packages)
      ∙ good-append Section.PackagesConda conda (entries_of Section.Packages packages)

  abbrev found : List ℕ → List Entry → Option PkgRecord
  found dist es = at nat_list_cmp_total dist_of dist (good es)

  -- the record is that of an entry, and of the entries of its dist none has a lesser rank
  record IsLeast (es : List Entry) (pkg : PkgRecord) : Type 0 where
    entry : Entry
    is_in : IsIn entry es
    is : reads channel subdir entry ≡ Ok pkg
    least : (other : Entry) (p : PkgRecord) → IsIn other es → reads channel subdir other ≡ Ok p → p.dist ≡ pkg.dist
        → rank entry.section entry.file ≤ rank other.section other.file

  behind_another : (first : Entry) (es : List Entry) (pkg : PkgRecord)
      → ((p : PkgRecord) → reads channel subdir first ≡ Ok p → p.dist ≡ pkg.dist → ⊥) → IsLeast es pkg → IsLeast (first ∷ es) pkg
  behind_another first es pkg apart l = record { entry = l.entry; is_in = inr l.is_in; is = l.is; least = by }
    where
      by : (other : Entry) (p : PkgRecord) → (other ≡ first) ⊎ IsIn other es → reads channel subdir other ≡ Ok p → p.dist ≡ pkg.dist
          → rank l.entry.section l.entry.file ≤ rank other.section other.file
      by other p (inl e) r same = absurd (apart p (ap (reads channel subdir) (sym e) ∙ r) same)
      by other p (inr i) r same = l.least other p i r same

  module _ (law : RecordLaw) where
    -- entries of one dist
    in_turn : (a b : Entry) (p q : PkgRecord) (dist : List ℕ) → reads channel subdir a ≡ Ok p → reads channel subdir b ≡ Ok q
        → p.dist ≡ dist → q.dist ≡ dist → Before a b
        → rank a.section a.file < rank b.section b.file
    in_turn a b p q dist r s d e before =
        ranked a b dist (subst (IsFileOf a.file) d (named law channel subdir a.file a.value p r))
        (subst (IsFileOf b.file) e (named law channel subdir b.file b.value q s)) before

    found_least : (es : List Entry) → InOrder es → (pkg : PkgRecord) → found pkg.dist es ≡ Some pkg → IsLeast es pkg
    found_least [] order pkg e = cc e
    found_least (first ∷ es) order pkg e = by (reads channel subdir first) refl e (found_least es order.1 pkg)
      where
        here : (p : PkgRecord) → reads channel subdir first ≡ Ok p → p ≡ pkg → (other : Entry) (q : PkgRecord)
            → (other ≡ first) ⊎ IsIn other es → reads channel subdir other ≡ Ok q → q.dist ≡ pkg.dist
            → rank first.section first.file ≤ rank other.section other.file
        here p is same other q (inl e) r d =
            subst (λ (x : Entry). rank first.section first.file ≤ rank x.section x.file) (sym e) (omega arith)
        here p is same other q (inr i) r d =
            lt-le (rank first.section first.file) (rank other.section other.file)
            (in_turn first other p q pkg.dist is r (ap (λ (x : PkgRecord). x.dist) same) d (of_each (Before first) other es order.0 i))

        one : (p : PkgRecord) → reads channel subdir first ≡ Ok p → (b : Bool) → eq_by_cmp C pkg.dist p.dist ≡ b
            → cond b (Some p) (found pkg.dist es) ≡ Some pkg
            → (found pkg.dist es ≡ Some pkg → IsLeast es pkg) → IsLeast (first ∷ es) pkg
        one p is true t e more =
            let same : p ≡ pkg = cc e in record { entry = first; is_in = inl refl; is = is ∙ ap Ok same; least = here p is same }
        one p is false t e more =
            behind_another first es pkg (λ q r d. let same : p ≡ q = cc (is, r) in untied pkg.dist p.dist t
            (sym d ∙ ap (λ (x : PkgRecord). x.dist) (sym same))) (more e)

        by : (r : Read PkgRecord RecordField) → reads channel subdir first ≡ r
            → at nat_list_cmp_total dist_of pkg.dist (if_read r (good es)) ≡ Some pkg
            → (found pkg.dist es ≡ Some pkg → IsLeast es pkg) → IsLeast (first ∷ es) pkg
        by (Ok p) is e more = one p is (eq_by_cmp C pkg.dist p.dist) refl e more
        by (Err field) is e more = behind_another first es pkg (λ q r d. cc (is, r)) (more e)

    least_found : (es : List Entry) → InOrder es → (pkg : PkgRecord) → IsLeast es pkg → found pkg.dist es ≡ Some pkg
    least_found [] order pkg l = absurd l.is_in
    least_found (first ∷ es) order pkg l = by l.is_in (least_found es order.1 pkg)
      where
        itself : at nat_list_cmp_total dist_of pkg.dist (pkg ∷ good es) ≡ Some pkg
        itself = ap (λ o. cond (is_eq o) (Some pkg) (found pkg.dist es)) (tied_itself nat_list_cmp_total pkg.dist)

        behind : IsIn l.entry es → IsLeast es pkg
        behind i = record { entry = l.entry; is_in = i; is = l.is; least = λ other p j r d. l.least other p (inr j) r d }

        one : (p : PkgRecord) → reads channel subdir first ≡ Ok p → IsIn l.entry es → found pkg.dist es ≡ Some pkg → (b : Bool)
            → eq_by_cmp C pkg.dist p.dist ≡ b → cond b (Some p) (found pkg.dist es) ≡ Some pkg
        one p is i e true t =
            let d : p.dist ≡ pkg.dist = sym (tied pkg.dist p.dist t) in
            absurd (lt-not_le (rank first.section first.file) (rank l.entry.section l.entry.file)
            (in_turn first l.entry p pkg pkg.dist is l.is d refl (of_each (Before first) l.entry es order.0 i))
            (l.least first p (inl refl) is d))
        one p is i e false t = e

        rest : (r : Read PkgRecord RecordField) → reads channel subdir first ≡ r → IsIn l.entry es → found pkg.dist es ≡ Some pkg
            → at nat_list_cmp_total dist_of pkg.dist (if_read r (good es)) ≡ Some pkg
        rest (Ok p) is i e = one p is i e (eq_by_cmp C pkg.dist p.dist) refl
        rest (Err field) is i e = e

        by : (l.entry ≡ first) ⊎ IsIn l.entry es → (IsLeast es pkg → found pkg.dist es ≡ Some pkg) → found pkg.dist (first ∷ es) ≡ Some pkg
        by (inl e) more =
            ap (λ r. at nat_list_cmp_total dist_of pkg.dist (if_read r (good es))) (ap (reads channel subdir) (sym e) ∙ l.is) ∙ itself
        by (inr i) more = rest (reads channel subdir first) refl i (more (behind i))

  -- ---- the entries that are none

  abbrev bad : List Entry → List Unread
  bad [] = []
  bad (e ∷ es) = if_unread e.section e.file (reads channel subdir e) (bad es)

  bad-append : (s : Section) (ms : Members) (es : List Entry) → unread_of s channel subdir ms ++ bad es ≡ bad (entries_of s ms ++ es)
  bad-append s no_members es = refl
  bad-append s (member file value rest) es = by (entry_read channel subdir file value) (bad-append s rest es)
    where
      by : (r : Read PkgRecord RecordField) → unread_of s channel subdir rest ++ bad es ≡ bad (entries_of s rest ++ es)
          → if_unread s file r (unread_of s channel subdir rest) ++ bad es ≡ if_unread s file r (bad (entries_of s rest ++ es))
      by (Ok pkg) e = e
      by (Err field) e = ap (λ r. record { file = file; section = s; field = field } ∷ r) e

  bad_is : (s : Section) (ms : Members) → unread_of s channel subdir ms ≡ bad (entries_of s ms)
  bad_is s no_members = refl
  bad_is s (member file value rest) = ap (if_unread s file (entry_read channel subdir file value)) (bad_is s rest)

  unread_are : (packages conda : Members) → all_unread channel subdir packages conda ≡ bad (walk packages conda)
  unread_are packages conda =
      ap (λ r. unread_of Section.PackagesConda channel subdir conda ++ r) (bad_is Section.Packages packages)
      ∙ bad-append Section.PackagesConda conda (entries_of Section.Packages packages)

  abbrev missed : List ℕ × Section → List Entry → Option Unread
  missed place es = at place_total place_of place (bad es)

  -- an entry stands at this place, and this is first wrong with it
  abbrev IsMissed : List Entry → Unread → Type 0
  IsMissed es u = (value : Data) × IsIn (entry_at u.section u.file value) es × (entry_read channel subdir u.file value ≡ Err u.field)

  missed_is : (es : List Entry) (u : Unread) → missed (place_of u) es ≡ Some u → IsMissed es u
  missed_is [] u e = cc e
  missed_is (first ∷ es) u e = by (reads channel subdir first) refl e (missed_is es u)
    where
      later : IsMissed es u → IsMissed (first ∷ es) u
      later m = (m.0, inr m.1, m.2)

      one : (field : RecordField) → reads channel subdir first ≡ Err field → (b : Bool)
          → cond b (Some (record { file = first.file; section = first.section; field = field })) (missed (place_of u) es) ≡ Some u
          → (missed (place_of u) es ≡ Some u → IsMissed es u) → IsMissed (first ∷ es) u
      one field is true e more =
          let this : Unread = record { file = first.file; section = first.section; field = field } in
          let same : this ≡ u = cc e in
          subst (IsMissed (first ∷ es)) same (first.value, inl refl, is)
      one field is false e more = later (more e)

      by : (r : Read PkgRecord RecordField) → reads channel subdir first ≡ r
          → at place_total place_of (place_of u) (if_unread first.section first.file r (bad es)) ≡ Some u
          → (missed (place_of u) es ≡ Some u → IsMissed es u) → IsMissed (first ∷ es) u
      by (Ok p) is e more = later (more e)
      by (Err field) is e more = one field is (eq_by_cmp place_cmp (place_of u) (first.file, first.section)) e more

  -- no two entries stand at one place
  apart : (a b : Entry) → Before a b → b.file ≡ a.file → b.section ≡ a.section → ⊥
  apart a b (inl h) file section =
      let tie : C a.file b.file ≡ Equal = ap (C a.file) file ∙ tied_itself nat_list_cmp_total a.file in cc (tie, h.1)
  apart a b (inr h) file section = cc (section, h.0, h.1)

  is_missed : (es : List Entry) → InOrder es → (u : Unread) → IsMissed es u → missed (place_of u) es ≡ Some u
  is_missed [] order u m = absurd m.1
  is_missed (first ∷ es) order u m = by m.1 (λ i. is_missed es order.1 u (m.0, i, m.2))
    where
      here : missed (place_of u) (entry_at u.section u.file m.0 ∷ es) ≡ Some u
      here = ap (λ r. at place_total place_of (place_of u) (if_unread u.section u.file r (bad es))) m.2
          ∙ ap (λ o. cond (is_eq o) (Some u) (missed (place_of u) es)) (tied_itself place_total (place_of u))

      one : (field : RecordField) → IsIn (entry_at u.section u.file m.0) es → missed (place_of u) es ≡ Some u → (b : Bool)
          → eq_by_cmp place_cmp (place_of u) (first.file, first.section) ≡ b
          → cond b (Some (record { file = first.file; section = first.section; field = field })) (missed (place_of u) es) ≡ Some u
      one field i e true t =
          let same =
          place_exact (place_of u) (first.file, first.section) (is_equal (place_cmp (place_of u) (first.file, first.section)) t)
          in
          absurd (apart first (entry_at u.section u.file m.0) (of_each (Before first) (entry_at u.section u.file m.0) es order.0 i)
          (ap (λ (p : List ℕ × Section). p.0) same) (ap (λ (p : List ℕ × Section). p.1) same))
      one field i e false t = e

      rest : (r : Read PkgRecord RecordField) → IsIn (entry_at u.section u.file m.0) es → missed (place_of u) es ≡ Some u
          → at place_total place_of (place_of u) (if_unread first.section first.file r (bad es)) ≡ Some u
      rest (Ok p) i e = e
      rest (Err field) i e = one field i e (eq_by_cmp place_cmp (place_of u) (first.file, first.section)) refl

      by : (entry_at u.section u.file m.0 ≡ first) ⊎ IsIn (entry_at u.section u.file m.0) es
          → (IsIn (entry_at u.section u.file m.0) es → missed (place_of u) es ≡ Some u) → missed (place_of u) (first ∷ es) ≡ Some u
      by (inl same) more = subst (λ e. missed (place_of u) (e ∷ es) ≡ Some u) same here
      by (inr i) more = rest (reads channel subdir first) i (more i)

-- ---- the two objects

-- what is read of a field that may be absent
abbrev section_of : Option Data → List ℕ → RepodataField → Read Members RepodataField
section_of o name field =
    or_fault (if option_map_or (λ value. not (is_absent Null.Bad value)) o false then ok_or (option_and_then as_object o) name
    >>= (λ members. Ok (Some members)) else Ok None) field
    >>= (λ members. Ok (unwrap_or members no_members))

-- its members, and that their names ascend
abbrev IsSection : Option Data → Members → Type 0
IsSection o ms =
    ((file : List ℕ) → option_and_then (get file) o ≡ get_member file ms)
    × (((value : Data) → o ≡ Some value → KeysAscend value) → KeysAscendInMembers ms)

section_is : (o : Option Data) (name : List ℕ) (field : RepodataField) (ms : Members) → section_of o name field ≡ Ok ms → IsSection o ms
section_is None name field ms e =
    let same : no_members ≡ ms = cc e in (λ file. ap (get_member file) same, λ h. subst KeysAscendInMembers same tt)
section_is (Some null) name field ms e = cc e
section_is (Some (boolean b)) name field ms e = cc e
section_is (Some (number n)) name field ms e = cc e
section_is (Some (string t)) name field ms e = cc e
section_is (Some (array items)) name field ms e = cc e
section_is (Some (object members)) name field ms e =
    let same : members ≡ ms = cc e in (λ file. ap (get_member file) same, λ h. subst KeysAscendInMembers same (h (object members) refl))

member_ascends : (name : List ℕ) (value : Data) (ms : Members) → KeysAscendInMembers ms → get_member name ms ≡ Some value → KeysAscend value
member_ascends name value no_members all e = cc e
member_ascends name value (member next old rest) all e = by (C name next) e (member_ascends name value rest all.2)
  where
    by : (o : Ordering) → match_ordering o (get_member name rest) (Some old) (get_member name rest) ≡ Some value
        → (get_member name rest ≡ Some value → KeysAscend value) → KeysAscend value
    by Less e more = more e
    by Equal e more = let same : old ≡ value = cc e in subst KeysAscend same all.1
    by Greater e more = more e

field_ascends : (text : Data) → KeysAscend text → (name : List ℕ) (value : Data) → get name text ≡ Some value → KeysAscend value
field_ascends null h name value e = cc e
field_ascends (boolean b) h name value e = cc e
field_ascends (number n) h name value e = cc e
field_ascends (string t) h name value e = cc e
field_ascends (array items) h name value e = cc e
field_ascends (object members) h name value e = member_ascends name value members h e

ok_there : {A : Type 0} (r : Read (Option Members) A) (field : RepodataField) (ms : Members)
    → (or_fault r field >>= (λ members. Ok (unwrap_or members no_members))) ≡ Ok ms → IsOk r
ok_there (Ok members) field ms e = refl
ok_there (Err name) field ms e = cc e

there_ok : {A : Type 0} (r : Read (Option Members) A) (field : RepodataField) → IsOk r
    → (ms : Members) × ((or_fault r field >>= (λ members. Ok (unwrap_or members no_members))) ≡ Ok ms)
there_ok (Ok members) field h = (unwrap_or members no_members, refl)
there_ok (Err name) field h = cc h

-- ---- the law

module _ (law : RecordLaw) (channel subdir : List ℕ) (text : Data) (ascend : KeysAscend text) where
  module _ (packages conda : Members) (first : section_read text Section.Packages ≡ Ok packages)
      (second : section_read text Section.PackagesConda ≡ Ok conda) where
    sections : (s : Section) → IsSection (get (section_name s) text) (members_at s packages conda)
    sections Section.Packages =
        section_is (get (section_name Section.Packages) text) (section_name Section.Packages)
        (section_field Section.Packages) packages first
    sections Section.PackagesConda =
        section_is (get (section_name Section.PackagesConda) text) (section_name Section.PackagesConda)
        (section_field Section.PackagesConda) conda second

    ascending_at : (s : Section) → KeysAscendInMembers (members_at s packages conda)
    ascending_at s = (sections s).1 (λ value e. field_ascends text ascend (section_name s) value e)

    entries : List Entry
    entries = walk packages conda

    order : InOrder (walk packages conda)
    order = walk_in_order packages conda (ascending_at Section.Packages) (ascending_at Section.PackagesConda)

    stands_in : (e : Entry) → IsEntry text e → IsIn e (walk packages conda)
    stands_in e h = entry_walked packages conda e.section e.file e.value (sym ((sections e.section).0 e.file) ∙ h)

    in_stands : (e : Entry) → IsIn e (walk packages conda) → IsEntry text e
    in_stands e i =
        (sections e.section).0 e.file ∙ walked_entry packages conda (ascending_at Section.Packages)
        (ascending_at Section.PackagesConda) e.section e.file e.value i

    taken_least : (pkg : PkgRecord) → IsTaken text channel subdir pkg → IsLeast channel subdir (walk packages conda) pkg
    taken_least pkg t = record {
      entry = t.entry;
      is_in = stands_in t.entry t.stands;
      is = t.reads;
      least = λ other p i r d. t.first other p (in_stands other i) r d;
    }

    least_taken : (pkg : PkgRecord) → IsLeast channel subdir (walk packages conda) pkg → IsTaken text channel subdir pkg
    least_taken pkg l = record {
      entry = l.entry;
      stands = in_stands l.entry l.is_in;
      reads = l.is;
      first = λ other p s r d. l.least other p (stands_in other s) r d;
    }

    -- the records and the entries that are none, in order
    abbrev recs : List PkgRecord
    recs = ascending C dist_of (all_records channel subdir packages conda)

    abbrev unread : List Unread
    unread = ascending place_cmp place_of (all_unread channel subdir packages conda)

    by_dist : IsStrictlySortedBy C (map dist_of recs)
    by_dist = ascends nat_list_cmp_total dist_of exact_bytes (all_records channel subdir packages conda)

    by_file : IsStrictlySortedBy place_cmp (map place_of unread)
    by_file = ascends place_total place_of place_exact (all_unread channel subdir packages conda)

    taken : (pkg : PkgRecord) → Contains recs pkg ↔ IsTaken text channel subdir pkg
    taken pkg =
        let has = contains_at nat_list_cmp_total dist_of recs by_dist pkg in
        let same : at nat_list_cmp_total dist_of pkg.dist recs ≡ found channel subdir pkg.dist (walk packages conda) =
        first_kept nat_list_cmp_total dist_of exact_bytes (all_records channel subdir packages conda) pkg.dist
        ∙ ap (at nat_list_cmp_total dist_of pkg.dist) (records_are channel subdir packages conda)
        in (
          λ c. least_taken pkg (found_least channel subdir law (walk packages conda) order pkg (sym same ∙ has.0 c)),
          λ t. has.1 (same ∙ least_found channel subdir law (walk packages conda) order pkg (taken_least pkg t)),
        )

    set_aside : (u : Unread) → Contains unread u ↔ IsUnread text channel subdir u
    set_aside u =
        let has = contains_at place_total place_of unread by_file u in
        let same : at place_total place_of (place_of u) unread ≡ missed channel subdir (place_of u) (walk packages conda) =
        first_kept place_total place_of place_exact (all_unread channel subdir packages conda) (place_of u)
        ∙ ap (at place_total place_of (place_of u)) (unread_are channel subdir packages conda)
        in (
          λ c. let m = missed_is channel subdir (walk packages conda) u (sym same ∙ has.0 c) in
              (m.0, in_stands (entry_at u.section u.file m.0) m.1, m.2),
          λ t. has.1 (same ∙ is_missed channel subdir (walk packages conda) order u
              (t.0, stands_in (entry_at u.section u.file t.0) t.1, t.2)),
        )

    meant : IsRepodata text channel subdir (repodata_with channel subdir packages conda)
    meant = record {
      unread = unread;
      packages = ok_there (optional object_at Null.Bad (codes "packages") text) RepodataField.Packages packages first;
      packages_conda = ok_there (optional object_at Null.Bad (codes "packages.conda") text) RepodataField.PackagesConda conda second;
      taken = taken;
      by_dist = by_dist;
      set_aside = set_aside;
      by_file = by_file;
      shown = refl;
    }

  -- a text means one repodata
  unique : (a b : Repodata) → IsRepodata text channel subdir a → IsRepodata text channel subdir b → a ≡ b
  unique a b h k =
      let recs : a.recs ≡ b.recs = same_list nat_list_cmp_total dist_of exact_bytes a.recs b.recs h.by_dist k.by_dist
      (same_at nat_list_cmp_total dist_of a.recs b.recs (λ pkg.
      let p = contains_at nat_list_cmp_total dist_of a.recs h.by_dist pkg in
      let q = contains_at nat_list_cmp_total dist_of b.recs k.by_dist pkg in
      (λ e. q.0 ((k.taken pkg).1 ((h.taken pkg).0 (p.1 e))), λ e. p.0 ((h.taken pkg).1 ((k.taken pkg).0 (q.1 e)))))) in
      let unread : h.unread ≡ k.unread = same_list place_total place_of place_exact h.unread k.unread h.by_file k.by_file
      (same_at place_total place_of h.unread k.unread (λ u.
      let p = contains_at place_total place_of h.unread h.by_file u in
      let q = contains_at place_total place_of k.unread k.by_file u in
      (λ e. q.0 ((k.set_aside u).1 ((h.set_aside u).0 (p.1 e))), λ e. p.0 ((h.set_aside u).1 ((k.set_aside u).0 (q.1 e)))))) in
      let aside : a.aside ≡ b.aside = h.shown ∙ ap (map aside_of) unread ∙ sym k.shown in
      ap (λ r. repodata r a.aside) recs ∙ ap (λ s. repodata b.recs s) aside
    where
      repodata : List PkgRecord → List Aside → Repodata
      repodata recs aside = record { recs = recs; aside = aside }

  read_means : (made : Repodata) → repodata_of text channel subdir ≡ Ok made → IsRepodata text channel subdir made
  read_means made e =
      let p =
      bound (section_read text Section.Packages) (λ packages. section_read text Section.PackagesConda
      >>= (λ conda. Ok (repodata_with channel subdir packages conda))) made e
      in
      let q = bound (section_read text Section.PackagesConda) (λ conda. Ok (repodata_with channel subdir p.0 conda)) made p.2 in
      let same : repodata_with channel subdir p.0 q.0 ≡ made = cc q.2 in
      subst (IsRepodata text channel subdir) same (meant p.0 q.0 p.1 q.1)

  meant_reads : (made : Repodata) → IsRepodata text channel subdir made → repodata_of text channel subdir ≡ Ok made
  meant_reads made h =
      let p = there_ok (optional object_at Null.Bad (codes "packages") text) RepodataField.Packages h.packages in
      let q = there_ok (optional object_at Null.Bad (codes "packages.conda") text) RepodataField.PackagesConda h.packages_conda in
      ap (λ r. r >>= (λ packages. section_read text Section.PackagesConda
      >>= (λ conda. Ok (repodata_with channel subdir packages conda)))) p.1
      ∙ ap (λ r. r >>= (λ conda. Ok (repodata_with channel subdir p.0 conda))) q.1
      ∙ ap Ok (unique (repodata_with channel subdir p.0 q.0) made (meant p.0 q.0 p.1 q.1) h)

  pub repodata_law : (made : Repodata) → (repodata_of text channel subdir ≡ Ok made) ↔ IsRepodata text channel subdir made
  repodata_law made = (read_means made, meant_reads made)

pub bytes_law : RecordLaw → ((bytes : List ℕ) (text : Data) → object_read bytes ≡ Ok text → KeysAscend text)
    → (bytes channel subdir : List ℕ) (made : Repodata)
    → (repodata_read bytes channel subdir ≡ Ok made) ↔ ((text : Data) × (object_read bytes ≡ Ok text) × IsRepodata text channel subdir made)
bytes_law law ascend bytes channel subdir made =
    let read_on : Data → Read Repodata RepodataField = λ text. repodata_of text channel subdir in (
      λ e. let all = bound (or_fault (object_read bytes) RepodataField.Json) read_on made e in
          let text = cleared (object_read bytes) RepodataField.Json all.0 all.1 in
          (all.0, text, (repodata_law law channel subdir all.0 (ascend bytes all.0 text) made).0 all.2),
      λ h. ap (λ r. or_fault r RepodataField.Json >>= read_on) h.1
          ∙ (repodata_law law channel subdir h.0 (ascend bytes h.0 h.1) made).1 h.2,
    )
