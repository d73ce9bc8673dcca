-- The entries of the two objects in the order in which they are read, and that of those of one dist the better one stands before the other.
use Rattle.std.specs.Prelude.{◌≡◌, ℕ, ◌<◌, Bool, true, false, nat_eq, if◌then◌else◌, is_some, codes, List, [], ◌∷◌, ◌++◌, drop, length, ◌-◌, reverse, take, Some, Ok}
use Rattle.std.proofs.Common.{refl, ap, sym, ◌∙◌, subst, inl, inr, ◌⊎◌, arith}
use Rattle.std.proofs.lemmas.Bool.{true≢false}
use Rattle.std.proofs.lemmas.Bool.Decides.{Decides-eqb}
use Rattle.std.proofs.lemmas.Cmp.{nat_cmp_total, nat_list_cmp_total, tied_itself}
use Rattle.std.proofs.lemmas.List.{length-append, reverse-append, take-append-drop}
use Rattle.std.proofs.lemmas.Map.Lookups.{exact_bytes}
use Rattle.std.proofs.lemmas.Slice.Eq.{slice_eq-Decides}
use Rattle.std.proofs.Math.Nat.{add-sub_cancel}
use Rattle.std.proofs.Math.Seq.{drop-append_seam}
use Rattle.std.specs.Bool.{Decides}
use Rattle.std.specs.Cmp.Lexicographic.{pointwise, slice_cmp}
use Rattle.std.specs.List.{AllByRecursion, ends_with}
use Rattle.std.specs.Ordering.{match_ordering, nat_cmp, ordering_reverse, ordering_then}
use Rattle.std.specs.declared.cmp.Ordering.{Ordering}
use Rattle.std.specs.declared.cmp.Ordering.TheVariants.{Less, Equal, Greater}
use Rattle.serde_json.specs.Data.{Data, Members, no_members, member}
use Rattle.serde_json.specs.Find.{get_member}
use Rattle.conda_base.specs.Texts.{begins_with}
use Rattle.conda_json.specs.Json.{IsBelowFirst, KeysAscendInMembers}
use Rattle.conda_json.specs.Shown.{bound, guarded}
use Rattle.conda_base.specs.Reads.{Read, ◌>>=◌}
use Rattle.conda_path.specs.Dists.{names_file}
use Rattle.conda_path.specs.Files.{IsFileOf, cut_ending}
use Rattle.conda_record.specs.Records.{record_read}
use Rattle.conda_record.specs.Rules.{IsRecord, NamesDist}
use Rattle.conda_record.specs.declared.error.RecordField.{RecordField}
use Rattle.conda_record.specs.declared.pkg_record.PkgRecord.{PkgRecord}
use Rattle.conda_repodata.specs.Entries.{dated, entry_read, rank}
use Rattle.conda_repodata.specs.Rules.{Entry}
use Rattle.conda_repodata.specs.declared.aside.Section.{Section}
use Rattle.conda_repodata.proofs.AscendingLemmas.{IsIn}

abbrev C : List ℕ → List ℕ → Ordering
C = slice_cmp nat_cmp

-- ---- lists

each : {A : Type 0} {P Q : A → Type 0} (xs : List A) → ((x : A) → P x → Q x) → AllByRecursion P xs → AllByRecursion Q xs
each [] f h = tt
each (x ∷ xs) f h = (f x h.0, each xs f h.1)

each_of_both : {A : Type 0} (P : A → Type 0) (xs ys : List A) → AllByRecursion P xs → AllByRecursion P ys → AllByRecursion P (xs ++ ys)
each_of_both P [] ys a b = b
each_of_both P (x ∷ xs) ys a b = (a.0, each_of_both P xs ys a.1 b)

pub of_each : {A : Type 0} (P : A → Type 0) (x : A) (xs : List A) → AllByRecursion P xs → IsIn x xs → P x
of_each P x [] h i = absurd i
of_each P x (y ∷ ys) h (inl e) = subst P (sym e) h.0
of_each P x (y ∷ ys) h (inr i) = of_each P x ys h.1 i

in_first : {A : Type 0} (x : A) (xs ys : List A) → IsIn x xs → IsIn x (xs ++ ys)
in_first x [] ys i = absurd i
in_first x (z ∷ xs) ys (inl e) = inl e
in_first x (z ∷ xs) ys (inr i) = inr (in_first x xs ys i)

in_second : {A : Type 0} (x : A) (xs ys : List A) → IsIn x ys → IsIn x (xs ++ ys)
in_second x [] ys i = i
in_second x (z ∷ xs) ys i = inr (in_second x xs ys i)

in_either : {A : Type 0} (x : A) (xs ys : List A) → IsIn x (xs ++ ys) → IsIn x xs ⊎ IsIn x ys
in_either x [] ys i = inr i
in_either x (z ∷ xs) ys (inl e) = inl (inl e)
in_either x (z ∷ xs) ys (inr i) = by (in_either x xs ys i)
  where
    by : IsIn x xs ⊎ IsIn x ys → ((x ≡ z) ⊎ IsIn x xs) ⊎ IsIn x ys
    by (inl h) = inl (inr h)
    by (inr h) = inr h

-- ---- the entries of an object

abbrev pub entries_of : Section → Members → List Entry
entries_of section no_members = []
entries_of section (member file value rest) = record { section = section; file = file; value = value } ∷ entries_of section rest

abbrev pub entry_at : Section → List ℕ → Data → Entry
entry_at section file value = record { section = section; file = file; value = value }

-- those of both, as they are read
abbrev pub walk : Members → Members → List Entry
walk packages conda = entries_of Section.PackagesConda conda ++ entries_of Section.Packages packages

of_section : (s : Section) (ms : Members) → AllByRecursion (λ e. e.section ≡ s) (entries_of s ms)
of_section s no_members = tt
of_section s (member file value rest) = (refl, of_section s rest)

-- an entry stands before another one: in one object by the names of the files
abbrev pub Before : Entry → Entry → Type 0
Before a b = ((a.section ≡ b.section) × (C a.file b.file ≡ Less)) ⊎ ((a.section ≡ Section.PackagesConda) × (b.section ≡ Section.Packages))

abbrev pub InOrder : List Entry → Type 0
InOrder [] = Unit {0}
InOrder (e ∷ es) = AllByRecursion (Before e) es × InOrder es

above : (low : List ℕ) (s : Section) (ms : Members) → IsBelowFirst low ms → KeysAscendInMembers ms
    → AllByRecursion (λ e. C low e.file ≡ Less) (entries_of s ms)
above low s no_members below all = tt
above low s (member file value rest) below all =
    (below, each (entries_of s rest) (λ e h. nat_list_cmp_total.trans low file e.file below h) (above file s rest all.0 all.2))

behind : (s : Section) (file : List ℕ) (value : Data) (rest : Members) → IsBelowFirst file rest → KeysAscendInMembers rest
    → AllByRecursion (Before (entry_at s file value)) (entries_of s rest)
behind s file value rest below all = joined (entries_of s rest) (of_section s rest) (above file s rest below all)
  where
    joined : (es : List Entry) → AllByRecursion (λ e. e.section ≡ s) es → AllByRecursion (λ e. C file e.file ≡ Less) es
        → AllByRecursion (Before (entry_at s file value)) es
    joined [] a b = tt
    joined (e ∷ es) a b = (inl (sym a.0, b.0), joined es a.1 b.1)

in_order : (s : Section) (ms : Members) → KeysAscendInMembers ms → InOrder (entries_of s ms)
in_order s no_members all = tt
in_order s (member file value rest) all = (behind s file value rest all.0 all.2, in_order s rest all.2)

pub walk_in_order : (packages conda : Members) → KeysAscendInMembers packages → KeysAscendInMembers conda → InOrder (walk packages conda)
walk_in_order packages no_members p c = in_order Section.Packages packages p
walk_in_order packages (member file value rest) p c =
    let e : Entry = record { section = Section.PackagesConda; file = file; value = value } in (
      each_of_both (Before e) (entries_of Section.PackagesConda rest) (entries_of Section.Packages packages)
          (behind Section.PackagesConda file value rest c.0 c.2)
          (each (entries_of Section.Packages packages) (λ f h. inr (refl, h)) (of_section Section.Packages packages)),
      walk_in_order packages rest p c.2,
    )

-- ---- an entry of the text is one of these

member_in : (s : Section) (file : List ℕ) (value : Data) (ms : Members) → get_member file ms ≡ Some value
    → IsIn (entry_at s file value) (entries_of s ms)
member_in s file value no_members e = cc e
member_in s file value (member name old rest) e = by (C file name) refl e (member_in s file value rest)
  where
    by : (o : Ordering) → C file name ≡ o → match_ordering o (get_member file rest) (Some old) (get_member file rest) ≡ Some value
        → (get_member file rest ≡ Some value → IsIn (entry_at s file value) (entries_of s rest))
        → (entry_at s file value ≡ entry_at s name old) ⊎ IsIn (entry_at s file value) (entries_of s rest)
    by Less is e more = inr (more e)
    by Equal is e more =
        let v : value ≡ old = cc e in
        inl (ap (λ f. entry_at s f value) (exact_bytes file name is) ∙ ap (entry_at s name) v)
    by Greater is e more = inr (more e)

in_member : (s : Section) (file : List ℕ) (value : Data) (ms : Members) → KeysAscendInMembers ms
    → IsIn (entry_at s file value) (entries_of s ms) → get_member file ms ≡ Some value
in_member s file value no_members all i = absurd i
in_member s file value (member name old rest) all (inl e) =
    let f : name ≡ file = sym (ap (λ (e : Entry). e.file) e) in
    let same : C file name ≡ Equal = subst (λ n. C file n ≡ Equal) (sym f) (tied_itself nat_list_cmp_total file) in
    ap (λ o. match_ordering o (get_member file rest) (Some old) (get_member file rest)) same ∙ ap Some (sym (ap (λ (e : Entry). e.value) e))
in_member s file value (member name old rest) all (inr i) =
    let up : C name file ≡ Less =
    of_each (λ (e : Entry). C name e.file ≡ Less) (entry_at s file value) (entries_of s rest) (above name s rest all.0 all.2) i
    in
    let down : C file name ≡ Greater = nat_list_cmp_total.antisymm file name ∙ ap ordering_reverse up in
    ap (λ o. match_ordering o (get_member file rest) (Some old) (get_member file rest)) down ∙ in_member s file value rest all.2 i

-- the members of an entry's object
abbrev pub members_at : Section → Members → Members → Members
members_at Section.Packages packages conda = packages
members_at Section.PackagesConda packages conda = conda

pub entry_walked : (packages conda : Members) (s : Section) (file : List ℕ) (value : Data)
    → get_member file (members_at s packages conda) ≡ Some value
    → IsIn (entry_at s file value) (walk packages conda)
entry_walked packages conda Section.Packages file value e =
    in_second (entry_at Section.Packages file value) (entries_of Section.PackagesConda conda) (entries_of Section.Packages packages)
    (member_in Section.Packages file value packages e)
entry_walked packages conda Section.PackagesConda file value e =
    in_first (entry_at Section.PackagesConda file value) (entries_of Section.PackagesConda conda) (entries_of Section.Packages packages)
    (member_in Section.PackagesConda file value conda e)

pub walked_entry : (packages conda : Members) → KeysAscendInMembers packages → KeysAscendInMembers conda
    → (s : Section) (file : List ℕ) (value : Data)
    → IsIn (entry_at s file value) (walk packages conda) → get_member file (members_at s packages conda) ≡ Some value
walked_entry packages conda p c s file value i =
    by (in_either (entry_at s file value) (entries_of Section.PackagesConda conda) (entries_of Section.Packages packages) i)
  where
    at : (t : Section) (ms : Members) → KeysAscendInMembers ms → members_at t packages conda ≡ ms
        → IsIn (entry_at s file value) (entries_of t ms)
        → get_member file (members_at s packages conda) ≡ Some value
    at t ms all is i =
        let same : s ≡ t = of_each (λ (e : Entry). e.section ≡ t) (entry_at s file value) (entries_of t ms) (of_section t ms) i in
        ap (λ u. get_member file (members_at u packages conda)) same ∙ ap (get_member file) is
        ∙ in_member t file value ms all (subst (λ u. IsIn (entry_at u file value) (entries_of t ms)) same i)

    by : IsIn (entry_at s file value) (entries_of Section.PackagesConda conda)
        ⊎ IsIn (entry_at s file value) (entries_of Section.Packages packages)
        → get_member file (members_at s packages conda) ≡ Some value
    by (inl i) = at Section.PackagesConda conda c refl i
    by (inr i) = at Section.Packages packages p refl i

-- ---- the name of a file

-- what conda_record says of a record that is read
abbrev pub RecordLaw : Type 0
RecordLaw =
    (value : Data) (file channel subdir : List ℕ) (pkg : PkgRecord) → record_read value file channel subdir ≡ Ok pkg
    → IsRecord value file channel subdir pkg

-- the name of a package file is no dist
file_named : (file dist : List ℕ) → NamesDist file dist → names_file dist ≡ false → is_some (cut_ending file) ≡ true → IsFileOf file dist
file_named file dist (inl same) plain some = absurd (true≢false (sym some ∙ ap names_file same ∙ plain))
file_named file dist (inr file_of) plain some = file_of

pub named : RecordLaw → (channel subdir file : List ℕ) (value : Data) (pkg : PkgRecord) → entry_read channel subdir file value ≡ Ok pkg
    → IsFileOf file pkg.dist
named law channel subdir file value pkg e =
    let read_on : PkgRecord → Read PkgRecord RecordField = λ p. Ok (dated p) in
    let some = guarded (is_some (cut_ending file)) (record_read value file channel subdir >>= read_on) RecordField.Fn pkg e in
    let read = bound (record_read value file channel subdir) read_on pkg some.1 in
    let is = law value file channel subdir read.0 read.1 in
    let same : dated read.0 ≡ pkg = cc read.2 in
    subst (IsFileOf file) (ap (λ (p : PkgRecord). p.dist) same) (file_named file read.0.dist is.file_is is.dist.no_file some.0)

-- ---- the ranks

same_text : (a b : List ℕ) → Decides (pointwise nat_eq a b) (a ≡ b)
same_text a b = slice_eq-Decides Decides-eqb a b (pointwise nat_eq a b) refl

ends : (front ending : List ℕ) → ends_with nat_eq (front ++ ending) ending ≡ true
ends front ending =
    let k : length (front ++ ending) - length ending ≡ length front =
    ap (λ n. n - length ending) (length-append front ending) ∙ add-sub_cancel (length front) (length ending)
    in
    let tail : drop (length (front ++ ending) - length ending) (front ++ ending) ≡ ending =
    ap (λ n. drop n (front ++ ending)) k ∙ drop-append_seam front ending
    in
    (same_text ending (drop (length (front ++ ending) - length ending) (front ++ ending))).1 (sym tail)

-- a text that ends otherwise in its last character
ends_not : (front : List ℕ) → ends_with nat_eq (front ++ codes ".tar.bz2") (codes ".conda") ≡ false
ends_not front = by (ends_with nat_eq (front ++ codes ".tar.bz2") (codes ".conda")) refl
  where
    by : (b : Bool) → ends_with nat_eq (front ++ codes ".tar.bz2") (codes ".conda") ≡ b → b ≡ false
    by false h = refl
    by true h =
        let k = length (front ++ codes ".tar.bz2") - length (codes ".conda") in
        let start = take k (front ++ codes ".tar.bz2") in
        let whole : front ++ codes ".tar.bz2" ≡ start ++ codes ".conda" =
        sym (take-append-drop k (front ++ codes ".tar.bz2"))
        ∙ ap (λ e. start ++ e) (sym ((same_text (codes ".conda") (drop k (front ++ codes ".tar.bz2"))).0 h)) in
        let turned : reverse (codes ".tar.bz2") ++ reverse front ≡ reverse (codes ".conda") ++ reverse start =
        sym (reverse-append front (codes ".tar.bz2")) ∙ ap reverse whole ∙ reverse-append start (codes ".conda") in
        absurd (true≢false (ap (begins_with 50) turned))

-- what stands in front of both makes no difference
cmp-append : (front a b : List ℕ) → C (front ++ a) (front ++ b) ≡ C a b
cmp-append [] a b = refl
cmp-append (x ∷ front) a b = ap (λ o. ordering_then o (C (front ++ a) (front ++ b))) (tied_itself nat_cmp_total x) ∙ cmp-append front a b

rank_with : Section → Bool → ℕ
rank_with Section.PackagesConda conda = if conda then 0 else 1
rank_with Section.Packages conda = if conda then 2 else 3

rank_is : (s : Section) (file : List ℕ) (b : Bool) → ends_with nat_eq file (codes ".conda") ≡ b → rank s file ≡ rank_with s b
unfolding rank_with
rank_is Section.PackagesConda file b e = ap (λ c. if c then 0 else 1) e
rank_is Section.Packages file b e = ap (λ c. if c then 2 else 3) e

conda_first : (s : Section) → rank_with s true < rank_with s false
unfolding rank_with
conda_first Section.PackagesConda = omega arith
conda_first Section.Packages = omega arith

packages_last : (a b : Bool) → rank_with Section.PackagesConda a < rank_with Section.Packages b
unfolding rank_with
packages_last true true = omega arith
packages_last true false = omega arith
packages_last false true = omega arith
packages_last false false = omega arith

never_below : (x y : List ℕ) → x ≡ y → C x y ≡ Less → ⊥
never_below x y same less =
    let tie : C x y ≡ Equal = subst (λ z. C x z ≡ Equal) same (tied_itself nat_list_cmp_total x) in absurd (cc (tie, less))

-- two files of one dist in one object
in_one : (s : Section) (f g dist : List ℕ) → IsFileOf f dist → IsFileOf g dist → C f g ≡ Less → rank s f < rank s g
in_one s f g dist (inl a) (inl b) less = absurd (never_below f g (a ∙ sym b) less)
in_one s f g dist (inl a) (inr b) less =
    let over : C f g ≡ Greater =
    ap (λ x. C x g) a ∙ ap (C (dist ++ codes ".tar.bz2")) b ∙ cmp-append dist (codes ".tar.bz2") (codes ".conda")
    in
    absurd (cc (over, less))
in_one s f g dist (inr a) (inl b) less =
    let first = rank_is s f true (ap (λ x. ends_with nat_eq x (codes ".conda")) a ∙ ends dist (codes ".conda")) in
    let second = rank_is s g false (ap (λ x. ends_with nat_eq x (codes ".conda")) b ∙ ends_not dist) in
    rw (first, second) (conda_first s)
in_one s f g dist (inr a) (inr b) less = absurd (never_below f g (a ∙ sym b) less)

-- of two entries of one dist the one that is read first has the lesser rank
pub ranked : (a b : Entry) (dist : List ℕ) → IsFileOf a.file dist → IsFileOf b.file dist → Before a b
    → rank a.section a.file < rank b.section b.file
ranked a b dist f g (inl h) = subst (λ s. rank a.section a.file < rank s b.file) h.0 (in_one a.section a.file b.file dist f g h.1)
ranked a b dist f g (inr h) =
    let first =
    rank_is a.section a.file (ends_with nat_eq a.file (codes ".conda")) refl
    ∙ ap (λ s. rank_with s (ends_with nat_eq a.file (codes ".conda"))) h.0
    in
    let second =
    rank_is b.section b.file (ends_with nat_eq b.file (codes ".conda")) refl
    ∙ ap (λ s. rank_with s (ends_with nat_eq b.file (codes ".conda"))) h.1
    in
    rw (first, second) (packages_last (ends_with nat_eq a.file (codes ".conda")) (ends_with nat_eq b.file (codes ".conda")))
