-- What rows and entry points give, one behind another, and the first of it that is refused.
use Rattle.std.specs.Prelude.{◌≡◌, ℕ, ◌+◌, ◌≤◌, ◌<◌, suc, Bool, true, false, if◌then◌else◌, List, [], ◌∷◌, ◌++◌, codes, length, Option, None, Some, Result, Ok, Err, IfOk, slice_get}
use Rattle.std.proofs.Common.{refl, ap, sym, ◌∙◌, subst, inl, inr, arith, get_or, drop}
use Rattle.std.proofs.lemmas.List.{append_assoc, drop_more}
use Rattle.std.specs.BTreeSet.{BTreeSet}
use Rattle.std.specs.List.{AllByRecursion, Contains}
use Rattle.std.specs.Option.{option_map_or}
use Rattle.conda_base.specs.Signs.{slash}
use Rattle.conda_base.specs.Texts.{cut_first, is_text}
use Rattle.conda_path.specs.declared.values.Kind.{Kind}
use Rattle.conda_device.specs.declared.chan.Shown.{Shown}
use Rattle.conda_device.specs.declared.lane.Abilities.{Abilities}
use Rattle.conda_paths.specs.Listings.{HasPaths, is_meta}
use Rattle.conda_paths.specs.declared.row.Row.{Row}
use Rattle.conda_paths.specs.declared.row.RowKind.{RowKind}
use Rattle.conda_link.specs.Places.{placed_part}
use Rattle.conda_link.specs.declared.info.EntryPoint.{EntryPoint}
use Rattle.conda_placing.specs.Content.{HasOrigin}
use Rattle.conda_placing.specs.Placing.{AreAllowed, AreShown, IsListed, IsNoLink, IsReadPackage, IsRowPath, as_able, entries_for, place_of, placing_as, placings_for, row_kind, row_number, row_placing, row_placings, places_of, script_place, script_placings}
use Rattle.conda_placing.specs.Refusals.{HasBadPlace, IsBadBehind, Refuses, RefusesRow, RefusesScript}
use Rattle.conda_placing.proofs.PutLemmas.{fits, none_allowed}
use Rattle.conda_placing.specs.declared.error.PlacingErr.{PlacingErr}
use Rattle.conda_placing.specs.declared.package.Package.{Package}
use Rattle.conda_placing.specs.declared.placing.Origin.{Origin}
use Rattle.conda_placing.specs.declared.placing.Placing.{Placing}

-- ---- what the channel shows

-- something, or nothing, is shown at each row
pub shown_length : (rows : List Row) (shown : List (Option Shown)) → AreShown rows shown → length shown ≡ length rows
shown_length [] [] are = refl
shown_length [] (one ∷ shown) are = absurd are
shown_length (row ∷ rows) [] are = absurd are
shown_length (row ∷ rows) (one ∷ shown) are = ap (λ n. suc n) (shown_length rows shown are.1)

-- ---- one more

-- what the rows so far give, and those that are left
pub rows_more : (python : Option (List ℕ)) (exec : Bool) (made : List Placing) (at : ℕ) (rows : List Row) (shown : List (Option Shown)) (row : Row) (one : Option Shown)
    → at < length rows → at < length shown → row ≡ get_or rows at row → one ≡ get_or shown at one
    → made ++ row_placings python exec at (drop at rows) (drop at shown)
    ≡ (made ++ row_placing python exec at row one) ++ row_placings python exec (at + 1) (drop (at + 1) rows) (drop (at + 1) shown)
rows_more python exec made at rows shown row one in_rows in_shown is_row is_one =
    let rows_are : drop at rows ≡ row ∷ drop (at + 1) rows = drop_more rows at row in_rows ∙ ap (λ x. x ∷ drop (at + 1) rows) (sym is_row) in
    let shown_are : drop at shown ≡ one ∷ drop (at + 1) shown = drop_more shown at one in_shown ∙ ap (λ x. x ∷ drop (at + 1) shown) (sym is_one) in
    ap (λ rs. made ++ row_placings python exec at rs (drop at shown)) rows_are
    ∙ ap (λ ss. made ++ row_placings python exec at (row ∷ drop (at + 1) rows) ss) shown_are
    ∙ sym (append_assoc made (row_placing python exec at row one) (row_placings python exec (at + 1) (drop (at + 1) rows) (drop (at + 1) shown)))

-- what the entry points so far give, and those that are left
pub scripts_more : (exec : Bool) (made : List Placing) (at : ℕ) (entries : List EntryPoint) (entry : EntryPoint)
    → at < length entries → entry ≡ get_or entries at entry
    → made ++ script_placings exec at (drop at entries) ≡ (made ++ script_placings exec at (entry ∷ [])) ++ script_placings exec (at + 1) (drop (at + 1) entries)
scripts_more exec made at entries entry within is =
    let are : drop at entries ≡ entry ∷ drop (at + 1) entries = drop_more entries at entry within ∙ ap (λ x. x ∷ drop (at + 1) entries) (sym is) in
    ap (λ es. made ++ script_placings exec at es) are
    ∙ sym (append_assoc made (script_placings exec at (entry ∷ [])) (script_placings exec (at + 1) (drop (at + 1) entries)))

-- what was put so far, where the rest is left
pub record IsPutSoFar (abilities : Abilities) (all made rest : List Placing) (places : BTreeSet (List ℕ)) : Type 0 where
  pub are : made ++ rest ≡ all
  pub paths : HasPaths places (places_of made)
  pub allowed : AreAllowed abilities made

-- nothing was put yet
pub start : (abilities : Abilities) (made rest all : List Placing) (places : BTreeSet (List ℕ)) → made ≡ [] → rest ≡ all → HasPaths places []
    → IsPutSoFar abilities all made rest places
start abilities made rest all places none are has = record {
  are = ap (λ ps. ps ++ rest) none ∙ are;
  paths = subst (λ ps. HasPaths places (places_of ps)) (sym none) has;
  allowed = subst (AreAllowed abilities) (sym none) (none_allowed abilities);
}

-- what a row gives, whose kind is known
pub row_gives : (python : Option (List ℕ)) (exec : Bool) (at : ℕ) (row : Row) (shown : Option Shown) (kind able : Kind) → row_kind row.kind shown ≡ Some kind
    → able ≡ as_able exec kind
    → row_placing python exec at row shown ≡ record { path = place_of python row.path; kind = able; from = Origin.Row at } ∷ []
row_gives python exec at row shown kind able is same =
    ap (λ o. placing_as o (λ k. record { path = place_of python row.path; kind = as_able exec k; from = Origin.Row at })) is
    ∙ ap (λ k. record { path = place_of python row.path; kind = k; from = Origin.Row at } ∷ []) (sym same)

-- ---- refusals

-- a soft link where none can be made is refused, whose place can be had
pub link_refused : (abilities : Abilities) (at : ℕ) (row : Row) (made given : List Placing) (placing : Placing) (path : List ℕ) → given ≡ placing ∷ []
    → length placing.path ≤ 1024 → (¬ Contains (places_of made) placing.path) → IsNoLink abilities placing → path ≡ row.path
    → RefusesRow abilities at row made given (PlacingErr.NoSoftLink path)
link_refused abilities at row made given placing path one short new link is =
    inr (ap PlacingErr.NoSoftLink is, record { placing = placing; one = one; fits = fits made placing short new; link = link })

same_head : (x y : Placing) → x ∷ [] ≡ y ∷ [] → x ≡ y
same_head x y e = cc e

from_kind : (o : Option Kind) (at : ℕ) (path : List ℕ) (able : Kind → Kind) (placing : Placing)
    → placing_as o (λ kind. record { path = path; kind = able kind; from = Origin.Row at }) ≡ placing ∷ [] → placing.from ≡ Origin.Row at
from_kind None at path able placing e = cc e
from_kind (Some kind) at path able placing e =
    ap (λ (p : Placing). p.from) (sym (same_head (record { path = path; kind = able kind; from = Origin.Row at }) placing e))

-- what a row gives is from it
pub from_row : (python : Option (List ℕ)) (exec : Bool) (at : ℕ) (row : Row) (one : Option Shown) (placing : Placing)
    → row_placing python exec at row one ≡ placing ∷ [] → placing.from ≡ Origin.Row at
from_row python exec at row one placing e = from_kind (row_kind row.kind one) at (place_of python row.path) (as_able exec) placing e

-- all placings, where one stands behind those that were put
behind : (made given rest all : List Placing) (placing : Placing) → given ≡ placing ∷ [] → all ≡ (made ++ given) ++ rest → all ≡ made ++ placing ∷ rest
behind made given rest all placing one are = are ∙ append_assoc made given rest ∙ ap (λ g. made ++ (g ++ rest)) one

bad_behind : (pkg : Package) (abilities : Abilities) (made given rest all : List Placing) (number : ℕ) → AreAllowed abilities made
    → all ≡ (made ++ given) ++ rest → ((placing : Placing) → given ≡ placing ∷ [] → number ≡ row_number pkg placing.from)
    → IsBadBehind made given → HasBadPlace pkg abilities all number
bad_behind pkg abilities made given rest all number allowed are from h = record {
  before = made;
  placing = h.placing;
  first = record { after = rest; stands = behind made given rest all h.placing h.one are; allowed = allowed; refused = inl h.bad };
  bad = h.bad;
  number = from h.placing h.one;
}

script_behind : (pkg : Package) (abilities : Abilities) (made given rest all : List Placing) (number : ℕ) (e : PlacingErr) → AreAllowed abilities made
    → all ≡ (made ++ given) ++ rest → ((placing : Placing) → given ≡ placing ∷ [] → number ≡ row_number pkg placing.from)
    → RefusesScript number made given e → Refuses pkg abilities all e
script_behind pkg abilities made given rest all number e allowed are from (inl h) =
    subst (Refuses pkg abilities all) (sym h.0) (refl, bad_behind pkg abilities made given rest all number allowed are from h.1)
script_behind pkg abilities made given rest all number e allowed are from (inr is) = subst (Refuses pkg abilities all) (sym is) tt

-- the row at this place is the first that is refused
pub row_refused : (pkg : Package) (python : Option (List ℕ)) (abilities : Abilities) (made rest all : List Placing) (at : ℕ) (row : Row) (one : Option Shown) (e : PlacingErr)
    → AreAllowed abilities made → slice_get pkg.listing.rows at ≡ Some row → all ≡ (made ++ row_placing python abilities.exec at row one) ++ rest
    → RefusesRow abilities at row made (row_placing python abilities.exec at row one) e → Refuses pkg abilities all e
row_refused pkg python abilities made rest all at row one e allowed is_row are (inl h) =
    script_behind pkg abilities made (row_placing python abilities.exec at row one) rest all at e allowed are
    (λ placing g. ap (row_number pkg) (sym (from_row python abilities.exec at row one placing g))) h
row_refused pkg python abilities made rest all at row one e allowed is_row are (inr h) =
    let link = h.1 in
    subst (Refuses pkg abilities all) (sym h.0)
    (record {
      before = made;
      placing = link.placing;
      first = record {
        after = rest;
        stands = behind made (row_placing python abilities.exec at row one) rest all link.placing link.one are;
        allowed = allowed;
        refused = inr link.link;
      };
      fits = link.fits;
      link = link.link;
      row = subst (λ from. IsRowPath pkg from row.path) (sym (from_row python abilities.exec at row one link.placing link.one)) (row, is_row, refl);
    })

-- the entry point at this place is the first that is refused
pub script_refused : (pkg : Package) (abilities : Abilities) (made rest all : List Placing) (at : ℕ) (entry : EntryPoint) (e : PlacingErr)
    → AreAllowed abilities made → all ≡ (made ++ script_placings abilities.exec at (entry ∷ [])) ++ rest
    → RefusesScript (length pkg.listing.rows + at) made (script_placings abilities.exec at (entry ∷ [])) e → Refuses pkg abilities all e
script_refused pkg abilities made rest all at entry e allowed are h =
    script_behind pkg abilities made (script_placings abilities.exec at (entry ∷ [])) rest all (length pkg.listing.rows + at) e allowed are
    (λ placing g. ap (λ (p : Placing). row_number pkg p.from) (same_head (record { path = script_place entry; kind = as_able abilities.exec Kind.Exec; from = Origin.Entry at }) placing g)) h

-- what is refused first stays so where more is listed
pub refused_more : (pkg : Package) (abilities : Abilities) (placings more : List Placing) (e : PlacingErr) → Refuses pkg abilities placings e
    → Refuses pkg abilities (placings ++ more) e
refused_more pkg abilities placings more (PlacingErr.NoPython dist) h = absurd h
refused_more pkg abilities placings more (PlacingErr.BadListing row why) h = (
  h.0,
  record {
    before = h.1.before;
    placing = h.1.placing;
    first = record {
      after = h.1.first.after ++ more;
      stands = ap (λ ps. ps ++ more) h.1.first.stands ∙ append_assoc h.1.before (h.1.placing ∷ h.1.first.after) more;
      allowed = h.1.first.allowed;
      refused = h.1.first.refused;
    };
    bad = h.1.bad;
    number = h.1.number;
  },
)
refused_more pkg abilities placings more (PlacingErr.NoSoftLink path) h = record {
  before = h.before;
  placing = h.placing;
  first = record {
    after = h.first.after ++ more;
    stands = ap (λ ps. ps ++ more) h.first.stands ∙ append_assoc h.before (h.placing ∷ h.first.after) more;
    allowed = h.first.allowed;
    refused = h.first.refused;
  };
  fits = h.fits;
  link = h.link;
  row = h.row;
}
refused_more pkg abilities placings more (PlacingErr.PaddingShort path have need) h = absurd h
refused_more pkg abilities placings more PlacingErr.Memory h = tt

-- ---- all places are outside `conda-meta`

placed_outside : (site scripts : Bool) (python path : List ℕ) (rest : List ℕ) → is_meta path ≡ false
    → is_meta (if site then codes "lib/python" ++ python ++ codes "/" ++ path else if scripts then codes "bin/" ++ rest else path) ≡ false
placed_outside true scripts python path rest out = refl
placed_outside false true python path rest out = refl
placed_outside false false python path rest out = out

cut_outside : (halves : Option (List ℕ × List ℕ)) (python path : List ℕ) → is_meta path ≡ false
    → is_meta (option_map_or (placed_part python path) halves path) ≡ false
cut_outside None python path out = out
cut_outside (Some halves) python path out =
    placed_outside (is_text halves.0 (codes "site-packages")) (is_text halves.0 (codes "python-scripts")) python path halves.1 out

place_outside : (python : Option (List ℕ)) (path : List ℕ) → is_meta path ≡ false → is_meta (place_of python path) ≡ false
place_outside None path out = out
place_outside (Some python) path out = cut_outside (cut_first slash path) python path out

-- the placing's path is outside
abbrev pub IsOutside : Placing → Type 0
IsOutside placing = is_meta placing.path ≡ false

all_append : {X : Type 0} (P : X → Type 0) (xs ys : List X) → AllByRecursion P xs → AllByRecursion P ys → AllByRecursion P (xs ++ ys)
all_append P [] ys a b = b
all_append P (x ∷ xs) ys a b = (a.0, all_append P xs ys a.1 b)

one_outside : (o : Option Kind) (at : ℕ) (path : List ℕ) (able : Kind → Kind) → is_meta path ≡ false
    → AllByRecursion IsOutside (placing_as o (λ kind. record { path = path; kind = able kind; from = Origin.Row at }))
one_outside None at path able out = tt
one_outside (Some kind) at path able out = (out, tt)

rows_outside : (python : Option (List ℕ)) (exec : Bool) (at : ℕ) (rows : List Row) (shown : List (Option Shown)) → AllByRecursion IsListed rows
    → AllByRecursion IsOutside (row_placings python exec at rows shown)
rows_outside python exec at [] shown all = tt
rows_outside python exec at (row ∷ rows) [] all = tt
rows_outside python exec at (row ∷ rows) (one ∷ shown) all =
    all_append IsOutside (row_placing python exec at row one) (row_placings python exec (at + 1) rows shown)
    (one_outside (row_kind row.kind one) at (place_of python row.path) (as_able exec) (place_outside python row.path all.0.outside))
    (rows_outside python exec (at + 1) rows shown all.1)

scripts_outside : (exec : Bool) (at : ℕ) (entries : List EntryPoint) → AllByRecursion IsOutside (script_placings exec at entries)
scripts_outside exec at [] = tt
scripts_outside exec at (entry ∷ entries) = (refl, scripts_outside exec (at + 1) entries)

-- what a package gives is outside
pub outside_for : (python : Option (List ℕ)) (pkg : Package) (abilities : Abilities) → IsReadPackage pkg
    → AllByRecursion IsOutside (placings_for python pkg abilities)
outside_for python pkg abilities read =
    all_append IsOutside (row_placings python abilities.exec 0 pkg.listing.rows pkg.shown) (script_placings abilities.exec 0 (entries_for python pkg))
    (rows_outside python abilities.exec 0 pkg.listing.rows pkg.shown read.rows) (scripts_outside abilities.exec 0 (entries_for python pkg))

-- ---- where placings are from

-- the placing is from a row that is no folder's, or from an entry point
abbrev pub IsFrom : Package → Placing → Type 0
IsFrom pkg placing = HasOrigin pkg placing.from

one_from : (pkg : Package) (kind : RowKind) (shown : Option Shown) (at : ℕ) (path : List ℕ) (able : Kind → Kind) (row : Row) → row.kind ≡ kind
    → slice_get pkg.listing.rows at ≡ Some row
    → AllByRecursion (IsFrom pkg) (placing_as (row_kind kind shown) (λ kind. record { path = path; kind = able kind; from = Origin.Row at }))
one_from pkg RowKind.Hard None at path able row is is_row = tt
one_from pkg RowKind.Hard (Some shown) at path able row is is_row = ((row, is_row, λ folder. cc (is, folder)), tt)
one_from pkg RowKind.Soft None at path able row is is_row = tt
one_from pkg RowKind.Soft (Some shown) at path able row is is_row = ((row, is_row, λ folder. cc (is, folder)), tt)
one_from pkg RowKind.Folder shown at path able row is is_row = tt

-- these rows are those of the package from this place on
abbrev AreFrom : Package → ℕ → List Row → Type 0
AreFrom pkg at rows = (k : ℕ) (row : Row) → slice_get rows k ≡ Some row → slice_get pkg.listing.rows (at + k) ≡ Some row

rows_from : (pkg : Package) (python : Option (List ℕ)) (exec : Bool) (at : ℕ) (rows : List Row) (shown : List (Option Shown)) → AreFrom pkg at rows
    → AllByRecursion (IsFrom pkg) (row_placings python exec at rows shown)
rows_from pkg python exec at [] shown are = tt
rows_from pkg python exec at (row ∷ rows) [] are = tt
rows_from pkg python exec at (row ∷ rows) (one ∷ shown) are =
    let here : at + 0 ≡ at = omega arith in
    all_append (IsFrom pkg) (row_placing python exec at row one) (row_placings python exec (at + 1) rows shown)
    (one_from pkg row.kind one at (place_of python row.path) (as_able exec) row refl
    (subst (λ n. slice_get pkg.listing.rows n ≡ Some row) here (are 0 row refl)))
    (rows_from pkg python exec (at + 1) rows shown
    (λ k r e. let later : at + suc k ≡ (at + 1) + k = omega arith in subst (λ n. slice_get pkg.listing.rows n ≡ Some r) later (are (suc k) r e)))

scripts_from : (pkg : Package) (exec : Bool) (at : ℕ) (entries : List EntryPoint) → at + length entries ≤ length pkg.link.entries
    → AllByRecursion (IsFrom pkg) (script_placings exec at entries)
scripts_from pkg exec at [] within = tt
scripts_from pkg exec at (entry ∷ entries) within = (omega (arith, within), scripts_from pkg exec (at + 1) entries (omega (arith, within)))

entries_within : (python : Option (List ℕ)) (pkg : Package) → 0 + length (entries_for python pkg) ≤ length pkg.link.entries
entries_within None pkg = omega arith
entries_within (Some python) pkg = omega arith

-- what a package gives is from it
pub from_package : (python : Option (List ℕ)) (pkg : Package) (abilities : Abilities) → AllByRecursion (IsFrom pkg) (placings_for python pkg abilities)
from_package python pkg abilities =
    all_append (IsFrom pkg) (row_placings python abilities.exec 0 pkg.listing.rows pkg.shown) (script_placings abilities.exec 0 (entries_for python pkg))
    (rows_from pkg python abilities.exec 0 pkg.listing.rows pkg.shown
    (λ k row e. let same : k ≡ 0 + k = omega arith in subst (λ n. slice_get pkg.listing.rows n ≡ Some row) same e))
    (scripts_from pkg abilities.exec 0 (entries_for python pkg) (entries_within python pkg))

-- what is said of a list that was made
pub all_after : {V E : Type 0} (r : Result V E) (items : V → List Placing) (P : Placing → Type 0) (all : List Placing) → IfOk r (λ v. items v ≡ all)
    → AllByRecursion P all → IfOk r (λ v. AllByRecursion P (items v))
all_after (Ok v) items P all is holds = subst (AllByRecursion P) (sym is) holds
all_after (Err e) items P all is holds = tt
