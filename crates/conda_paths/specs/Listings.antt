-- The listing of a package's files, `info/paths.json`, as conda's packages have it; the tests and their order are this project's own.
use Rattle.std.specs.Prelude.{◌≡◌, ℕ, ◌+◌, Bool, true, false, ◌==◌, nat_eq, if◌then◌else◌, List, [], ◌∷◌, ◌++◌, length, codes, replicate, Option, None, Some, unwrap_or, Ok, Err}
use Rattle.std.specs.List.{AllByRecursion, list_any, starts_with}
use Rattle.std.specs.BTreeSet.{BTreeSet, contains}
use Rattle.std.specs.Cmp.Lexicographic.{slice_cmp}
use Rattle.std.specs.Ordering.{nat_cmp}
use Rattle.std.specs.Option.{ok_or, option_map, option_map_or}
use Rattle.serde_json.specs.Data.{Data, Items, no_items, item}
use Rattle.hex.specs.Hex.{decode_sized}
use Rattle.sha2.specs.Sha256.{sha256}
use Rattle.conda_base.specs.Reads.{Read, ◌>>=◌}
use Rattle.conda_base.specs.Texts.{is_empty, is_text}
use Rattle.conda_path.specs.declared.values.Digest.{Digest}
use Rattle.conda_path.specs.Faults.{path_read}
use Rattle.conda_json.specs.Fields.{optional, or_fault}
use Rattle.conda_json.specs.Json.{list_at, number_at, object_read, text_at, truth_at}
use Rattle.conda_json.specs.declared.optional.Null.{Null}
use Rattle.conda_paths.specs.declared.error.ListingErr.{ListingErr}
use Rattle.conda_paths.specs.declared.error.ListingWhy.{ListingWhy}
use Rattle.conda_paths.specs.declared.listing.RowErr.{RowErr}
use Rattle.conda_paths.specs.declared.listing.Listing.{Listing}
use Rattle.conda_paths.specs.declared.row.Row.{Row}
use Rattle.conda_paths.specs.declared.row.RowKind.{RowKind}

-- ---- files

-- the bytes are those of a file of this size and digest
abbrev pub IsListedFile : List ℕ → ℕ → Digest → Type 0
IsListedFile bytes size digest = (length bytes ≡ size) × (sha256 bytes ≡ digest.bytes)

-- the row's file, where it is one, is there and is the listed one
abbrev pub IsGoodRow : (List ℕ → Option (List ℕ)) → Row → Type 0
IsGoodRow files row = row.kind ≡ RowKind.Hard → (bytes : List ℕ) × (files row.path ≡ Some bytes) × IsListedFile bytes row.size row.digest

-- a good folder: each file that the listing names is there with its size and digest; this project's own word
abbrev pub IsGoodFolder : Listing → (List ℕ → Option (List ℕ)) → Type 0
IsGoodFolder listing files = AllByRecursion (IsGoodRow files) listing.rows

-- ---- how a listing is read: row by row, and the fields of a row in order

-- what is wrong with a row
abbrev pub row_fault_of : RowErr → Option ListingWhy
row_fault_of (RowErr.Bad why) = Some why
row_fault_of RowErr.Memory = None

-- a path in `conda-meta`
abbrev pub is_meta : List ℕ → Bool
is_meta path = starts_with nat_eq path (codes "conda-meta/")

-- a path outside `conda-meta`
abbrev pub outside_meta : List ℕ → Read (List ℕ) ListingWhy
outside_meta path = if is_meta path then Err ListingWhy.Path else Ok path

abbrev pub named_path : Data → Read (List ℕ) ListingWhy
named_path value = do
  text ← ok_or (text_at value (codes "_path")) ListingWhy.Path
  path ← outside_meta text
  or_fault (path_read path) ListingWhy.Path

abbrev pub kind_named : List ℕ → Option RowKind
kind_named text =
    if is_text text (codes "hardlink") then Some RowKind.Hard
    else if is_text text (codes "softlink") then Some RowKind.Soft
    else if is_text text (codes "directory") then Some RowKind.Folder
    else None

abbrev pub kind_read : Data → Read RowKind ListingWhy
kind_read value = ok_or (text_at value (codes "path_type")) ListingWhy.PathType >>= (λ text.
    ok_or (kind_named text) ListingWhy.PathType)

abbrev pub digest_read : Data → Read Digest ListingWhy
digest_read value = ok_or (text_at value (codes "sha256")) ListingWhy.Sha256 >>= (λ text.
    or_fault (decode_sized text 32) ListingWhy.Sha256 >>= (λ bytes. Ok (record { bytes = bytes })))

abbrev pub not_empty : Option (List ℕ) → Read (Option (List ℕ)) ListingWhy
not_empty None = Ok None
not_empty (Some text) = if is_empty text then Err ListingWhy.PrefixPlaceholder else Ok (Some text)

abbrev pub placeholder_read : Data → Read (Option (List ℕ)) ListingWhy
placeholder_read value =
    or_fault (optional text_at Null.Absent (codes "prefix_placeholder") value) ListingWhy.PrefixPlaceholder >>= not_empty

abbrev pub mode_named : Option (List ℕ) → Read Bool ListingWhy
mode_named None = Ok false
mode_named (Some text) =
    if is_text text (codes "text") then Ok false
    else if is_text text (codes "binary") then Ok true
    else Err ListingWhy.FileMode

abbrev pub mode_read : Data → Read Bool ListingWhy
mode_read value = or_fault (optional text_at Null.Absent (codes "file_mode") value) ListingWhy.FileMode >>= mode_named

abbrev pub no_link_read : Data → Read Bool ListingWhy
no_link_read value =
    or_fault (optional truth_at Null.Absent (codes "no_link") value) ListingWhy.NoLink >>= (λ found. Ok (unwrap_or found false))

abbrev pub file_read : List ℕ → Data → Read Row ListingWhy
file_read path value = do
  digest ← digest_read value
  size ← ok_or (number_at value (codes "size_in_bytes")) ListingWhy.SizeInBytes
  text ← placeholder_read value
  binary ← mode_read value
  no_link ← no_link_read value
  Ok (record { path = path; kind = RowKind.Hard; size = size; digest = digest; placeholder = option_map (λ t. record { text = t; binary = binary }) text; no_link = no_link })

-- a row that is no file has nothing but its path
abbrev pub bare_row : List ℕ → RowKind → Row
bare_row path kind = record { path = path; kind = kind; size = 0; digest = record { bytes = replicate 32 0 }; placeholder = None; no_link = false }

abbrev pub row_of_kind : List ℕ → Data → RowKind → Read Row ListingWhy
row_of_kind path value RowKind.Hard = file_read path value
row_of_kind path value RowKind.Soft = Ok (bare_row path RowKind.Soft)
row_of_kind path value RowKind.Folder = Ok (bare_row path RowKind.Folder)

abbrev pub kind_row : List ℕ → Data → Read Row ListingWhy
kind_row path value = kind_read value >>= row_of_kind path value

-- a set has just these paths
abbrev pub HasPaths : BTreeSet (List ℕ) → List (List ℕ) → Type 0
HasPaths set paths = (path : List ℕ) → contains (slice_cmp nat_cmp) set path ≡ list_any (is_text path) paths

-- a path that none of these is
abbrev pub new_path : List (List ℕ) → List ℕ → Read (List ℕ) ListingWhy
new_path before path = if list_any (is_text path) before then Err ListingWhy.Path else Ok path

-- the row that an element means, behind rows with these paths
abbrev pub row_read : List (List ℕ) → Data → Read Row ListingWhy
row_read before value = do
  path ← named_path value
  new ← new_path before path
  kind_row new value

-- the path of a row
abbrev pub row_path : Row → List ℕ
row_path row = row.path

-- what is wrong, and in which row
abbrev pub in_row : {A : Type 0} → ℕ → Read A ListingWhy → Read A (ℕ × ListingWhy)
in_row at (Ok x) = Ok x
in_row at (Err why) = Err (at, why)

-- the rows that elements mean, the first of them at a place and behind rows with these paths
abbrev pub rows_read : List (List ℕ) → ℕ → Items → Read (List Row) (ℕ × ListingWhy)
rows_read before at no_items = Ok []
rows_read before at (item value rest) = in_row at (row_read before value) >>= (λ row.
    rows_read (before ++ row.path ∷ []) (at + 1) rest >>= (λ rows. Ok (row ∷ rows)))

-- what the format's version says: it is 1
abbrev pub is_version_one : Data → Bool
is_version_one value = option_map_or (λ n. n == 1) (number_at value (codes "paths_version")) false

-- the elements of the list of rows
abbrev pub elements_read : Data → Read Items (ℕ × ListingWhy)
elements_read value =
    if is_version_one value then ok_or (list_at value (codes "paths")) (0, ListingWhy.Paths) else Err (0, ListingWhy.PathsVersion)

-- what is wrong with a listing: the row, from 0, and what is wrong there
abbrev pub listing_fault_of : ListingErr → Option (ℕ × ListingWhy)
listing_fault_of (ListingErr.BadListing row why) = Some (row, why)
listing_fault_of ListingErr.Memory = None

-- the listing that an object means
abbrev pub listing_of : Data → Read Listing (ℕ × ListingWhy)
listing_of value = elements_read value >>= (λ elements. rows_read [] 0 elements >>= (λ rows. Ok (record { rows = rows })))

-- the listing that bytes mean
abbrev pub listing_read : List ℕ → Read Listing (ℕ × ListingWhy)
listing_read bytes = or_fault (object_read bytes) (0, ListingWhy.Json) >>= listing_of
