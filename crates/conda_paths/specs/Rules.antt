-- What a listing is, in whatever order its parts are looked at.
use Rattle.std.specs.Prelude.{◌≡◌, ◌≢◌, ℕ, Bool, true, false, ◌⊎◌, List, [], ◌∷◌, codes, map, Option, None, Some, unwrap_or, Ok}
use Rattle.std.specs.List.{AllPairs}
use Rattle.std.specs.Option.{option_map}
use Rattle.serde_json.specs.Data.{Data, Items, no_items, item}
use Rattle.hex.specs.Hex.{decode_sized}
use Rattle.conda_path.specs.Faults.{path_read}
use Rattle.conda_json.specs.Fields.{optional}
use Rattle.conda_json.specs.Json.{list_at, number_at, text_at, truth_at}
use Rattle.conda_json.specs.declared.optional.Null.{Null}
use Rattle.conda_paths.specs.Listings.{bare_row, is_meta, row_path}
use Rattle.conda_paths.specs.declared.listing.Listing.{Listing}
use Rattle.conda_paths.specs.declared.row.Row.{Row}
use Rattle.conda_paths.specs.declared.row.RowKind.{RowKind}

-- the name of a kind
abbrev pub kind_name : RowKind → List ℕ
kind_name RowKind.Hard = codes "hardlink"
kind_name RowKind.Soft = codes "softlink"
kind_name RowKind.Folder = codes "directory"

-- a file is binary or a text, which it is where nothing is said
abbrev pub IsMode : Option (List ℕ) → Bool → Type 0
IsMode mode true = mode ≡ Some (codes "binary")
IsMode mode false = (mode ≡ None) ⊎ (mode ≡ Some (codes "text"))

-- The element says of a file what the row says: 64 digits of its digest, its size, and where they are there its placeholder, mode and
-- whether it is never linked.
pub record IsFile (value : Data) (row : Row) : Type 0 where
  pub digits : List ℕ
  pub text : Option (List ℕ)
  pub mode : Option (List ℕ)
  pub binary : Bool
  pub no_link : Option Bool
  pub sha256 : text_at value (codes "sha256") ≡ Some digits
  pub digest : decode_sized digits 32 ≡ Ok row.digest.bytes
  pub size : number_at value (codes "size_in_bytes") ≡ Some row.size
  pub prefix_placeholder : optional text_at Null.Absent (codes "prefix_placeholder") value ≡ Ok text
  pub not_empty : text ≢ Some []
  pub file_mode : optional text_at Null.Absent (codes "file_mode") value ≡ Ok mode
  pub is_mode : IsMode mode binary
  pub placeholder : row.placeholder ≡ option_map (λ t. record { text = t; binary = binary }) text
  pub no_link_field : optional truth_at Null.Absent (codes "no_link") value ≡ Ok no_link
  pub linked : row.no_link ≡ unwrap_or no_link false

-- a file says so much; another row has nothing but its path
abbrev pub IsOfKind : RowKind → Data → Row → Type 0
IsOfKind RowKind.Hard value row = IsFile value row
IsOfKind RowKind.Soft value row = row ≡ bare_row row.path RowKind.Soft
IsOfKind RowKind.Folder value row = row ≡ bare_row row.path RowKind.Folder

-- the element is this row: a path outside `conda-meta`, of a kind, and what is said of it
pub record IsRow (value : Data) (row : Row) : Type 0 where
  pub named : text_at value (codes "_path") ≡ Some row.path
  pub path : path_read row.path ≡ Ok row.path
  pub outside : is_meta row.path ≡ false
  pub kind : text_at value (codes "path_type") ≡ Some (kind_name row.kind)
  pub rest : IsOfKind row.kind value row

-- the elements are these rows, each in its place
abbrev pub AreRows : Items → List Row → Type 0
AreRows no_items [] = Unit {0}
AreRows no_items (row ∷ rows) = ⊥
AreRows (item value rest) [] = ⊥
AreRows (item value rest) (row ∷ rows) = IsRow value row × AreRows rest rows

-- the object is this listing: of version 1, with a list of these rows, no two of one path
pub record IsListing (value : Data) (listing : Listing) : Type 0 where
  pub elements : Items
  pub version : number_at value (codes "paths_version") ≡ Some 1
  pub paths : list_at value (codes "paths") ≡ Some elements
  pub rows : AreRows elements listing.rows
  pub differ : AllPairs (λ a b. a ≢ b) (map row_path listing.rows)
