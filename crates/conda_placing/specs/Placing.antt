-- Where the files of a package go when it is linked, and as what, after conda's `path_actions.py` and `common/path.py`. The order of the
-- refusals is this project's own.
use Rattle.std.specs.Prelude.{◌≡◌, ◌≢◌, ℕ, ◌+◌, ◌<◌, ◌≤◌, ◌⊎◌, Bool, true, false, if◌then◌else◌, List, [], ◌∷◌, ◌++◌, codes, length, map, Option, None, Some, IfSome, option_map, slice_get}
use Rattle.std.specs.List.{AllByRecursion, AllPairs, Contains}
use Rattle.conda_path.specs.declared.values.Kind.{Kind}
use Rattle.conda_device.specs.declared.chan.Shown.{Shown}
use Rattle.conda_device.specs.declared.lane.Abilities.{Abilities}
use Rattle.conda_paths.specs.Listings.{is_meta}
use Rattle.conda_paths.specs.declared.row.Row.{Row}
use Rattle.conda_paths.specs.declared.row.RowKind.{RowKind}
use Rattle.conda_link.specs.Links.{is_command}
use Rattle.conda_link.specs.Places.{placed}
use Rattle.conda_link.specs.declared.info.EntryPoint.{EntryPoint}
use Rattle.conda_record.specs.declared.noarch.Noarch.{Noarch}
use Rattle.conda_placing.specs.declared.package.Package.{Package}
use Rattle.conda_placing.specs.declared.placing.Origin.{Origin}
use Rattle.conda_placing.specs.declared.placing.Placing.{Placing}

-- ---- a package as it is read

-- a row that a listing can have: outside `conda-meta`, and its placeholder, if it has one, isn't empty
pub record IsListed (row : Row) : Type 0 where
  pub outside : is_meta row.path ≡ false
  pub placeholder : IfSome row.placeholder (λ placeholder. 0 < length placeholder.text)

-- an entry point that a link file can have: its command is one part of a path
abbrev pub IsLinkEntry : EntryPoint → Type 0
IsLinkEntry entry = is_command entry.command ≡ true

-- the channel shows something at each row, but where the row is a folder's
abbrev pub AreShown : List Row → List (Option Shown) → Type 0
AreShown [] [] = Unit {0}
AreShown [] (one ∷ shown) = ⊥
AreShown (row ∷ rows) [] = ⊥
AreShown (row ∷ rows) (one ∷ shown) = (one ≡ None → row.kind ≡ RowKind.Folder) × AreShown rows shown

-- a package with such rows and entry points, and with what the channel shows at each row
pub record IsReadPackage (pkg : Package) : Type 0 where
  pub rows : AllByRecursion IsListed pkg.listing.rows
  pub entries : AllByRecursion IsLinkEntry pkg.link.entries
  pub shown : AreShown pkg.listing.rows pkg.shown

-- ---- the Python that a package's code is for

-- Python code that fits every Python is for the environment's X.Y, if it has one; other packages are for none
abbrev pub python_for : Noarch → Option (List ℕ) → Option (List ℕ)
python_for Noarch.Python python = python
python_for Noarch.Generic python = None
python_for Noarch.No python = None

-- it is Python code that fits every Python, and there is none
abbrev pub LacksPython : Noarch → Option (List ℕ) → Type 0
LacksPython noarch python = (noarch ≡ Noarch.Python) × (python ≡ None)

-- ---- paths

-- where a row's file goes
abbrev pub place_of : Option (List ℕ) → List ℕ → List ℕ
place_of None path = path
place_of (Some python) path = placed python path

-- where the script of an entry point goes
abbrev pub script_place : EntryPoint → List ℕ
script_place entry = codes "bin/" ++ entry.command

-- the path, unless it is too long
abbrev pub GivesPlace : Option (List ℕ) → List ℕ → Type 0
GivesPlace None path = 1024 < length path
GivesPlace (Some given) path = (given ≡ path) × (length path ≤ 1024)

-- ---- kinds

-- where nothing can be executable, an executable file is a plain one
abbrev pub as_able : Bool → Kind → Kind
as_able exec Kind.File = Kind.File
as_able exec Kind.Exec = if exec then Kind.Exec else Kind.File
as_able exec Kind.Soft = Kind.Soft

-- the kind of what is shown
abbrev pub shown_kind : Shown → Kind
shown_kind (Shown.File exec) = if exec then Kind.Exec else Kind.File
shown_kind (Shown.Soft target) = Kind.Soft

-- a file that is read through a soft link is a plain one
abbrev pub file_kind : Shown → Kind
file_kind (Shown.File exec) = shown_kind (Shown.File exec)
file_kind (Shown.Soft target) = Kind.File

-- The kind of what a row gives: a file for a file, what is shown for a soft link, and nothing for a folder.
abbrev pub row_kind : RowKind → Option Shown → Option Kind
row_kind RowKind.Hard shown = option_map file_kind shown
row_kind RowKind.Soft shown = option_map shown_kind shown
row_kind RowKind.Folder shown = None

-- ---- all placings: those of the rows in order, and then those of the entry points

abbrev pub placing_as : Option Kind → (Kind → Placing) → List Placing
placing_as None placing = []
placing_as (Some kind) placing = placing kind ∷ []

-- what the row at a place gives, if it gives something
abbrev pub row_placing : Option (List ℕ) → Bool → ℕ → Row → Option Shown → List Placing
row_placing python exec at row shown =
    placing_as (row_kind row.kind shown) (λ kind.
    record { path = place_of python row.path; kind = as_able exec kind; from = Origin.Row at })

-- what rows give, of which the first stands at a place
abbrev pub row_placings : Option (List ℕ) → Bool → ℕ → List Row → List (Option Shown) → List Placing
row_placings python exec at [] shown = []
row_placings python exec at (row ∷ rows) [] = []
row_placings python exec at (row ∷ rows) (one ∷ shown) = row_placing python exec at row one ++ row_placings python exec (at + 1) rows shown

-- the script of each entry point, of which the first stands at a place
abbrev pub script_placings : Bool → ℕ → List EntryPoint → List Placing
script_placings exec at [] = []
script_placings exec at (entry ∷ entries) =
    record { path = script_place entry; kind = as_able exec Kind.Exec; from = Origin.Entry at } ∷ script_placings exec (at + 1) entries

-- a package that is for no Python has no entry points, whatever its link file says
abbrev pub entries_for : Option (List ℕ) → Package → List EntryPoint
entries_for None pkg = []
entries_for (Some python) pkg = pkg.link.entries

abbrev pub placings_for : Option (List ℕ) → Package → Abilities → List Placing
placings_for python pkg abilities =
    row_placings python abilities.exec 0 pkg.listing.rows pkg.shown ++ script_placings abilities.exec 0 (entries_for python pkg)

-- what a package gives in an environment with this Python, if it has one, where the lanes have these abilities
abbrev pub placings_of : Package → Option (List ℕ) → Abilities → List Placing
placings_of pkg python abilities = placings_for (python_for pkg.rec.noarch python) pkg abilities

-- ---- what is refused

-- the paths of placings
abbrev pub places_of : List Placing → List (List ℕ)
places_of placings = map (λ placing. placing.path) placings

-- behind others a place can't be had: it is too long, or one of them has it
abbrev pub IsBadPlace : List Placing → Placing → Type 0
IsBadPlace before placing = (1024 < length placing.path) ⊎ Contains (places_of before) placing.path

-- a soft link, where none can be made
pub record IsNoLink (abilities : Abilities) (placing : Placing) : Type 0 where
  pub kind : placing.kind ≡ Kind.Soft
  pub soft : abilities.soft ≡ false

-- none of them is refused
pub record AreAllowed (abilities : Abilities) (placings : List Placing) : Type 0 where
  pub short : AllByRecursion (λ placing. length placing.path ≤ 1024) placings
  pub apart : AllPairs (λ a b. a ≢ b) (places_of placings)
  pub links : AllByRecursion (λ placing. ¬ IsNoLink abilities placing) placings

-- this one is refused, and none before it
pub record IsFirstRefused (abilities : Abilities) (placings before : List Placing) (placing : Placing) : Type 0 where
  pub after : List Placing
  pub stands : placings ≡ before ++ placing ∷ after
  pub allowed : AreAllowed abilities before
  pub refused : IsBadPlace before placing ⊎ IsNoLink abilities placing

-- the number of a row; entry points are counted behind the rows
abbrev pub row_number : Package → Origin → ℕ
row_number pkg (Origin.Row at) = at
row_number pkg (Origin.Entry at) = length pkg.listing.rows + at

-- the placing is that of a row with this path
abbrev pub IsRowPath : Package → Origin → List ℕ → Type 0
IsRowPath pkg (Origin.Row at) path = (row : Row) × (slice_get pkg.listing.rows at ≡ Some row) × (row.path ≡ path)
IsRowPath pkg (Origin.Entry at) path = ⊥
