-- What stands at the place of a file of a package: the file's bytes with the prefix put in, the soft link that is shown, or an entry point's
-- script, after conda's `path_actions.py` and `portability.py`.
use Rattle.std.specs.Prelude.{◌≡◌, ◌≢◌, ℕ, ◌<◌, Bool, true, false, List, [], ◌∷◌, length, Option, None, Some, slice_get}
use Rattle.conda_path.specs.declared.values.Node.{Node}
use Rattle.conda_device.specs.declared.chan.Shown.{Shown}
use Rattle.conda_prefix.specs.Binary.{HasRun, IsReplacedBinary}
use Rattle.conda_prefix.specs.Text.{IsReplaced}
use Rattle.conda_paths.specs.declared.row.Placeholder.{Placeholder}
use Rattle.conda_paths.specs.declared.row.Row.{Row}
use Rattle.conda_paths.specs.declared.row.RowKind.{RowKind}
use Rattle.conda_link.specs.Scripts.{script}
use Rattle.conda_link.specs.declared.info.EntryPoint.{EntryPoint}
use Rattle.conda_placing.specs.declared.package.Package.{Package}
use Rattle.conda_placing.specs.declared.placing.Origin.{Origin}
use Rattle.conda_placing.specs.declared.placing.Placing.{Placing}

-- ---- where a placing is from

-- the row at this place, and what the channel shows there
pub record IsRowAt (pkg : Package) (at : ℕ) (row : Row) (shown : Shown) : Type 0 where
  pub is_row : slice_get pkg.listing.rows at ≡ Some row
  pub is_shown : slice_get pkg.shown at ≡ Some (Some shown)

-- it is the place of a row that isn't a folder's, or of an entry point
abbrev pub HasOrigin : Package → Origin → Type 0
HasOrigin pkg (Origin.Row at) = (row : Row) × (slice_get pkg.listing.rows at ≡ Some row) × (row.kind ≢ RowKind.Folder)
HasOrigin pkg (Origin.Entry at) = at < length pkg.link.entries

-- ---- the bytes of a node

-- the prefix stands for the placeholder, in each run of a binary file, or in a text
abbrev pub IsFilledIn : Bool → List ℕ → List ℕ → List ℕ → List ℕ → Type 0
IsFilledIn true text prefix bytes made = IsReplacedBinary text prefix bytes made
IsFilledIn false text prefix bytes made = IsReplaced text prefix bytes made

-- the same, if there is a placeholder
abbrev pub IsFilled : Option Placeholder → List ℕ → List ℕ → List ℕ → Type 0
IsFilled None prefix bytes made = made ≡ bytes
IsFilled (Some placeholder) prefix bytes made = IsFilledIn placeholder.binary placeholder.text prefix bytes made

-- what a soft link's row gives: the target that is shown, or the file's bytes
abbrev pub shown_content : Shown → List ℕ → List ℕ
shown_content (Shown.File exec) bytes = bytes
shown_content (Shown.Soft target) bytes = target

-- what a row gives, where its file has these bytes
abbrev pub IsRowContent : RowKind → Row → Shown → List ℕ → List ℕ → List ℕ → Type 0
IsRowContent RowKind.Hard row shown prefix bytes made = IsFilled row.placeholder prefix bytes made
IsRowContent RowKind.Soft row shown prefix bytes made = made ≡ shown_content shown bytes
IsRowContent RowKind.Folder row shown prefix bytes made = ⊥

-- what stands at the place, where the row's file has these bytes; the script of an entry point needs none
abbrev pub IsContent : Package → List ℕ → Origin → List ℕ → List ℕ → Type 0
IsContent pkg prefix (Origin.Row at) bytes made =
    (row : Row) × (shown : Shown) × IsRowAt pkg at row shown × IsRowContent row.kind row shown prefix bytes made
IsContent pkg prefix (Origin.Entry at) bytes made =
    (entry : EntryPoint) × (slice_get pkg.link.entries at ≡ Some entry) × (made ≡ script prefix entry)

-- the node of a placing
pub record IsNode (pkg : Package) (prefix : List ℕ) (placing : Placing) (bytes : List ℕ) (node : Node) : Type 0 where
  pub kind : node.kind ≡ placing.kind
  pub content : IsContent pkg prefix placing.from bytes node.bytes

-- ---- what is refused

-- the prefix is to stand in a run of a binary file, and is longer than the placeholder there
pub record HasNoRoom (placeholder : Placeholder) (prefix bytes : List ℕ) : Type 0 where
  pub binary : placeholder.binary ≡ true
  pub run : HasRun placeholder.text bytes
  pub short : length placeholder.text < length prefix

-- it is so for the placeholder of a row, which is a file's
pub record IsTooShort (row : Row) (placeholder : Placeholder) (prefix bytes : List ℕ) : Type 0 where
  pub kind : row.kind ≡ RowKind.Hard
  pub has : row.placeholder ≡ Some placeholder
  pub room : HasNoRoom placeholder prefix bytes

-- it is so for the row of a placing, which has this path, and these are the two lengths
abbrev pub HasShortPadding : Package → List ℕ → Origin → List ℕ → List ℕ → ℕ → ℕ → Type 0
HasShortPadding pkg prefix (Origin.Row at) bytes path have need =
    (row : Row) × (placeholder : Placeholder) × (slice_get pkg.listing.rows at ≡ Some row) × IsTooShort row placeholder prefix bytes
    × (row.path ≡ path) × (length placeholder.text ≡ have) × (length prefix ≡ need)
HasShortPadding pkg prefix (Origin.Entry at) bytes path have need = ⊥

-- ---- all files of a package

-- the bytes of the file that a placing is from, where the package's folder has these files
abbrev pub HasBytes : Package → (List ℕ → Option (List ℕ)) → Origin → List ℕ → Type 0
HasBytes pkg files (Origin.Row at) bytes = (row : Row) × (slice_get pkg.listing.rows at ≡ Some row) × (files row.path ≡ Some bytes)
HasBytes pkg files (Origin.Entry at) bytes = ⊥

-- the row's file is read: it isn't a soft link that is linked as one
abbrev pub NeedsBytes : Package → Origin → Type 0
NeedsBytes pkg (Origin.Row at) =
    (row : Row) × (shown : Shown) × IsRowAt pkg at row shown × (row.kind ≡ RowKind.Soft → (target : List ℕ) → shown ≢ Shown.Soft target)
NeedsBytes pkg (Origin.Entry at) = ⊥

-- the node that a package's folder gives for a placing; a soft link and a script need no bytes
abbrev pub IsNodeIn : Package → List ℕ → (List ℕ → Option (List ℕ)) → Placing → Node → Type 0
IsNodeIn pkg prefix files placing node =
    (bytes : List ℕ) × (NeedsBytes pkg placing.from → HasBytes pkg files placing.from bytes) × IsNode pkg prefix placing bytes node

-- The placed files of a package: each of the placings with its node.
abbrev pub ArePlaced : Package → List ℕ → (List ℕ → Option (List ℕ)) → List Placing → List Node → Type 0
ArePlaced pkg prefix files [] [] = Unit {0}
ArePlaced pkg prefix files [] (node ∷ nodes) = ⊥
ArePlaced pkg prefix files (placing ∷ placings) [] = ⊥
ArePlaced pkg prefix files (placing ∷ placings) (node ∷ nodes) =
    IsNodeIn pkg prefix files placing node × ArePlaced pkg prefix files placings nodes
