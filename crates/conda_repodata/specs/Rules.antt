-- What a repodata text means: of which entries there are records, and which are set aside.
use Rattle.std.specs.Prelude.{◌≡◌, ◌↔◌, ◌≤◌, ℕ, List, map, codes, Some, Ok, Err, IsOk, option_and_then}
use Rattle.std.specs.List.{Contains}
use Rattle.std.specs.List.Sorted.{IsStrictlySortedBy}
use Rattle.std.specs.Ordering.{nat_cmp}
use Rattle.std.specs.Cmp.Lexicographic.{slice_cmp}
use Rattle.serde_json.specs.Data.{Data}
use Rattle.serde_json.specs.Find.{get}
use Rattle.conda_json.specs.Fields.{optional}
use Rattle.conda_json.specs.Json.{object_at}
use Rattle.conda_json.specs.declared.optional.Null.{Null}
use Rattle.conda_record.specs.declared.pkg_record.PkgRecord.{PkgRecord}
use Rattle.conda_repodata.specs.Entries.{aside_of, dist_of, entry_read, place_cmp, place_of, rank, section_name}
use Rattle.conda_repodata.specs.declared.aside.Section.{Section}
use Rattle.conda_repodata.specs.declared.aside.Unread.{Unread}
use Rattle.conda_repodata.specs.declared.repodata.Repodata.{Repodata}

-- an entry: the object in which it stands, the name of its file, and what it says of the package
pub record Entry : Type 0 where
  pub section : Section
  pub file : List ℕ
  pub value : Data

-- the entry stands in the text
abbrev pub IsEntry : Data → Entry → Type 0
IsEntry text entry = option_and_then (get entry.file) (get (section_name entry.section) text) ≡ Some entry.value

-- an entry is read as this record, and of those of its dist that are read as records none has a lesser rank
pub record IsTaken (text : Data) (channel subdir : List ℕ) (pkg : PkgRecord) : Type 0 where
  pub entry : Entry
  pub stands : IsEntry text entry
  pub reads : entry_read channel subdir entry.file entry.value ≡ Ok pkg
  pub first : (other : Entry) (found : PkgRecord) → IsEntry text other → entry_read channel subdir other.file other.value ≡ Ok found
      → found.dist ≡ pkg.dist → rank entry.section entry.file ≤ rank other.section other.file

-- an entry stands at this place that isn't read as a record, and this field is first wrong with it
abbrev pub IsUnread : Data → List ℕ → List ℕ → Unread → Type 0
IsUnread text channel subdir unread =
    (value : Data) × IsEntry text (record { section = unread.section; file = unread.file; value = value })
    × (entry_read channel subdir unread.file value ≡ Err unread.field)

-- Each of the two objects is one, unless it is absent. There is a record of each dist of which an entry is read as one, ascending by dist.
-- Each entry that isn't read as one is set aside, ascending by file name, that of `packages` first where two are equal.
pub record IsRepodata (text : Data) (channel subdir : List ℕ) (repodata : Repodata) : Type 0 where
  pub unread : List Unread
  pub packages : IsOk (optional object_at Null.Bad (codes "packages") text)
  pub packages_conda : IsOk (optional object_at Null.Bad (codes "packages.conda") text)
  pub taken : (pkg : PkgRecord) → Contains repodata.recs pkg ↔ IsTaken text channel subdir pkg
  pub by_dist : IsStrictlySortedBy (slice_cmp nat_cmp) (map dist_of repodata.recs)
  pub set_aside : (entry : Unread) → Contains unread entry ↔ IsUnread text channel subdir entry
  pub by_file : IsStrictlySortedBy place_cmp (map place_of unread)
  pub shown : repodata.aside ≡ map aside_of unread
