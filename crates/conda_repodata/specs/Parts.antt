-- The entries of both objects as one list, which is read in parts.
use Rattle.std.specs.Prelude.{◌≡◌, ℕ, List, [], ◌++◌, flat_map}
use Rattle.serde_json.specs.View.{view}
use Rattle.serde_json.specs.declared.value.Value.{Value}
use Rattle.conda_record.specs.declared.pkg_record.PkgRecord.{PkgRecord}
use Rattle.conda_repodata.specs.Entries.{entry_read}
use Rattle.conda_repodata.specs.Reading.{if_read, if_unread}
use Rattle.conda_repodata.specs.declared.aside.Section.{Section}
use Rattle.conda_repodata.specs.declared.aside.Unread.{Unread}
use Rattle.conda_repodata.specs.declared.walk.Found.{Found}
use denote.Ref.{Bor}

-- an entry: its object, the name of its file, and its value
abbrev pub Entry : Type 0
Entry = Section × Bor (List ℕ) × Bor Value

-- the record that an entry is, if it is one
abbrev pub record_in : List ℕ → List ℕ → Entry → List PkgRecord
record_in channel subdir entry = if_read (entry_read channel subdir entry.1.now (view entry.2.now)) []

-- the entry as one that is set aside, if it is no record
abbrev pub unread_in : List ℕ → List ℕ → Entry → List Unread
unread_in channel subdir entry = if_unread entry.0 entry.1.now (entry_read channel subdir entry.1.now (view entry.2.now)) []

-- what is found in these entries, in their order
pub record AreRead (channel : List ℕ) (subdir : List ℕ) (entries : List Entry) (found : Found) : Type 0 where
  pub records : found.records.items ≡ flat_map (record_in channel subdir) entries
  pub unread : found.unread.items ≡ flat_map (unread_in channel subdir) entries

-- what is found in one part, and behind it what is found in another one
pub record IsJoined (first : Found) (second : Found) (made : Found) : Type 0 where
  pub records : made.records.items ≡ first.records.items ++ second.records.items
  pub unread : made.unread.items ≡ first.unread.items ++ second.unread.items
