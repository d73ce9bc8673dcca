-- The reader as a function: the entries of `packages.conda`, then those of `packages`, in the order of their files. So of the entries of
-- one dist that are read the first is the one to be taken.
use Rattle.std.specs.Prelude.{ℕ, List, [], ◌∷◌, ◌++◌, map, Option, None, Some, unwrap_or, Ok, Err}
use Rattle.std.specs.Ordering.{nat_cmp}
use Rattle.std.specs.Cmp.Lexicographic.{slice_cmp}
use Rattle.serde_json.specs.Data.{Data, Members, no_members, member}
use Rattle.conda_base.specs.Reads.{Read, ◌>>=◌}
use Rattle.conda_json.specs.Fields.{optional, or_fault}
use Rattle.conda_json.specs.Json.{object_at, object_read}
use Rattle.conda_json.specs.declared.optional.Null.{Null}
use Rattle.conda_record.specs.declared.error.RecordField.{RecordField}
use Rattle.conda_record.specs.declared.pkg_record.PkgRecord.{PkgRecord}
use Rattle.conda_repodata.specs.Ascending.{ascending}
use Rattle.conda_repodata.specs.Entries.{aside_of, dist_of, entry_read, place_cmp, place_of, section_name}
use Rattle.conda_repodata.specs.declared.aside.Section.{Section}
use Rattle.conda_repodata.specs.declared.aside.Unread.{Unread}
use Rattle.conda_repodata.specs.declared.error.RepodataErr.{RepodataErr}
use Rattle.conda_repodata.specs.declared.error.RepodataField.{RepodataField}
use Rattle.conda_repodata.specs.declared.repodata.Repodata.{Repodata}

-- the field that an error names
abbrev pub repodata_fault_of : RepodataErr → Option RepodataField
repodata_fault_of (RepodataErr.BadRepodata field) = Some field
repodata_fault_of RepodataErr.Memory = None

-- the field that an object is
abbrev pub section_field : Section → RepodataField
section_field Section.Packages = RepodataField.Packages
section_field Section.PackagesConda = RepodataField.PackagesConda

-- the members of the object; none where it is absent
abbrev pub section_read : Data → Section → Read Members RepodataField
section_read text section =
    or_fault (optional object_at Null.Bad (section_name section) text) (section_field section) >>= (λ found.
    Ok (unwrap_or found no_members))

-- a record, in front of others, where an entry is one
abbrev pub if_read : Read PkgRecord RecordField → List PkgRecord → List PkgRecord
if_read (Ok pkg) rest = pkg ∷ rest
if_read (Err field) rest = rest

-- the records of an object's entries
abbrev pub records_of : List ℕ → List ℕ → Members → List PkgRecord
records_of channel subdir no_members = []
records_of channel subdir (member file value rest) = if_read (entry_read channel subdir file value) (records_of channel subdir rest)

-- an entry, in front of others, where it is none
abbrev pub if_unread : Section → List ℕ → Read PkgRecord RecordField → List Unread → List Unread
if_unread section file (Ok pkg) rest = rest
if_unread section file (Err field) rest = record { file = file; section = section; field = field } ∷ rest

-- those of an object's entries that are none
abbrev pub unread_of : Section → List ℕ → List ℕ → Members → List Unread
unread_of section channel subdir no_members = []
unread_of section channel subdir (member file value rest) =
    if_unread section file (entry_read channel subdir file value) (unread_of section channel subdir rest)

-- the records of both objects' entries
abbrev pub all_records : List ℕ → List ℕ → Members → Members → List PkgRecord
all_records channel subdir packages conda = records_of channel subdir conda ++ records_of channel subdir packages

-- the entries of both that are none
abbrev pub all_unread : List ℕ → List ℕ → Members → Members → List Unread
all_unread channel subdir packages conda =
    unread_of Section.PackagesConda channel subdir conda ++ unread_of Section.Packages channel subdir packages

-- what the members of the two objects mean
abbrev pub repodata_with : List ℕ → List ℕ → Members → Members → Repodata
repodata_with channel subdir packages conda = record {
  recs = ascending (slice_cmp nat_cmp) dist_of (all_records channel subdir packages conda);
  aside = map aside_of (ascending place_cmp place_of (all_unread channel subdir packages conda));
}

-- what an object means for the subdir of a channel
abbrev pub repodata_of : Data → List ℕ → List ℕ → Read Repodata RepodataField
repodata_of text channel subdir = do
  packages ← section_read text Section.Packages
  conda ← section_read text Section.PackagesConda
  Ok (repodata_with channel subdir packages conda)

-- what bytes mean for the subdir of a channel
abbrev pub repodata_read : List ℕ → List ℕ → List ℕ → Read Repodata RepodataField
repodata_read bytes channel subdir = or_fault (object_read bytes) RepodataField.Json >>= (λ text. repodata_of text channel subdir)
