-- The entries of a repodata text, as conda's channels have them; which one is taken of several of one dist is this project's own rule.
use Rattle.std.specs.Prelude.{ℕ, ◌*◌, nat_eq, nat_le, is_some, if◌then◌else◌, List, codes, Ok, Err}
use Rattle.std.specs.List.{ends_with}
use Rattle.std.specs.Ordering.{nat_cmp, ordering_then}
use Rattle.std.specs.Cmp.Lexicographic.{slice_cmp}
use Rattle.std.specs.declared.cmp.Ordering.{Ordering}
use Rattle.serde_json.specs.Data.{Data}
use Rattle.conda_base.specs.Reads.{Read, ◌>>=◌}
use Rattle.conda_path.specs.Files.{cut_ending}
use Rattle.conda_record.specs.Records.{record_read}
use Rattle.conda_record.specs.declared.error.RecordField.{RecordField}
use Rattle.conda_record.specs.declared.pkg_record.PkgRecord.{PkgRecord}
use Rattle.conda_repodata.specs.declared.aside.Aside.{Aside}
use Rattle.conda_repodata.specs.declared.aside.Section.{Section}
use Rattle.conda_repodata.specs.declared.aside.Unread.{Unread}

-- the name of the object
abbrev pub section_name : Section → List ℕ
section_name Section.Packages = codes "packages"
section_name Section.PackagesConda = codes "packages.conda"

-- ---- what an entry says

-- A timestamp in milliseconds. Up to the last second of the year 9999 it is given in seconds, which is this project's own rule.
abbrev pub in_milliseconds : ℕ → ℕ
in_milliseconds timestamp = if nat_le timestamp 253402300799 then timestamp * 1000 else timestamp

-- the record with its timestamp in milliseconds
abbrev pub dated : PkgRecord → PkgRecord
dated pkg = record pkg { timestamp = in_milliseconds pkg.timestamp }

-- the record that an entry is, the name of its file with an ending, or the first field that is bad
abbrev pub entry_read : List ℕ → List ℕ → List ℕ → Data → Read PkgRecord RecordField
entry_read channel subdir file value =
    if is_some (cut_ending file) then record_read value file channel subdir >>= (λ pkg. Ok (dated pkg)) else Err RecordField.Fn

-- ---- their orders

-- Of the entries of one dist that of the least rank is taken: one in `packages.conda` before one in `packages`, and in one object a
-- `.conda` file before a `.tar.bz2` file.
abbrev pub rank : Section → List ℕ → ℕ
rank Section.PackagesConda file = if ends_with nat_eq file (codes ".conda") then 0 else 1
rank Section.Packages file = if ends_with nat_eq file (codes ".conda") then 2 else 3

-- the dist of a record
abbrev pub dist_of : PkgRecord → List ℕ
dist_of pkg = pkg.dist

-- `packages` before `packages.conda`
abbrev pub section_cmp : Section → Section → Ordering
section_cmp Section.Packages Section.Packages = Ordering.Equal
section_cmp Section.Packages Section.PackagesConda = Ordering.Less
section_cmp Section.PackagesConda Section.Packages = Ordering.Greater
section_cmp Section.PackagesConda Section.PackagesConda = Ordering.Equal

-- the place of an entry that is set aside: the name of its file, and its object
abbrev pub place_of : Unread → List ℕ × Section
place_of unread = (unread.file, unread.section)

-- by the names of the files, and where two are equal by the objects
abbrev pub place_cmp : List ℕ × Section → List ℕ × Section → Ordering
place_cmp a b = ordering_then (slice_cmp nat_cmp a.0 b.0) (section_cmp a.1 b.1)

-- what is said of an entry that is set aside
abbrev pub aside_of : Unread → Aside
aside_of unread = record { file = unread.file; field = unread.field }
