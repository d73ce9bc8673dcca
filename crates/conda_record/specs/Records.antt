-- The record of a package, as channels of conda have it; the tests and their order are this project's own.
use Rattle.std.specs.Prelude.{ℕ, Bool, ◌&&◌, ◌||◌, ◌==◌, if◌then◌else◌, List, [], codes, map, Option, None, Some, unwrap_or, Ok, Err}
use Rattle.std.specs.Char.{is_ascii_alphanumeric}
use Rattle.std.specs.List.{list_all, list_any}
use Rattle.std.specs.Option.{ok_or, option_map_or}
use Rattle.serde_json.specs.Data.{Data, null, boolean, number, string, array, object, unsigned, Items, Members, no_members, member}
use Rattle.serde_json.specs.Find.{get, as_str}
use Rattle.serde_json.specs.View.{items_of}
use Rattle.conda_base.specs.Reads.{Read, ◌>>=◌}
use Rattle.conda_base.specs.Signs.{dash, dot, star, underscore}
use Rattle.conda_base.specs.Texts.{is_byte, is_text}
use Rattle.conda_path.specs.Dists.{dist_build, dist_name, dist_version, is_dist}
use Rattle.conda_path.specs.Files.{cut_ending}
use Rattle.conda_path.specs.declared.slot.SlotKey.{SlotKey}
use Rattle.conda_version.specs.Grammar.{version_read}
use Rattle.conda_version.specs.Text.{trimmed}
use Rattle.conda_spec.specs.Parts.{Parts}
use Rattle.conda_spec.specs.Reading.{spec_read}
use Rattle.conda_spec.specs.Text.{spec_text}
use Rattle.conda_json.specs.Fields.{each_from, optional, or_fault}
use Rattle.conda_json.specs.Json.{list_at, number_at, text_at}
use Rattle.conda_json.specs.declared.optional.Null.{Null}
use Rattle.conda_record.specs.declared.error.RecordErr.{RecordErr}
use Rattle.conda_record.specs.declared.error.RecordField.{RecordField}
use Rattle.conda_record.specs.declared.noarch.Noarch.{Noarch}
use Rattle.conda_record.specs.declared.pkg_record.PkgRecord.{PkgRecord}

-- the field that an error names
abbrev pub record_fault_of : RecordErr → Option RecordField
record_fault_of (RecordErr.BadRecord field) = Some field
record_fault_of RecordErr.Memory = None

-- ---- the fields that have to be right

-- a file's name without its ending, if it has one
abbrev pub stem_of : List ℕ → List ℕ
stem_of file = unwrap_or (cut_ending file) file

abbrev pub dist_read : List ℕ → Read (List ℕ) RecordField
dist_read file = if is_dist (stem_of file) then Ok (stem_of file) else Err RecordField.Fn

-- a character of a package's name: a letter, a digit, `_`, `-` or `.`
abbrev pub is_package_byte : ℕ → Bool
is_package_byte b = is_ascii_alphanumeric b || b == underscore || b == dash || b == dot

abbrev pub package_name : List ℕ → Read (List ℕ) RecordField
package_name text = if list_all is_package_byte text then Ok text else Err RecordField.Name

abbrev pub name_read : Data → Read (List ℕ) RecordField
name_read value = ok_or (text_at value (codes "name")) RecordField.Name >>= package_name

abbrev pub version_field_read : Data → Read (List ℕ) RecordField
version_field_read value =
    ok_or (text_at value (codes "version")) RecordField.Version >>= (λ text. or_fault (version_read text) RecordField.Version)

abbrev pub build_read : Data → Read (List ℕ) RecordField
build_read value = ok_or (text_at value (codes "build")) RecordField.Build

abbrev pub build_number_read : Data → Read ℕ RecordField
build_number_read value = ok_or (number_at value (codes "build_number")) RecordField.BuildNumber

-- a specification without a star in its name
abbrev pub without_glob : RecordField → Parts → Read Parts RecordField
without_glob field parts = if list_any (is_byte star) parts.name then Err field else Ok parts

-- the specification that an element of this field's list is
abbrev pub plain_spec : RecordField → Data → Read Parts RecordField
plain_spec field value = ok_or (as_str value) field >>= (λ text. or_fault (spec_read (trimmed text)) field >>= without_glob field)

abbrev pub specs_read : RecordField → Items → Read (List Parts) RecordField
specs_read field = each_from 0 (λ at. plain_spec field)

abbrev pub depends_read : Data → Read (List Parts) RecordField
depends_read value = ok_or (list_at value (codes "depends")) RecordField.Depends >>= specs_read RecordField.Depends

-- the specifications of a list that may be absent
abbrev pub listed_specs : Option Items → Read (List Parts) RecordField
listed_specs None = Ok []
listed_specs (Some elements) = specs_read RecordField.Constrains elements

abbrev pub constrains_read : Data → Read (List Parts) RecordField
constrains_read value = or_fault (optional list_at Null.Bad (codes "constrains") value) RecordField.Constrains >>= listed_specs

-- the subdir, unless another one is named
abbrev pub same_subdir : List ℕ → Option (List ℕ) → Read (List ℕ) RecordField
same_subdir subdir None = Ok subdir
same_subdir subdir (Some found) = if is_text found subdir then Ok subdir else Err RecordField.Subdir

abbrev pub subdir_read : List ℕ → Data → Read (List ℕ) RecordField
subdir_read subdir value = or_fault (optional text_at Null.Bad (codes "subdir") value) RecordField.Subdir >>= same_subdir subdir

-- ---- the fields that may be anything

abbrev pub noarch_said : Data → Noarch
noarch_said null = Noarch.No
noarch_said (boolean truth) = if truth then Noarch.Generic else Noarch.No
noarch_said (number _) = Noarch.Generic
noarch_said (string text) = if is_text text (codes "python") then Noarch.Python else Noarch.Generic
noarch_said (array _) = Noarch.Generic
noarch_said (object _) = Noarch.Generic

abbrev pub noarch_of : Data → Noarch
noarch_of value = option_map_or noarch_said (get (codes "noarch") value) Noarch.No

-- milliseconds where they are given as a whole number below 2^64
abbrev pub timestamp_of : Data → ℕ
timestamp_of value = unwrap_or (number_at value (codes "timestamp")) 0

-- ---- the record

-- the dist is of this name, version and build, part by part
abbrev pub is_of_parts : List ℕ → List ℕ → List ℕ → List ℕ → Bool
is_of_parts dist name version build =
    is_text (dist_name dist) name && is_text (dist_version dist) version && is_text (dist_build dist) build

-- the record, if its dist is that of its fields
abbrev pub same_dist : PkgRecord → Read PkgRecord RecordField
same_dist pkg =
    if is_of_parts pkg.dist pkg.name pkg.version pkg.build then Ok pkg else Err RecordField.Fn

-- the record that a value means, which stands for a file in the subdir of a channel
unfoldable pub record_read : Data → List ℕ → List ℕ → List ℕ → Read PkgRecord RecordField
record_read value file channel subdir = do
  dist ← dist_read file
  name ← name_read value
  version ← version_field_read value
  build ← build_read value
  build_number ← build_number_read value
  depends ← depends_read value
  constrains ← constrains_read value
  place ← subdir_read subdir value
  same_dist
      (record {
        name = name;
        version = version;
        build = build;
        build_number = build_number;
        channel = channel;
        subdir = place;
        dist = dist;
        depends = depends;
        constrains = constrains;
        noarch = noarch_of value;
        timestamp = timestamp_of value;
      })

-- ---- the object that stands for a record

abbrev pub spec_data : Parts → Data
spec_data parts = string (spec_text parts)

abbrev pub specs_data : List Parts → Items
specs_data specs = items_of (map spec_data specs)

-- the member `noarch`, which says nothing of a package of one platform, in front of others
abbrev pub noarch_member : Noarch → Members → Members
noarch_member Noarch.No rest = rest
noarch_member Noarch.Generic rest = member (codes "noarch") (string (codes "generic")) rest
noarch_member Noarch.Python rest = member (codes "noarch") (string (codes "python")) rest

-- the members of a record's object, with this said of `noarch`
abbrev pub record_members : Noarch → PkgRecord → Members
record_members noarch pkg =
    member (codes "build") (string pkg.build)
    (member (codes "build_number") (number (unsigned pkg.build_number))
    (member (codes "channel") (string pkg.channel)
    (member (codes "constrains") (array (specs_data pkg.constrains))
    (member (codes "depends") (array (specs_data pkg.depends))
    (member (codes "dist") (string pkg.dist)
    (member (codes "name") (string pkg.name)
    (noarch_member noarch
    (member (codes "subdir") (string pkg.subdir)
    (member (codes "timestamp") (number (unsigned pkg.timestamp))
    (member (codes "version") (string pkg.version) no_members))))))))))

unfoldable pub record_data : PkgRecord → Data
record_data pkg = object (record_members pkg.noarch pkg)

-- the package's key in the cache
abbrev pub key_of : PkgRecord → SlotKey
key_of pkg = record { channel = pkg.channel; subdir = pkg.subdir; dist = pkg.dist }
