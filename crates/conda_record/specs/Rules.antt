-- What a record is, in whatever order its fields are looked at.
use Rattle.std.specs.Prelude.{◌≡◌, ℕ, true, ◌⊎◌, List, [], ◌∷◌, codes, None, Some, Ok}
use Rattle.std.specs.List.{AllByRecursion, list_all}
use Rattle.serde_json.specs.Data.{Data, Items, no_items, item}
use Rattle.serde_json.specs.Find.{as_str}
use Rattle.conda_base.specs.Signs.{star}
use Rattle.conda_base.specs.Texts.{IsFreeOf}
use Rattle.conda_path.specs.Dists.{IsDist, IsSplit}
use Rattle.conda_path.specs.Files.{IsFileOf}
use Rattle.conda_version.specs.Text.{trimmed}
use Rattle.conda_version.specs.Versions.{IsVersionText, Meaning}
use Rattle.conda_spec.specs.Grammar.{IsSpecText}
use Rattle.conda_spec.specs.Parts.{Parts}
use Rattle.conda_spec.specs.Reading.{spec_read}
use Rattle.conda_spec.specs.Text.{spec_text}
use Rattle.conda_json.specs.Fields.{optional}
use Rattle.conda_json.specs.Json.{list_at, number_at, text_at}
use Rattle.conda_json.specs.declared.optional.Null.{Null}
use Rattle.conda_record.specs.Records.{is_package_byte, noarch_of, timestamp_of}
use Rattle.conda_record.specs.declared.pkg_record.PkgRecord.{PkgRecord}

-- ---- a record alone

-- the name of the specification has no star
abbrev pub HasNoGlob : Parts → Type 0
HasNoGlob parts = IsFreeOf star parts.name

-- The name is letters, digits, `_`, `-` and `.`; the version is one, without spaces at its ends; the dist is a dist, and that of name,
-- version and build; and no specification has a star in its name.
pub record IsWellFormed (pkg : PkgRecord) : Type 0 where
  pub meaning : Meaning
  pub name : list_all is_package_byte pkg.name ≡ true
  pub version : IsVersionText pkg.version meaning
  pub bare : trimmed pkg.version ≡ pkg.version
  pub dist : IsDist pkg.dist
  pub parts : IsSplit pkg.dist pkg.name pkg.version pkg.build
  pub depends : AllByRecursion HasNoGlob pkg.depends
  pub constrains : AllByRecursion HasNoGlob pkg.constrains

-- the specification is read from its normal form
abbrev pub ReadsBack : Parts → Type 0
ReadsBack parts = spec_read (trimmed (spec_text parts)) ≡ Ok parts

-- ---- a record and what is said of it

-- the file's name is the dist, with the ending of a package file or without it
abbrev pub NamesDist : List ℕ → List ℕ → Type 0
NamesDist file dist = (file ≡ dist) ⊎ IsFileOf file dist

-- the element is a text, and writes this specification, whose name has no star
abbrev pub WritesSpec : Data → Parts → Type 0
WritesSpec value parts = (text : List ℕ) × (as_str value ≡ Some text) × IsSpecText (trimmed text) parts × HasNoGlob parts

-- the elements write these specifications, each in its place
abbrev pub WriteSpecs : Items → List Parts → Type 0
WriteSpecs no_items [] = Unit {0}
WriteSpecs no_items (parts ∷ rest) = ⊥
WriteSpecs (item value more) [] = ⊥
WriteSpecs (item value more) (parts ∷ rest) = WritesSpec value parts × WriteSpecs more rest

-- the list, if it is there, writes these specifications
abbrev pub MayWriteSpecs : Data → List ℕ → List Parts → Type 0
MayWriteSpecs value name specs =
    ((optional list_at Null.Bad name value ≡ Ok None) × (specs ≡ []))
    ⊎ ((elements : Items) × (optional list_at Null.Bad name value ≡ Ok (Some elements)) × WriteSpecs elements specs)

-- the field, if it is there, is this text
abbrev pub MayName : Data → List ℕ → List ℕ → Type 0
MayName value name text = (optional text_at Null.Bad name value ≡ Ok None) ⊎ (optional text_at Null.Bad name value ≡ Ok (Some text))

-- The value is this record of a file in the subdir of a channel.
pub record IsRecord (value : Data) (file channel subdir : List ℕ) (pkg : PkgRecord) : Type 0 where
  pub written : List ℕ
  pub meaning : Meaning
  pub elements : Items
  pub file_is : NamesDist file pkg.dist
  pub dist : IsDist pkg.dist
  pub parts : IsSplit pkg.dist pkg.name pkg.version pkg.build
  pub name : text_at value (codes "name") ≡ Some pkg.name
  pub name_bytes : list_all is_package_byte pkg.name ≡ true
  pub version : text_at value (codes "version") ≡ Some written
  pub version_text : pkg.version ≡ trimmed written
  pub is_version : IsVersionText pkg.version meaning
  pub build : text_at value (codes "build") ≡ Some pkg.build
  pub build_number : number_at value (codes "build_number") ≡ Some pkg.build_number
  pub depends : list_at value (codes "depends") ≡ Some elements
  pub needs : WriteSpecs elements pkg.depends
  pub constrains : MayWriteSpecs value (codes "constrains") pkg.constrains
  pub subdir_is : MayName value (codes "subdir") subdir
  pub in_subdir : pkg.subdir ≡ subdir
  pub in_channel : pkg.channel ≡ channel
  pub noarch : pkg.noarch ≡ noarch_of value
  pub timestamp : pkg.timestamp ≡ timestamp_of value
