-- What a revision's file and a package's record in a prefix are, in whatever order their fields are looked at.
use Rattle.std.specs.Prelude.{◌≡◌, ℕ, true, false, ◌⊎◌, List, [], ◌∷◌, codes, Some, Ok}
use Rattle.std.specs.List.{AllByRecursion}
use Rattle.hex.specs.Hex.{decode_sized}
use Rattle.serde_json.specs.Data.{Data, Items, no_items, item}
use Rattle.serde_json.specs.Find.{as_str}
use Rattle.conda_base.specs.Texts.{Ascending}
use Rattle.conda_path.specs.Dists.{IsDist}
use Rattle.conda_path.specs.Paths.{IsRelPath}
use Rattle.conda_path.specs.declared.values.Good.{Good}
use Rattle.conda_version.specs.Text.{trimmed}
use Rattle.conda_spec.specs.Grammar.{IsSpecText}
use Rattle.conda_spec.specs.Parts.{Parts}
use Rattle.conda_spec.specs.Text.{spec_text}
use Rattle.conda_words.specs.Values.{is_channel}
use Rattle.conda_json.specs.Json.{inner_at, list_at, number_at, text_at}
use Rattle.conda_paths.specs.Listings.{is_meta}
use Rattle.conda_record.specs.Rules.{HasNoGlob, IsRecord, IsWellFormed}
use Rattle.conda_record.specs.declared.pkg_record.PkgRecord.{PkgRecord}
use Rattle.conda_goods.specs.Goods.{paths_of}
use Rattle.conda_meta.specs.Reading.{dists_of, in_order}
use Rattle.conda_meta.specs.Texts.{kept_kind, kind_name, type_name}
use Rattle.conda_meta.specs.declared.linked.Linked.{Linked}
use Rattle.conda_meta.specs.declared.revision.Revision.{Revision}

-- ---- parts of both

-- a path that doesn't lie below `conda-meta`
abbrev pub IsGoodPath : List ℕ → Type 0
IsGoodPath path = IsRelPath path × (is_meta path ≡ false)

-- a folder of a channel
abbrev pub IsSubdir : List ℕ → Type 0
IsSubdir text = (text ≡ codes "linux-64") ⊎ (text ≡ codes "noarch")

-- the record of a package in a channel, which is named, and whose dist stands in this field
pub record IsRecordAt (name : List ℕ) (value : Data) (pkg : PkgRecord) : Type 0 where
  pub channel : text_at value (codes "channel") ≡ Some pkg.channel
  pub is_channel : is_channel pkg.channel ≡ true
  pub dist : text_at value name ≡ Some pkg.dist
  pub subdir : text_at value (codes "subdir") ≡ Some pkg.subdir
  pub is_subdir : IsSubdir pkg.subdir
  pub fields : IsRecord value pkg.dist pkg.channel pkg.subdir pkg

-- the elements are these, each in its place
abbrev pub Are : {A : Type 0} → (Data → A → Type 0) → Items → List A → Type 0
Are Is no_items [] = Unit {0}
Are Is no_items (x ∷ xs) = ⊥
Are Is (item value rest) [] = ⊥
Are Is (item value rest) (x ∷ xs) = Is value x × Are Is rest xs

-- ---- a revision

-- the element is this good: its kind by name, its path, 64 digits of its digest, and its size
pub record IsGood (value : Data) (good : Good) : Type 0 where
  pub digits : List ℕ
  pub kind : text_at value (codes "kind") ≡ Some (kind_name good.kind)
  pub path : text_at value (codes "path") ≡ Some good.path
  pub is_path : IsGoodPath good.path
  pub sha256 : text_at value (codes "sha256") ≡ Some digits
  pub digest : decode_sized digits 32 ≡ Ok good.digest.bytes
  pub size : number_at value (codes "size") ≡ Some good.size

-- the element is this package: its goods, ascending by path, and its record
pub record IsLinked (value : Data) (linked : Linked) : Type 0 where
  pub elements : Items
  pub inner : Data
  pub goods : list_at value (codes "goods") ≡ Some elements
  pub are_goods : Are IsGood elements linked.goods
  pub ascending : Ascending (paths_of linked.goods)
  pub rec : inner_at value (codes "record") ≡ Some inner
  pub is_record : IsRecordAt (codes "dist") inner linked.rec

-- the element is the normal form of this specification, whose name has no star
pub record IsRequested (value : Data) (parts : Parts) : Type 0 where
  pub written : as_str value ≡ Some (spec_text parts)
  pub spec : IsSpecText (trimmed (spec_text parts)) parts
  pub no_glob : HasNoGlob parts

-- the element is this dist
abbrev pub IsUnlinked : Data → List ℕ → Type 0
IsUnlinked value dist = (as_str value ≡ Some dist) × IsDist dist

-- The object is this revision: packages ascending by dist, specifications by name and text, and dists.
pub record IsRevision (value : Data) (revision : Revision) : Type 0 where
  pub packages : Items
  pub specs : Items
  pub dists : Items
  pub linked : list_at value (codes "linked") ≡ Some packages
  pub are_linked : Are IsLinked packages revision.linked
  pub ascending : Ascending (dists_of revision.linked)
  pub requested : list_at value (codes "requested") ≡ Some specs
  pub are_requested : Are IsRequested specs revision.requested
  pub in_order : in_order revision.requested ≡ true
  pub unlinked : list_at value (codes "unlinked") ≡ Some dists
  pub are_unlinked : Are IsUnlinked dists revision.unlinked

-- ---- a package in a prefix

-- the element of `files` is the good's path
abbrev pub IsFile : Data → Good → Type 0
IsFile value good = (as_str value ≡ Some good.path) × IsGoodPath good.path

-- the element of `paths_data` speaks of this good, of which it doesn't say whether it is executable
pub record IsPlaced (value : Data) (good : Good) : Type 0 where
  pub digits : List ℕ
  pub path : text_at value (codes "_path") ≡ Some good.path
  pub path_type : text_at value (codes "path_type") ≡ Some (type_name good.kind)
  pub kind : kept_kind good.kind ≡ good.kind
  pub sha256 : text_at value (codes "sha256_in_prefix") ≡ Some digits
  pub digest : decode_sized digits 32 ≡ Ok good.digest.bytes
  pub size : number_at value (codes "size_in_bytes") ≡ Some good.size

-- The object is this package: the record's own fields, the paths of its goods, ascending, and what version 1 of `paths_data` says of
-- each of them.
pub record IsPrefixRecord (value : Data) (linked : Linked) : Type 0 where
  pub files : Items
  pub inner : Data
  pub elements : Items
  pub is_record : IsRecordAt (codes "fn") value linked.rec
  pub listed : list_at value (codes "files") ≡ Some files
  pub are_files : Are IsFile files linked.goods
  pub ascending : Ascending (paths_of linked.goods)
  pub paths_data : inner_at value (codes "paths_data") ≡ Some inner
  pub version : number_at inner (codes "paths_version") ≡ Some 1
  pub paths : list_at inner (codes "paths") ≡ Some elements
  pub are_placed : Are IsPlaced elements linked.goods

-- ---- what such files give

-- A package that a revision can have: a well-formed record of a channel and a folder of it, and goods that don't lie below `conda-meta`.
pub record IsPackage (linked : Linked) : Type 0 where
  pub rec : IsWellFormed linked.rec
  pub channel : is_channel linked.rec.channel ≡ true
  pub subdir : IsSubdir linked.rec.subdir
  pub outside : AllByRecursion (λ good. is_meta good.path ≡ false) linked.goods

-- A revision that a file can have: such packages, no two of one dist and in order, and specifications in order without a star in a name.
pub record IsGoodRevision (revision : Revision) : Type 0 where
  pub packages : AllByRecursion IsPackage revision.linked
  pub ascending : Ascending (dists_of revision.linked)
  pub no_globs : AllByRecursion HasNoGlob revision.requested
  pub in_order : in_order revision.requested ≡ true
