-- A record alone: each that is read is well-formed, and is read again from its object.
use Rattle.std.specs.Prelude.{◌≡◌, ℕ, List, [], ◌∷◌, codes, Some, Ok}
use Rattle.std.proofs.Common.{inl, inr, refl, ap, sym, ◌∙◌, subst}
use Rattle.std.specs.List.{AllByRecursion}
use Rattle.serde_json.specs.Data.{Data, Items, no_items, item, object}
use Rattle.conda_version.specs.Text.{trimmed}
use Rattle.conda_spec.specs.Parts.{Parts}
use Rattle.conda_spec.specs.Text.{spec_text}
use Rattle.conda_json.specs.Fields.{optional}
use Rattle.conda_json.specs.Json.{list_at, number_at, text_at}
use Rattle.conda_json.specs.declared.optional.Null.{Null}
use Rattle.conda_record.specs.Records.{noarch_of, record_data, record_members, record_read, specs_data, timestamp_of}
use Rattle.conda_record.specs.Rules.{HasNoGlob, IsRecord, IsWellFormed, MayWriteSpecs, ReadsBack, WriteSpecs}
use Rattle.conda_record.specs.declared.noarch.Noarch.{Noarch}
use Rattle.conda_record.specs.declared.pkg_record.PkgRecord.{PkgRecord}
use Rattle.conda_record.proofs.ReadLemmas.{Laws, record_law}

-- ---- what is read is well-formed

no_globs : (items : Items) (specs : List Parts) → WriteSpecs items specs → AllByRecursion HasNoGlob specs
no_globs no_items [] are = tt
no_globs no_items (parts ∷ specs) are = absurd are
no_globs (item value rest) [] are = absurd are
no_globs (item value rest) (parts ∷ specs) are = (are.0.3, no_globs rest specs are.1)

may_no_globs : (value : Data) (name : List ℕ) (specs : List Parts) → MayWriteSpecs value name specs → AllByRecursion HasNoGlob specs
may_no_globs value name specs (inl h) = subst (AllByRecursion HasNoGlob) (sym h.1) tt
may_no_globs value name specs (inr h) = no_globs h.0 specs h.2

pub well_formed : Laws → (value : Data) (file channel subdir : List ℕ) (pkg : PkgRecord) → IsRecord value file channel subdir pkg → IsWellFormed pkg
well_formed law value file channel subdir pkg h =
    record {
      meaning = h.meaning;
      name = h.name_bytes;
      version = h.is_version;
      bare = ap trimmed h.version_text ∙ law.twice h.written ∙ sym h.version_text;
      dist = h.dist;
      parts = h.parts;
      depends = no_globs h.elements pkg.depends h.needs;
      constrains = may_no_globs value (codes "constrains") pkg.constrains h.constrains;
    }

-- ---- what stands in the object

-- the fields of the object, whatever it says of `noarch`
record Shows (noarch : Noarch) (pkg : PkgRecord) : Type 0 where
  name : text_at (object (record_members noarch pkg)) (codes "name") ≡ Some pkg.name
  version : text_at (object (record_members noarch pkg)) (codes "version") ≡ Some pkg.version
  build : text_at (object (record_members noarch pkg)) (codes "build") ≡ Some pkg.build
  build_number : number_at (object (record_members noarch pkg)) (codes "build_number") ≡ Some pkg.build_number
  depends : list_at (object (record_members noarch pkg)) (codes "depends") ≡ Some (specs_data pkg.depends)
  constrains : optional list_at Null.Bad (codes "constrains") (object (record_members noarch pkg)) ≡ Ok (Some (specs_data pkg.constrains))
  subdir : optional text_at Null.Bad (codes "subdir") (object (record_members noarch pkg)) ≡ Ok (Some pkg.subdir)
  noarch_is : noarch_of (object (record_members noarch pkg)) ≡ noarch
  timestamp : timestamp_of (object (record_members noarch pkg)) ≡ pkg.timestamp

shows : (noarch : Noarch) (pkg : PkgRecord) → Shows noarch pkg
shows Noarch.No pkg = record { name = refl; version = refl; build = refl; build_number = refl; depends = refl; constrains = refl; subdir = refl; noarch_is = refl; timestamp = refl }
shows Noarch.Generic pkg = record { name = refl; version = refl; build = refl; build_number = refl; depends = refl; constrains = refl; subdir = refl; noarch_is = refl; timestamp = refl }
shows Noarch.Python pkg = record { name = refl; version = refl; build = refl; build_number = refl; depends = refl; constrains = refl; subdir = refl; noarch_is = refl; timestamp = refl }

written : Laws → (specs : List Parts) → AllByRecursion HasNoGlob specs → AllByRecursion ReadsBack specs → WriteSpecs (specs_data specs) specs
written law [] free back = tt
written law (parts ∷ specs) free back =
    ((spec_text parts, refl, law.only (trimmed (spec_text parts)) parts back.0, free.0), written law specs free.1 back.1)

pub reads_back : Laws → (pkg : PkgRecord) → IsWellFormed pkg → AllByRecursion ReadsBack pkg.depends → AllByRecursion ReadsBack pkg.constrains
    → record_read (record_data pkg) pkg.dist pkg.channel pkg.subdir ≡ Ok pkg
unfolding record_data
reads_back law pkg h depends constrains =
    let s = shows pkg.noarch pkg in
    (record_law law (record_data pkg) pkg.dist pkg.channel pkg.subdir pkg).1
    (record {
      written = pkg.version;
      meaning = h.meaning;
      elements = specs_data pkg.depends;
      file_is = inl refl;
      dist = h.dist;
      parts = h.parts;
      name = s.name;
      name_bytes = h.name;
      version = s.version;
      version_text = sym h.bare;
      is_version = h.version;
      build = s.build;
      build_number = s.build_number;
      depends = s.depends;
      needs = written law pkg.depends h.depends depends;
      constrains = inr (specs_data pkg.constrains, s.constrains, written law pkg.constrains h.constrains constrains);
      subdir_is = inr s.subdir;
      in_subdir = refl;
      in_channel = refl;
      noarch = sym s.noarch_is;
      timestamp = sym s.timestamp;
    })
