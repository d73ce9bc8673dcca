-- What is read as a record is one, and each record is read.
use Rattle.std.specs.Prelude.{◌≡◌, ◌↔◌, ℕ, ◌+◌, ◌⊎◌, Bool, true, false, ◌&&◌, ◌||◌, is_some, if◌then◌else◌, List, [], ◌∷◌, codes, Option, None, Some, unwrap_or, Ok, Err}
use Rattle.std.proofs.Common.{inl, inr, refl, ap, sym, ◌∙◌, subst}
use Rattle.std.proofs.lemmas.Bool.Decides.{Decides-eqb}
use Rattle.std.proofs.lemmas.Slice.Eq.{slice_eq-Decides}
use Rattle.std.specs.Bool.{Decides}
use Rattle.std.specs.List.{list_all, list_any}
use Rattle.std.specs.Option.{ok_or}
use Rattle.serde_json.specs.Data.{Data, Items, no_items, item}
use Rattle.serde_json.specs.Find.{as_str}
use Rattle.conda_base.specs.Reads.{Read, ◌>>=◌, unless}
use Rattle.conda_base.specs.Signs.{star}
use Rattle.conda_base.specs.Texts.{IsFreeOf, is_byte, is_text}
use Rattle.conda_path.specs.Dists.{IsDist, IsSplit, dist_build, dist_name, dist_version, is_dist}
use Rattle.conda_path.specs.Files.{IsFileOf, cut_ending}
use Rattle.conda_version.specs.Grammar.{meaning, offence, version_read}
use Rattle.conda_version.specs.Text.{trimmed}
use Rattle.conda_version.specs.Versions.{IsVersionText, Meaning}
use Rattle.conda_spec.specs.Grammar.{IsSpecText}
use Rattle.conda_spec.specs.Parts.{Parts}
use Rattle.conda_spec.specs.Reading.{spec_read}
use Rattle.conda_json.specs.Fields.{each_from, optional, or_fault}
use Rattle.conda_json.specs.Json.{list_at, number_at, text_at}
use Rattle.conda_json.specs.Shown.{bound, cleared, guarded, kept, present, refused, same}
use Rattle.conda_json.specs.declared.optional.Null.{Null}
use Rattle.conda_record.specs.Records.{build_number_read, build_read, constrains_read, depends_read, dist_read, is_of_parts, is_package_byte, listed_specs, name_read, noarch_of, package_name, plain_spec, record_read, same_dist, same_subdir, specs_read, stem_of, subdir_read, timestamp_of, version_field_read, without_glob}
use Rattle.conda_record.specs.Rules.{IsRecord, MayWriteSpecs, NamesDist, WriteSpecs, WritesSpec}
use Rattle.conda_record.specs.declared.error.RecordField.{RecordField}
use Rattle.conda_record.specs.declared.noarch.Noarch.{Noarch}
use Rattle.conda_record.specs.declared.pkg_record.PkgRecord.{PkgRecord}

-- the laws of the crates below
pub record Laws : Type 0 where
  pub dist : (text : List ℕ) → (is_dist text ≡ true) ↔ IsDist text
  pub parts : (text name version build : List ℕ) → IsSplit text name version build → (dist_name text ≡ name) × (dist_version text ≡ version) × (dist_build text ≡ build)
  pub ending : (file stem : List ℕ) → (cut_ending file ≡ Some stem) ↔ IsFileOf file stem
  pub only : (text : List ℕ) (parts : Parts) → spec_read text ≡ Ok parts → IsSpecText text parts
  pub all : (text : List ℕ) (parts : Parts) → IsSpecText text parts → spec_read text ≡ Ok parts
  pub version : (text : List ℕ) → offence text ≡ None → IsVersionText text (meaning text)
  pub no_offence : (text : List ℕ) (version : Meaning) → IsVersionText text version → (offence text ≡ None) × (meaning text ≡ version)
  pub twice : (text : List ℕ) → trimmed (trimmed text) ≡ trimmed text

pub same_text : (a b : List ℕ) → Decides (is_text a b) (a ≡ b)
same_text a b = slice_eq-Decides Decides-eqb a b (is_text a b) refl

-- ---- the file's name

none_is : {A : Type 0} (o : Option A) → is_some o ≡ false → o ≡ None
none_is None e = refl
none_is (Some x) e = cc e

pub no_ending : Laws → (dist : List ℕ) → IsDist dist → cut_ending dist ≡ None
no_ending law dist is = none_is (cut_ending dist) is.no_file

named : Laws → (file : List ℕ) (o : Option (List ℕ)) → cut_ending file ≡ o → NamesDist file (unwrap_or o file)
named law file None e = inl refl
named law file (Some stem) e = inr ((law.ending file stem).0 e)

dist_ok : Laws → (file dist : List ℕ) → dist_read file ≡ Ok dist → NamesDist file dist × IsDist dist
dist_ok law file dist e =
    let good = guarded (is_dist (stem_of file)) (Ok (stem_of file)) RecordField.Fn dist e in
    let stem = same (stem_of file) dist good.1 in (
      subst (NamesDist file) stem (named law file (cut_ending file) refl),
      subst IsDist stem ((law.dist (stem_of file)).0 good.0),
    )

stem_is : Laws → (file dist : List ℕ) → NamesDist file dist → IsDist dist → stem_of file ≡ dist
stem_is law file dist (inl e) is = ap stem_of e ∙ ap (λ o. unwrap_or o dist) (no_ending law dist is)
stem_is law file dist (inr e) is = ap (λ o. unwrap_or o file) ((law.ending file dist).1 e)

pub dist_back : Laws → (file dist : List ℕ) → NamesDist file dist → IsDist dist → dist_read file ≡ Ok dist
dist_back law file dist names is =
    ap (λ (stem : List ℕ). if is_dist stem then Ok stem else Err RecordField.Fn) (stem_is law file dist names is)
    ∙ ap (λ b. if b then Ok dist else Err RecordField.Fn) ((law.dist dist).1 is)

-- ---- name and version

name_ok : (value : Data) (name : List ℕ) → name_read value ≡ Ok name → (text_at value (codes "name") ≡ Some name) × (list_all is_package_byte name ≡ true)
name_ok value name e =
    let a = bound (ok_or (text_at value (codes "name")) RecordField.Name) package_name name e in
    let good = guarded (list_all is_package_byte a.0) (Ok a.0) RecordField.Name name a.2 in
    let is = same a.0 name good.1 in (
      subst (λ n. text_at value (codes "name") ≡ Some n) is (present (text_at value (codes "name")) RecordField.Name a.0 a.1),
      subst (λ n. list_all is_package_byte n ≡ true) is good.0,
    )

pub name_back : (value : Data) (name : List ℕ) → text_at value (codes "name") ≡ Some name → list_all is_package_byte name ≡ true → name_read value ≡ Ok name
name_back value name is good =
    ap (λ o. ok_or o RecordField.Name >>= package_name) is
    ∙ ap (λ b. if b then Ok name else Err RecordField.Name) good

no_fault : {A F : Type 0} (fault : Option F) (x y : A) → unless fault x ≡ Ok y → fault ≡ None
no_fault None x y e = refl
no_fault (Some f) x y e = cc e

version_ok : Laws → (value : Data) (version : List ℕ) → version_field_read value ≡ Ok version
    → (written : List ℕ) × (text_at value (codes "version") ≡ Some written) × (version ≡ trimmed written) × IsVersionText version (meaning version)
version_ok law value version e =
    let a = bound (ok_or (text_at value (codes "version")) RecordField.Version) (λ text. or_fault (version_read text) RecordField.Version) version e in
    let read = cleared (version_read a.0) RecordField.Version version a.2 in
    let text = kept (offence (trimmed a.0)) (trimmed a.0) version read in (
      a.0,
      present (text_at value (codes "version")) RecordField.Version a.0 a.1,
      sym text,
      law.version version (ap offence (sym text) ∙ no_fault (offence (trimmed a.0)) (trimmed a.0) version read),
    )

pub version_back : Laws → (value : Data) (version written : List ℕ) (means : Meaning) → text_at value (codes "version") ≡ Some written → version ≡ trimmed written
    → IsVersionText version means → version_field_read value ≡ Ok version
version_back law value version written means is text good =
    ap (λ o. ok_or o RecordField.Version >>= (λ text. or_fault (version_read text) RecordField.Version)) is
    ∙ ap (λ (t : List ℕ). or_fault (unless (offence t) t) RecordField.Version) (sym text)
    ∙ ap (λ fault. or_fault (unless fault version) RecordField.Version) (law.no_offence version means good).0

-- ---- specifications

neither : (a b : Bool) → (a || b) ≡ false → (a ≡ false) × (b ≡ false)
neither true b e = cc e
neither false b e = (refl, e)

free : (c : ℕ) (text : List ℕ) → list_any (is_byte c) text ≡ false → IsFreeOf c text
free c [] e = tt
free c (b ∷ rest) e =
    let both = neither (is_byte c b) (list_any (is_byte c) rest) e in
    (both.0, free c rest both.1)

pub free_back : (c : ℕ) (text : List ℕ) → IsFreeOf c text → list_any (is_byte c) text ≡ false
free_back c [] free = refl
free_back c (b ∷ rest) free = ap (λ x. x || list_any (is_byte c) rest) free.0 ∙ free_back c rest free.1

spec_ok : Laws → (field : RecordField) (value : Data) (parts : Parts) → plain_spec field value ≡ Ok parts → WritesSpec value parts
spec_ok law field value parts e =
    let a = bound (ok_or (as_str value) field) (λ text. or_fault (spec_read (trimmed text)) field >>= without_glob field) parts e in
    let b = bound (or_fault (spec_read (trimmed a.0)) field) (without_glob field) parts a.2 in
    let plain = refused (list_any (is_byte star) b.0.name) field b.0 parts b.2 in
    subst (WritesSpec value) plain.1 (
      a.0,
      present (as_str value) field a.0 a.1,
      law.only (trimmed a.0) b.0 (cleared (spec_read (trimmed a.0)) field b.0 b.1),
      free star b.0.name plain.0,
    )

pub spec_back : Laws → (field : RecordField) (value : Data) (parts : Parts) → WritesSpec value parts → plain_spec field value ≡ Ok parts
spec_back law field value parts is =
    ap (λ o. ok_or o field >>= (λ text. or_fault (spec_read (trimmed text)) field >>= without_glob field)) is.1
    ∙ ap (λ r. or_fault r field >>= without_glob field) (law.all (trimmed is.0) parts is.2)
    ∙ ap (λ (b : Bool). if b then Err field else Ok parts) (free_back star parts.name is.3)

specs_ok : Laws → (field : RecordField) (at : ℕ) (items : Items) (specs : List Parts) → each_from at (λ at. plain_spec field) items ≡ Ok specs → WriteSpecs items specs
specs_ok law field at no_items specs e = subst (WriteSpecs no_items) (same [] specs e) tt
specs_ok law field at (item value rest) specs e =
    let a = bound (plain_spec field value) (λ parts. each_from (at + 1) (λ at. plain_spec field) rest >>= (λ more. Ok (parts ∷ more))) specs e in
    let b = bound (each_from (at + 1) (λ at. plain_spec field) rest) (λ more. Ok (a.0 ∷ more)) specs a.2 in
    subst (WriteSpecs (item value rest)) (same (a.0 ∷ b.0) specs b.2) (spec_ok law field value a.0 a.1, specs_ok law field (at + 1) rest b.0 b.1)

pub specs_back : Laws → (field : RecordField) (at : ℕ) (items : Items) (specs : List Parts) → WriteSpecs items specs → each_from at (λ at. plain_spec field) items ≡ Ok specs
specs_back law field at no_items [] are = refl
specs_back law field at no_items (parts ∷ specs) are = absurd are
specs_back law field at (item value rest) [] are = absurd are
specs_back law field at (item value rest) (parts ∷ specs) are =
    ap (λ r. r >>= (λ parts. each_from (at + 1) (λ at. plain_spec field) rest >>= (λ more. Ok (parts ∷ more)))) (spec_back law field value parts are.0)
    ∙ ap (λ r. r >>= (λ more. Ok (parts ∷ more))) (specs_back law field (at + 1) rest specs are.1)

depends_ok : Laws → (value : Data) (specs : List Parts) → depends_read value ≡ Ok specs
    → (elements : Items) × (list_at value (codes "depends") ≡ Some elements) × WriteSpecs elements specs
depends_ok law value specs e =
    let a = bound (ok_or (list_at value (codes "depends")) RecordField.Depends) (specs_read RecordField.Depends) specs e in
    (a.0, present (list_at value (codes "depends")) RecordField.Depends a.0 a.1, specs_ok law RecordField.Depends 0 a.0 specs a.2)

pub depends_back : Laws → (value : Data) (specs : List Parts) (elements : Items) → list_at value (codes "depends") ≡ Some elements → WriteSpecs elements specs
    → depends_read value ≡ Ok specs
depends_back law value specs elements is are =
    ap (λ o. ok_or o RecordField.Depends >>= specs_read RecordField.Depends) is
    ∙ specs_back law RecordField.Depends 0 elements specs are

-- what a list that may be absent holds
abbrev May : Read (Option Items) (List ℕ) → List Parts → Type 0
May list specs = ((list ≡ Ok None) × (specs ≡ [])) ⊎ ((elements : Items) × (list ≡ Ok (Some elements)) × WriteSpecs elements specs)

listed_ok : Laws → (list : Read (Option Items) (List ℕ)) (specs : List Parts) → (or_fault list RecordField.Constrains >>= listed_specs) ≡ Ok specs → May list specs
listed_ok law (Ok None) specs e = inl (refl, sym (same [] specs e))
listed_ok law (Ok (Some elements)) specs e = inr (elements, refl, specs_ok law RecordField.Constrains 0 elements specs e)
listed_ok law (Err name) specs e = cc e

listed_back : Laws → (list : Read (Option Items) (List ℕ)) (specs : List Parts) → May list specs → (or_fault list RecordField.Constrains >>= listed_specs) ≡ Ok specs
listed_back law list specs (inl h) = ap (λ r. or_fault r RecordField.Constrains >>= listed_specs) h.0 ∙ ap Ok (sym h.1)
listed_back law list specs (inr h) =
    ap (λ r. or_fault r RecordField.Constrains >>= listed_specs) h.1 ∙ specs_back law RecordField.Constrains 0 h.0 specs h.2

pub constrains_back : Laws → (value : Data) (specs : List Parts) → MayWriteSpecs value (codes "constrains") specs → constrains_read value ≡ Ok specs
constrains_back law value specs are = listed_back law (optional list_at Null.Bad (codes "constrains") value) specs are

-- ---- the subdir

-- no subdir is named, or this one
abbrev Names : List ℕ → Read (Option (List ℕ)) (List ℕ) → Type 0
Names subdir said = (said ≡ Ok None) ⊎ (said ≡ Ok (Some subdir))

place_ok : (said : Read (Option (List ℕ)) (List ℕ)) (subdir place : List ℕ) → (or_fault said RecordField.Subdir >>= same_subdir subdir) ≡ Ok place → Names subdir said × (place ≡ subdir)
place_ok (Ok None) subdir place e = (inl refl, sym (same subdir place e))
place_ok (Ok (Some found)) subdir place e =
    let good = guarded (is_text found subdir) (Ok subdir) RecordField.Subdir place e in
    (inr (ap (λ t. Ok (Some t)) ((same_text found subdir).0 good.0)), sym (same subdir place good.1))
place_ok (Err name) subdir place e = cc e

pub place_back : (said : Read (Option (List ℕ)) (List ℕ)) (subdir : List ℕ) → Names subdir said → (or_fault said RecordField.Subdir >>= same_subdir subdir) ≡ Ok subdir
place_back said subdir (inl e) = ap (λ r. or_fault r RecordField.Subdir >>= same_subdir subdir) e
place_back said subdir (inr e) =
    ap (λ r. or_fault r RecordField.Subdir >>= same_subdir subdir) e
    ∙ ap (λ b. if b then Ok subdir else Err RecordField.Subdir) ((same_text subdir subdir).1 refl)

-- ---- the dist's parts

all_three : (a b c : Bool) → (a && b && c) ≡ true → (a ≡ true) × (b ≡ true) × (c ≡ true)
all_three true true true e = (refl, refl, refl)
all_three true true false e = cc e
all_three true false c e = cc e
all_three false b c e = cc e

split_ok : Laws → (dist name version build : List ℕ) → IsDist dist → is_of_parts dist name version build ≡ true → IsSplit dist name version build
split_ok law dist name version build is e =
    let three = all_three (is_text (dist_name dist) name) (is_text (dist_version dist) version) (is_text (dist_build dist) build) e in
    let split = is.split in
    let found = law.parts dist split.0 split.1 split.2 split.3 in
    let name_is = sym found.0 ∙ (same_text (dist_name dist) name).0 three.0 in
    let version_is = sym found.1 ∙ (same_text (dist_version dist) version).0 three.1 in
    let build_is = sym found.2 ∙ (same_text (dist_build dist) build).0 three.2 in
    subst (λ b. IsSplit dist name version b) build_is
    (subst (λ v. IsSplit dist name v split.2) version_is
    (subst (λ n. IsSplit dist n split.1 split.2) name_is split.3))

pub split_back : Laws → (dist name version build : List ℕ) → IsSplit dist name version build → is_of_parts dist name version build ≡ true
split_back law dist name version build split =
    let found = law.parts dist name version build split in
    rw ((same_text (dist_name dist) name).1 found.0)
    (rw ((same_text (dist_version dist) version).1 found.1)
    ((same_text (dist_build dist) build).1 found.2))

-- ---- the record

abbrev package_of : List ℕ → Data → List ℕ → List ℕ → List ℕ → List ℕ → ℕ → List Parts → List Parts → List ℕ → PkgRecord
package_of channel value dist name version build number depends constrains place =
    record { name = name; version = version; build = build; build_number = number; channel = channel; subdir = place; dist = dist; depends = depends; constrains = constrains; noarch = noarch_of value; timestamp = timestamp_of value }

-- the fields that were read, and the record of them
record AllRead (dist name version build : Read (List ℕ) RecordField) (number : Read ℕ RecordField) (depends constrains : Read (List Parts) RecordField) (place : Read (List ℕ) RecordField) (made : List ℕ → List ℕ → List ℕ → List ℕ → ℕ → List Parts → List Parts → List ℕ → PkgRecord) (pkg : PkgRecord) : Type 0 where
  d : List ℕ
  n : List ℕ
  v : List ℕ
  b : List ℕ
  k : ℕ
  ds : List Parts
  cs : List Parts
  p : List ℕ
  dist_is : dist ≡ Ok d
  name_is : name ≡ Ok n
  version_is : version ≡ Ok v
  build_is : build ≡ Ok b
  number_is : number ≡ Ok k
  depends_are : depends ≡ Ok ds
  constrains_are : constrains ≡ Ok cs
  place_is : place ≡ Ok p
  made_is : same_dist (made d n v b k ds cs p) ≡ Ok pkg

all_ok : (dist name version build : Read (List ℕ) RecordField) (number : Read ℕ RecordField) (depends constrains : Read (List Parts) RecordField) (place : Read (List ℕ) RecordField) (made : List ℕ → List ℕ → List ℕ → List ℕ → ℕ → List Parts → List Parts → List ℕ → PkgRecord) (pkg : PkgRecord)
    → (dist >>= (λ d. name >>= (λ n. version >>= (λ v. build >>= (λ b. number >>= (λ k. depends >>= (λ ds. constrains >>= (λ cs. place >>= (λ p. same_dist (made d n v b k ds cs p))))))))))
    ≡ Ok pkg → AllRead dist name version build number depends constrains place made pkg
all_ok (Ok d) (Ok n) (Ok v) (Ok b) (Ok k) (Ok ds) (Ok cs) (Ok p) made pkg e =
    record { d = d; n = n; v = v; b = b; k = k; ds = ds; cs = cs; p = p; dist_is = refl; name_is = refl; version_is = refl; build_is = refl; number_is = refl; depends_are = refl; constrains_are = refl; place_is = refl; made_is = e }
all_ok (Ok d) (Ok n) (Ok v) (Ok b) (Ok k) (Ok ds) (Ok cs) (Err f) made pkg e = cc e
all_ok (Ok d) (Ok n) (Ok v) (Ok b) (Ok k) (Ok ds) (Err f) p made pkg e = cc e
all_ok (Ok d) (Ok n) (Ok v) (Ok b) (Ok k) (Err f) cs p made pkg e = cc e
all_ok (Ok d) (Ok n) (Ok v) (Ok b) (Err f) ds cs p made pkg e = cc e
all_ok (Ok d) (Ok n) (Ok v) (Err f) k ds cs p made pkg e = cc e
all_ok (Ok d) (Ok n) (Err f) b k ds cs p made pkg e = cc e
all_ok (Ok d) (Err f) v b k ds cs p made pkg e = cc e
all_ok (Err f) n v b k ds cs p made pkg e = cc e

record_ok : Laws → (value : Data) (file channel subdir : List ℕ) (pkg : PkgRecord) → record_read value file channel subdir ≡ Ok pkg
    → IsRecord value file channel subdir pkg
unfolding record_read
record_ok law value file channel subdir pkg e =
    let a = all_ok (dist_read file) (name_read value) (version_field_read value) (build_read value) (build_number_read value) (depends_read value) (constrains_read value) (subdir_read subdir value) (package_of channel value) pkg e in
    let made = package_of channel value a.d a.n a.v a.b a.k a.ds a.cs a.p in
    let good = guarded (is_of_parts a.d a.n a.v a.b) (Ok made) RecordField.Fn pkg a.made_is in
    let dist = dist_ok law file a.d a.dist_is in
    let name = name_ok value a.n a.name_is in
    let version = version_ok law value a.v a.version_is in
    let depends = depends_ok law value a.ds a.depends_are in
    let place = place_ok (optional text_at Null.Bad (codes "subdir") value) subdir a.p a.place_is in
    subst (IsRecord value file channel subdir) (same made pkg good.1)
    (record {
      written = version.0;
      meaning = meaning a.v;
      elements = depends.0;
      file_is = dist.0;
      dist = dist.1;
      parts = split_ok law a.d a.n a.v a.b dist.1 good.0;
      name = name.0;
      name_bytes = name.1;
      version = version.1;
      version_text = version.2;
      is_version = version.3;
      build = present (text_at value (codes "build")) RecordField.Build a.b a.build_is;
      build_number = present (number_at value (codes "build_number")) RecordField.BuildNumber a.k a.number_is;
      depends = depends.1;
      needs = depends.2;
      constrains = listed_ok law (optional list_at Null.Bad (codes "constrains") value) a.cs a.constrains_are;
      subdir_is = place.0;
      in_subdir = place.1;
      in_channel = refl;
      noarch = refl;
      timestamp = refl;
    })

-- the record with these in place of its own
abbrev placed : PkgRecord → List ℕ → List ℕ → Noarch → ℕ → PkgRecord
placed pkg channel subdir noarch timestamp =
    record { name = pkg.name; version = pkg.version; build = pkg.build; build_number = pkg.build_number; channel = channel; subdir = subdir; dist = pkg.dist; depends = pkg.depends; constrains = pkg.constrains; noarch = noarch; timestamp = timestamp }

pub all_back : (dist name version build : Read (List ℕ) RecordField) (number : Read ℕ RecordField) (depends constrains : Read (List Parts) RecordField) (place : Read (List ℕ) RecordField) (made : List ℕ → List ℕ → List ℕ → List ℕ → ℕ → List Parts → List Parts → List ℕ → PkgRecord)
    (d n v b : List ℕ) (k : ℕ) (ds cs : List Parts) (p : List ℕ)
    → dist ≡ Ok d → name ≡ Ok n → version ≡ Ok v → build ≡ Ok b → number ≡ Ok k → depends ≡ Ok ds → constrains ≡ Ok cs → place ≡ Ok p
    → (dist >>= (λ d. name >>= (λ n. version >>= (λ v. build >>= (λ b. number >>= (λ k. depends >>= (λ ds. constrains >>= (λ cs. place >>= (λ p. same_dist (made d n v b k ds cs p))))))))))
    ≡ same_dist (made d n v b k ds cs p)
all_back dist name version build number depends constrains place made d n v b k ds cs p de ne ve be ke dse cse pe =
    rw de (rw ne (rw ve (rw be (rw ke (rw dse (rw cse (rw pe refl)))))))

record_back : Laws → (value : Data) (file channel subdir : List ℕ) (pkg : PkgRecord) → IsRecord value file channel subdir pkg
    → record_read value file channel subdir ≡ Ok pkg
unfolding record_read
record_back law value file channel subdir pkg h =
    all_back (dist_read file) (name_read value) (version_field_read value) (build_read value) (build_number_read value) (depends_read value) (constrains_read value) (subdir_read subdir value) (package_of channel value)
    pkg.dist pkg.name pkg.version pkg.build pkg.build_number pkg.depends pkg.constrains subdir
    (dist_back law file pkg.dist h.file_is h.dist)
    (name_back value pkg.name h.name h.name_bytes)
    (version_back law value pkg.version h.written h.meaning h.version h.version_text h.is_version)
    (ap (λ o. ok_or o RecordField.Build) h.build)
    (ap (λ o. ok_or o RecordField.BuildNumber) h.build_number)
    (depends_back law value pkg.depends h.elements h.depends h.needs)
    (constrains_back law value pkg.constrains h.constrains)
    (place_back (optional text_at Null.Bad (codes "subdir") value) subdir h.subdir_is)
    ∙ ap (λ b. if b then Ok (placed pkg channel subdir (noarch_of value) (timestamp_of value)) else Err RecordField.Fn) (split_back law pkg.dist pkg.name pkg.version pkg.build h.parts)
    ∙ ap (λ c. Ok (placed pkg c subdir (noarch_of value) (timestamp_of value))) (sym h.in_channel)
    ∙ ap (λ s. Ok (placed pkg pkg.channel s (noarch_of value) (timestamp_of value))) (sym h.in_subdir)
    ∙ ap (λ n. Ok (placed pkg pkg.channel pkg.subdir n (timestamp_of value))) (sym h.noarch)
    ∙ ap (λ t. Ok (placed pkg pkg.channel pkg.subdir pkg.noarch t)) (sym h.timestamp)

pub record_law : Laws → (value : Data) (file channel subdir : List ℕ) (pkg : PkgRecord)
    → (record_read value file channel subdir ≡ Ok pkg) ↔ IsRecord value file channel subdir pkg
record_law law value file channel subdir pkg = (record_ok law value file channel subdir pkg, record_back law value file channel subdir pkg)
