-- What is written is read again.
use Rattle.std.specs.Prelude.{◌≡◌, ◌↔◌, ◌≤◌, ◌<◌, ◌+◌, ◌||◌, ℕ, false, List, [], ◌∷◌, ◌++◌, codes, length, map, take, Some, Ok}
use Rattle.std.proofs.Common.{inl, inr, refl, ap, sym, ◌∙◌, subst, get_or, arith}
use Rattle.std.proofs.lemmas.List.{map-append, take_more}
use Rattle.std.specs.List.{AllByRecursion}
use Rattle.std.specs.Option.{ok_or}
use Rattle.hex.specs.Hex.{encode_lower}
use Rattle.serde_json.specs.Data.{Data, depth, items_depth, object, string}
use Rattle.serde_json.specs.View.{items_of, view}
use Rattle.serde_json.specs.Written.{has_float, items_have_float}
use Rattle.serde_json.specs.declared.value.Value.{Value}
use Rattle.conda_base.specs.Reads.{◌>>=◌}
use Rattle.conda_base.specs.Texts.{Ascending}
use Rattle.conda_path.specs.Dists.{IsDist}
use Rattle.conda_path.specs.declared.values.Good.{Good}
use Rattle.conda_path.specs.declared.values.Kind.{Kind}
use Rattle.conda_version.specs.Text.{trimmed}
use Rattle.conda_spec.specs.Grammar.{IsSpecText}
use Rattle.conda_spec.specs.Parts.{Parts}
use Rattle.conda_spec.specs.Reading.{spec_read}
use Rattle.conda_spec.specs.Text.{spec_text}
use Rattle.conda_json.specs.Fields.{optional, or_fault}
use Rattle.conda_json.specs.Json.{if_object, inner_at, json_of, list_at, number_at, text_at}
use Rattle.conda_json.specs.declared.error.JsonErr.{JsonErr}
use Rattle.conda_json.specs.declared.optional.Null.{Null}
use Rattle.conda_paths.specs.Listings.{is_meta}
use Rattle.conda_record.specs.Records.{noarch_of, record_data, record_members, record_read, spec_data, specs_data, timestamp_of}
use Rattle.conda_record.specs.Rules.{HasNoGlob, IsRecord, ReadsBack, WriteSpecs}
use Rattle.conda_record.specs.declared.noarch.Noarch.{Noarch}
use Rattle.conda_record.specs.declared.pkg_record.PkgRecord.{PkgRecord}
use Rattle.conda_goods.specs.Goods.{paths_of}
use Rattle.conda_meta.specs.Back.{AreWritten, IsWritten, LinkedBack, RecordBack}
use Rattle.conda_meta.specs.Reading.{in_file, prefix_of, prefix_read, revision_of, revision_read}
use Rattle.conda_meta.specs.Rules.{Are, IsFile, IsGood, IsGoodRevision, IsLinked, IsPackage, IsPlaced, IsPrefixRecord, IsRecordAt, IsRequested, IsRevision, IsUnlinked}
use Rattle.conda_meta.specs.Texts.{good_data, kept_good, kept_kind, kept_package, linked_data, paths_data, placed_data, prefix_data, prefix_members, revision_data, texts_data, type_name}
use Rattle.conda_meta.specs.declared.error.MetaErr.{MetaErr}
use Rattle.conda_meta.specs.declared.error.MetaField.{MetaField}
use Rattle.conda_meta.specs.declared.linked.Linked.{Linked}
use Rattle.conda_meta.specs.declared.revision.Revision.{Revision}

-- the laws of reading
pub record Known : Type 0 where
  pub only : (text : List ℕ) (parts : Parts) → spec_read text ≡ Ok parts → IsSpecText text parts
  pub record_is : (value : Data) (file channel subdir : List ℕ) (pkg : PkgRecord) → (record_read value file channel subdir ≡ Ok pkg) ↔ IsRecord value file channel subdir pkg
  pub revision : (value : Data) (revision : Revision) → (revision_of value ≡ Ok revision) ↔ IsRevision value revision
  pub prefix : (value : Data) (linked : Linked) → (prefix_of value ≡ Ok linked) ↔ IsPrefixRecord value linked

-- ---- loops

all_push : {A : Type 0} (P : A → Type 0) (xs : List A) (x : A) → AllByRecursion P xs → P x → AllByRecursion P (xs ++ x ∷ [])
all_push P [] x h p = (p, tt)
all_push P (y ∷ xs) x h p = (h.0, all_push P xs x h.1 p)

-- one more element of which it holds
pub all_more : {A : Type 0} (P : A → Type 0) (xs : List A) (i : ℕ) (x : A) → i < length xs → x ≡ get_or xs i x → AllByRecursion P (take i xs) → P x
    → AllByRecursion P (take (i + 1) xs)
all_more {A} P xs i x short is h p =
    let longer : take (i + 1) xs ≡ take i xs ++ x ∷ [] = take_more xs i x short ∙ ap (λ y. take i xs ++ y ∷ []) (sym is) in
    subst (AllByRecursion P) (sym longer) (all_push P (take i xs) x h p)

-- one more value is made
pub values_more : {A : Type 0} (f : A → Data) (xs : List A) (i : ℕ) (x : A) (old now : List Value) (value : Value) → i < length xs → x ≡ get_or xs i x
    → now ≡ old ++ value ∷ [] → map view old ≡ map f (take i xs) → view value ≡ f x → map view now ≡ map f (take (i + 1) xs)
values_more {A} f xs i x old now value short is e h v =
    let longer : take (i + 1) xs ≡ take i xs ++ x ∷ [] = take_more xs i x short ∙ ap (λ y. take i xs ++ y ∷ []) (sym is) in
    ap (map view) e ∙ map-append view old (value ∷ []) ∙ ap (λ ds. ds ++ view value ∷ []) h ∙ ap (λ d. map f (take i xs) ++ d ∷ []) v
    ∙ sym (map-append f (take i xs) (x ∷ [])) ∙ ap (map f) (sym longer)

-- ---- a revision

good_is : (good : Good) → IsWritten good → is_meta good.path ≡ false → IsGood (good_data good) good
good_is good written outside = record {
  digits = encode_lower good.digest.bytes;
  kind = refl;
  path = refl;
  is_path = (written.path, outside);
  sha256 = refl;
  digest = written.digest;
  size = refl;
}

goods_are : (goods : List Good) → AllByRecursion IsWritten goods → AllByRecursion (λ good. is_meta good.path ≡ false) goods
    → Are IsGood (items_of (map good_data goods)) goods
goods_are [] written outside = tt
goods_are (good ∷ goods) written outside = (good_is good written.0 outside.0, goods_are goods written.1 outside.1)

subdir_is : (noarch : Noarch) (pkg : PkgRecord) → text_at (object (record_members noarch pkg)) (codes "subdir") ≡ Some pkg.subdir
subdir_is Noarch.No pkg = refl
subdir_is Noarch.Generic pkg = refl
subdir_is Noarch.Python pkg = refl

record_at : Known → (linked : Linked) → IsPackage linked → RecordBack linked.rec → IsRecordAt (codes "dist") (record_data linked.rec) linked.rec
unfolding record_data
record_at known linked is back = record {
  channel = refl;
  is_channel = is.channel;
  dist = refl;
  subdir = subdir_is linked.rec.noarch linked.rec;
  is_subdir = is.subdir;
  fields = (known.record_is (record_data linked.rec) linked.rec.dist linked.rec.channel linked.rec.subdir linked.rec).0 (back is.rec);
}

inner_is : (linked : Linked) → inner_at (linked_data linked) (codes "record") ≡ Some (record_data linked.rec)
unfolding record_data
inner_is linked = refl

linked_is : Known → (linked : Linked) → IsPackage linked → LinkedBack linked → IsLinked (linked_data linked) linked
linked_is known linked is back = record {
  elements = items_of (map good_data linked.goods);
  inner = record_data linked.rec;
  goods = refl;
  are_goods = goods_are linked.goods back.0.goods is.outside;
  ascending = back.0.ascending;
  rec = inner_is linked;
  is_record = record_at known linked is back.1;
}

linked_are : Known → (linked : List Linked) → AllByRecursion IsPackage linked → AllByRecursion LinkedBack linked → Are IsLinked (items_of (map linked_data linked)) linked
linked_are known [] are back = tt
linked_are known (one ∷ linked) are back = (linked_is known one are.0 back.0, linked_are known linked are.1 back.1)

specs_are : Known → (specs : List Parts) → AllByRecursion HasNoGlob specs → AllByRecursion ReadsBack specs → Are IsRequested (specs_data specs) specs
specs_are known [] free back = tt
specs_are known (parts ∷ specs) free back = (
  record { written = refl; spec = known.only (trimmed (spec_text parts)) parts back.0; no_glob = free.0 },
  specs_are known specs free.1 back.1,
)

dists_are : (dists : List (List ℕ)) → AllByRecursion IsDist dists → Are IsUnlinked (texts_data dists) dists
dists_are [] are = tt
dists_are (dist ∷ dists) are = ((refl, are.0), dists_are dists are.1)

revision_is : Known → (revision : Revision) → IsGoodRevision revision → AllByRecursion LinkedBack revision.linked → AllByRecursion ReadsBack revision.requested
    → AllByRecursion IsDist revision.unlinked → IsRevision (revision_data revision) revision
unfolding revision_data
revision_is known revision good linked requested unlinked = record {
  packages = items_of (map linked_data revision.linked);
  specs = specs_data revision.requested;
  dists = texts_data revision.unlinked;
  linked = refl;
  are_linked = linked_are known revision.linked good.packages linked;
  ascending = good.ascending;
  requested = refl;
  are_requested = specs_are known revision.requested good.no_globs requested;
  in_order = good.in_order;
  unlinked = refl;
  are_unlinked = dists_are revision.unlinked unlinked;
}

pub revision_back : Known → (text : List ℕ) (revision : Revision) → IsGoodRevision revision → AllByRecursion LinkedBack revision.linked
    → AllByRecursion ReadsBack revision.requested → AllByRecursion IsDist revision.unlinked
    → json_of text ≡ Some (revision_data revision) → revision_read text ≡ Ok revision
unfolding revision_data
revision_back known text revision good linked requested unlinked is =
    ap (λ o. in_file MetaErr.BadRevision (or_fault (ok_or o JsonErr.BadJson >>= (λ value. ok_or (if_object value) JsonErr.BadJson)) MetaField.Json >>= revision_of)) is
    ∙ ap (in_file MetaErr.BadRevision) ((known.revision (revision_data revision) revision).1 (revision_is known revision good linked requested unlinked))

-- ---- a package in a prefix

-- what the object says, whatever it says of `noarch`
record Shows (noarch : Noarch) (one : Linked) : Type 0 where
  channel : text_at (object (prefix_members noarch one)) (codes "channel") ≡ Some one.rec.channel
  dist : text_at (object (prefix_members noarch one)) (codes "fn") ≡ Some one.rec.dist
  name : text_at (object (prefix_members noarch one)) (codes "name") ≡ Some one.rec.name
  version : text_at (object (prefix_members noarch one)) (codes "version") ≡ Some one.rec.version
  build : text_at (object (prefix_members noarch one)) (codes "build") ≡ Some one.rec.build
  build_number : number_at (object (prefix_members noarch one)) (codes "build_number") ≡ Some one.rec.build_number
  depends : list_at (object (prefix_members noarch one)) (codes "depends") ≡ Some (specs_data one.rec.depends)
  constrains : optional list_at Null.Bad (codes "constrains") (object (prefix_members noarch one)) ≡ Ok (Some (specs_data one.rec.constrains))
  subdir : text_at (object (prefix_members noarch one)) (codes "subdir") ≡ Some one.rec.subdir
  subdir_may : optional text_at Null.Bad (codes "subdir") (object (prefix_members noarch one)) ≡ Ok (Some one.rec.subdir)
  noarch_is : noarch_of (object (prefix_members noarch one)) ≡ noarch
  timestamp : timestamp_of (object (prefix_members noarch one)) ≡ one.rec.timestamp
  files : list_at (object (prefix_members noarch one)) (codes "files") ≡ Some (texts_data (paths_of one.goods))
  placed : inner_at (object (prefix_members noarch one)) (codes "paths_data") ≡ Some (paths_data one.goods)

shows : (noarch : Noarch) (one : Linked) → Shows noarch one
shows Noarch.No one = record { channel = refl; dist = refl; name = refl; version = refl; build = refl; build_number = refl; depends = refl; constrains = refl; subdir = refl; subdir_may = refl; noarch_is = refl; timestamp = refl; files = refl; placed = refl }
shows Noarch.Generic one = record { channel = refl; dist = refl; name = refl; version = refl; build = refl; build_number = refl; depends = refl; constrains = refl; subdir = refl; subdir_may = refl; noarch_is = refl; timestamp = refl; files = refl; placed = refl }
shows Noarch.Python one = record { channel = refl; dist = refl; name = refl; version = refl; build = refl; build_number = refl; depends = refl; constrains = refl; subdir = refl; subdir_may = refl; noarch_is = refl; timestamp = refl; files = refl; placed = refl }

specs_written : Known → (specs : List Parts) → AllByRecursion HasNoGlob specs → AllByRecursion ReadsBack specs → WriteSpecs (specs_data specs) specs
specs_written known [] free back = tt
specs_written known (parts ∷ specs) free back =
    ((spec_text parts, refl, known.only (trimmed (spec_text parts)) parts back.0, free.0), specs_written known specs free.1 back.1)

placed_type : (k : Kind) → type_name k ≡ type_name (kept_kind k)
placed_type Kind.File = refl
placed_type Kind.Exec = refl
placed_type Kind.Soft = refl

kept_twice : (k : Kind) → kept_kind (kept_kind k) ≡ kept_kind k
kept_twice Kind.File = refl
kept_twice Kind.Exec = refl
kept_twice Kind.Soft = refl

kept_paths : (goods : List Good) → paths_of (map kept_good goods) ≡ paths_of goods
kept_paths [] = refl
kept_paths (good ∷ goods) = ap (λ paths. good.path ∷ paths) (kept_paths goods)

files_are : (goods : List Good) → AllByRecursion IsWritten goods → AllByRecursion (λ good. is_meta good.path ≡ false) goods
    → Are IsFile (texts_data (paths_of goods)) (map kept_good goods)
files_are [] written outside = tt
files_are (good ∷ goods) written outside = ((refl, (written.0.path, outside.0)), files_are goods written.1 outside.1)

placed_are : (goods : List Good) → AllByRecursion IsWritten goods → Are IsPlaced (items_of (map placed_data goods)) (map kept_good goods)
placed_are [] written = tt
placed_are (good ∷ goods) written = (
  record {
    digits = encode_lower good.digest.bytes;
    path = refl;
    path_type = ap Some (placed_type good.kind);
    kind = kept_twice good.kind;
    sha256 = refl;
    digest = written.0.digest;
    size = refl;
  },
  placed_are goods written.1,
)

prefix_is : Known → (linked : Linked) → IsPackage linked → AreWritten linked → AllByRecursion ReadsBack linked.rec.depends
    → AllByRecursion ReadsBack linked.rec.constrains → IsPrefixRecord (prefix_data linked) (kept_package linked)
unfolding prefix_data
prefix_is known linked is written depends constrains =
    let s = shows linked.rec.noarch linked in
    let h = is.rec in
    record {
      files = texts_data (paths_of linked.goods);
      inner = paths_data linked.goods;
      elements = items_of (map placed_data linked.goods);
      is_record = record {
        channel = s.channel;
        is_channel = is.channel;
        dist = s.dist;
        subdir = s.subdir;
        is_subdir = is.subdir;
        fields = record {
          written = linked.rec.version;
          meaning = h.meaning;
          elements = specs_data linked.rec.depends;
          file_is = inl refl;
          dist = h.dist;
          parts = h.parts;
          name = s.name;
          name_bytes = h.name;
          version = s.version;
          version_text = sym h.bare;
          is_version = h.version;
          build = s.build;
          build_number = s.build_number;
          depends = s.depends;
          needs = specs_written known linked.rec.depends h.depends depends;
          constrains = inr (specs_data linked.rec.constrains, s.constrains, specs_written known linked.rec.constrains h.constrains constrains);
          subdir_is = inr s.subdir_may;
          in_subdir = refl;
          in_channel = refl;
          noarch = sym s.noarch_is;
          timestamp = sym s.timestamp;
        };
      };
      listed = s.files;
      are_files = files_are linked.goods written.goods is.outside;
      ascending = subst Ascending (sym (kept_paths linked.goods)) written.ascending;
      paths_data = s.placed;
      version = refl;
      paths = refl;
      are_placed = placed_are linked.goods written.goods;
    }

pub prefix_back : Known → (text : List ℕ) (linked : Linked) → IsPackage linked → AreWritten linked → AllByRecursion ReadsBack linked.rec.depends
    → AllByRecursion ReadsBack linked.rec.constrains → json_of text ≡ Some (prefix_data linked) → prefix_read text ≡ Ok (kept_package linked)
unfolding prefix_data
prefix_back known text linked is written depends constrains json =
    ap (λ o. in_file MetaErr.BadPrefixRecord (or_fault (ok_or o JsonErr.BadJson >>= (λ value. ok_or (if_object value) JsonErr.BadJson)) MetaField.Json >>= prefix_of)) json
    ∙ ap (in_file MetaErr.BadPrefixRecord) ((known.prefix (prefix_data linked) (kept_package linked)).1 (prefix_is known linked is written depends constrains))

-- ---- how deep the objects are, and that no number in them is a float

items_low : {A : Type 0} (f : A → Data) (n : ℕ) → ((x : A) → depth (f x) ≤ n) → (xs : List A) → items_depth (items_of (map f xs)) ≤ n
items_low f n low [] = omega arith
items_low f n low (x ∷ xs) = omega (arith, low x, items_low f n low xs)

items_whole : {A : Type 0} (f : A → Data) → ((x : A) → has_float (f x) ≡ false) → (xs : List A) → items_have_float (items_of (map f xs)) ≡ false
items_whole f whole [] = refl
items_whole f whole (x ∷ xs) = ap (λ b. b || items_have_float (items_of (map f xs))) (whole x) ∙ items_whole f whole xs

members_low : (noarch : Noarch) (pkg : PkgRecord) → depth (object (record_members noarch pkg)) ≤ 2
members_low Noarch.No pkg = omega (arith, items_low spec_data 0 (λ x. omega arith) pkg.depends, items_low spec_data 0 (λ x. omega arith) pkg.constrains)
members_low Noarch.Generic pkg = omega (arith, items_low spec_data 0 (λ x. omega arith) pkg.depends, items_low spec_data 0 (λ x. omega arith) pkg.constrains)
members_low Noarch.Python pkg = omega (arith, items_low spec_data 0 (λ x. omega arith) pkg.depends, items_low spec_data 0 (λ x. omega arith) pkg.constrains)

record_low : (pkg : PkgRecord) → depth (record_data pkg) ≤ 2
unfolding record_data
record_low pkg = members_low pkg.noarch pkg

linked_low : (linked : Linked) → depth (linked_data linked) ≤ 3
linked_low linked = omega (arith, items_low good_data 1 (λ x. omega arith) linked.goods, record_low linked.rec)

pub revision_low : (revision : Revision) → depth (revision_data revision) ≤ 127
unfolding revision_data
revision_low revision = omega (arith, items_low linked_data 3 linked_low revision.linked, items_low spec_data 0 (λ x. omega arith) revision.requested, items_low string 0 (λ x. omega arith) revision.unlinked)

members_whole : (noarch : Noarch) (pkg : PkgRecord) → has_float (object (record_members noarch pkg)) ≡ false
members_whole Noarch.No pkg = rw (items_whole spec_data (λ x. refl) pkg.constrains) (rw (items_whole spec_data (λ x. refl) pkg.depends) refl)
members_whole Noarch.Generic pkg = rw (items_whole spec_data (λ x. refl) pkg.constrains) (rw (items_whole spec_data (λ x. refl) pkg.depends) refl)
members_whole Noarch.Python pkg = rw (items_whole spec_data (λ x. refl) pkg.constrains) (rw (items_whole spec_data (λ x. refl) pkg.depends) refl)

record_whole : (pkg : PkgRecord) → has_float (record_data pkg) ≡ false
unfolding record_data
record_whole pkg = members_whole pkg.noarch pkg

linked_whole : (linked : Linked) → has_float (linked_data linked) ≡ false
linked_whole linked = rw (items_whole good_data (λ x. refl) linked.goods) (rw (record_whole linked.rec) refl)

pub revision_whole : (revision : Revision) → has_float (revision_data revision) ≡ false
unfolding revision_data
revision_whole revision =
    rw (items_whole linked_data linked_whole revision.linked) (rw (items_whole spec_data (λ x. refl) revision.requested) (rw (items_whole string (λ x. refl) revision.unlinked) refl))

placed_low : (noarch : Noarch) (one : Linked) → depth (object (prefix_members noarch one)) ≤ 127
placed_low Noarch.No one = omega (arith, items_low spec_data 0 (λ x. omega arith) one.rec.depends, items_low spec_data 0 (λ x. omega arith) one.rec.constrains, items_low string 0 (λ x. omega arith) (paths_of one.goods), items_low placed_data 1 (λ x. omega arith) one.goods)
placed_low Noarch.Generic one = omega (arith, items_low spec_data 0 (λ x. omega arith) one.rec.depends, items_low spec_data 0 (λ x. omega arith) one.rec.constrains, items_low string 0 (λ x. omega arith) (paths_of one.goods), items_low placed_data 1 (λ x. omega arith) one.goods)
placed_low Noarch.Python one = omega (arith, items_low spec_data 0 (λ x. omega arith) one.rec.depends, items_low spec_data 0 (λ x. omega arith) one.rec.constrains, items_low string 0 (λ x. omega arith) (paths_of one.goods), items_low placed_data 1 (λ x. omega arith) one.goods)

pub prefix_low : (linked : Linked) → depth (prefix_data linked) ≤ 127
unfolding prefix_data
prefix_low linked = placed_low linked.rec.noarch linked

placed_whole : (noarch : Noarch) (one : Linked) → has_float (object (prefix_members noarch one)) ≡ false
placed_whole Noarch.No one = rw (items_whole spec_data (λ x. refl) one.rec.constrains) (rw (items_whole spec_data (λ x. refl) one.rec.depends) (rw (items_whole string (λ x. refl) (paths_of one.goods)) (rw (items_whole placed_data (λ x. refl) one.goods) refl)))
placed_whole Noarch.Generic one = rw (items_whole spec_data (λ x. refl) one.rec.constrains) (rw (items_whole spec_data (λ x. refl) one.rec.depends) (rw (items_whole string (λ x. refl) (paths_of one.goods)) (rw (items_whole placed_data (λ x. refl) one.goods) refl)))
placed_whole Noarch.Python one = rw (items_whole spec_data (λ x. refl) one.rec.constrains) (rw (items_whole spec_data (λ x. refl) one.rec.depends) (rw (items_whole string (λ x. refl) (paths_of one.goods)) (rw (items_whole placed_data (λ x. refl) one.goods) refl)))

pub prefix_whole : (linked : Linked) → has_float (prefix_data linked) ≡ false
unfolding prefix_data
prefix_whole linked = placed_whole linked.rec.noarch linked
