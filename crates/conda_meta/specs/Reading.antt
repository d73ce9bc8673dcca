-- The meta files of an environment and how they are read: `conda-meta/revisions/<n>.json`, what a revision changed, and
-- `conda-meta/<dist>.json`, a linked package. The first is this project's own; of the second the fields are conda's. The fields are tested
-- in the order of these definitions.
use Rattle.std.specs.Prelude.{ℕ, Bool, true, false, ◌&&◌, ◌||◌, not, if◌then◌else◌, List, [], ◌∷◌, codes, map, Option, None, Some, is_some, option_and_then, Ok, Err}
use Rattle.std.specs.Cmp.Lexicographic.{slice_cmp}
use Rattle.std.specs.List.{list_any}
use Rattle.std.specs.Option.{ok_or, option_map_or}
use Rattle.std.specs.Ordering.{is_le, is_lt, nat_cmp, ordering_then}
use Rattle.hex.specs.Hex.{decode_sized}
use Rattle.serde_json.specs.Data.{Data, Items, no_items, item}
use Rattle.serde_json.specs.Find.{as_object, as_str}
use Rattle.conda_base.specs.Reads.{Read, ◌>>=◌}
use Rattle.conda_base.specs.Signs.{star}
use Rattle.conda_base.specs.Texts.{is_byte, is_text}
use Rattle.conda_path.specs.Dists.{is_dist}
use Rattle.conda_path.specs.Faults.{path_read}
use Rattle.conda_path.specs.declared.values.Digest.{Digest}
use Rattle.conda_path.specs.declared.values.Good.{Good}
use Rattle.conda_path.specs.declared.values.Kind.{Kind}
use Rattle.conda_version.specs.Text.{trimmed}
use Rattle.conda_spec.specs.Parts.{Parts}
use Rattle.conda_spec.specs.Reading.{spec_read}
use Rattle.conda_spec.specs.Text.{spec_text}
use Rattle.conda_words.specs.Values.{is_channel}
use Rattle.conda_json.specs.Fields.{each_from, or_fault}
use Rattle.conda_json.specs.Json.{inner_at, list_at, number_at, object_read, text_at}
use Rattle.conda_paths.specs.Listings.{is_meta, is_version_one}
use Rattle.conda_record.specs.Records.{record_read}
use Rattle.conda_record.specs.declared.error.RecordField.{RecordField}
use Rattle.conda_record.specs.declared.pkg_record.PkgRecord.{PkgRecord}
use Rattle.conda_goods.specs.Goods.{paths_of}
use Rattle.conda_meta.specs.declared.error.FieldErr.{FieldErr}
use Rattle.conda_meta.specs.declared.error.MetaErr.{MetaErr}
use Rattle.conda_meta.specs.declared.error.MetaField.{MetaField}
use Rattle.conda_meta.specs.declared.linked.Linked.{Linked}
use Rattle.conda_meta.specs.declared.revision.Revision.{Revision}

-- ---- faults

-- the field that an error names
abbrev pub field_fault_of : FieldErr → Option MetaField
field_fault_of (FieldErr.Bad field) = Some field
field_fault_of FieldErr.Memory = None

-- which fault an error names: each but want of memory
abbrev pub meta_fault_of : MetaErr → Option MetaErr
meta_fault_of (MetaErr.BadRevision field) = Some (MetaErr.BadRevision field)
meta_fault_of (MetaErr.BadPrefixRecord field) = Some (MetaErr.BadPrefixRecord field)
meta_fault_of MetaErr.Memory = None

-- the value, where it is as it has to be
abbrev pub where_so : {A : Type 0} → Bool → MetaField → A → Read A MetaField
where_so holds field x = if holds then Ok x else Err field

-- ---- lists in order

-- the text comes before the first of these by bytes, if there is one
abbrev pub comes_first : List ℕ → List (List ℕ) → Bool
comes_first text [] = true
comes_first text (next ∷ rest) = is_lt (slice_cmp nat_cmp text next)

-- each text comes before the next one by bytes, so that none stands twice
abbrev pub ascend : List (List ℕ) → Bool
ascend [] = true
ascend (text ∷ rest) = comes_first text rest && ascend rest

-- the text comes behind another one, if there is one
abbrev pub follows : Option (List ℕ) → List ℕ → Bool
follows None text = true
follows (Some last) text = is_lt (slice_cmp nat_cmp last text)

-- for the loop that tests it: texts behind another one ascend with it
abbrev pub ascend_behind : Option (List ℕ) → List (List ℕ) → Bool
ascend_behind None texts = ascend texts
ascend_behind (Some last) texts = ascend (last ∷ texts)

-- ---- goods

abbrev pub kind_named : List ℕ → Option Kind
kind_named text =
    if is_text text (codes "file") then Some Kind.File
    else if is_text text (codes "exec") then Some Kind.Exec
    else if is_text text (codes "soft") then Some Kind.Soft
    else None

-- a path of a good: one that doesn't lie below `conda-meta`
abbrev pub good_path : MetaField → List ℕ → Read (List ℕ) MetaField
good_path field text = if is_meta text then Err field else or_fault (path_read text) field

-- the SHA-256 digest in the named field, in 64 hexadecimal digits of either case
abbrev pub digest_read : MetaField → List ℕ → Data → Read Digest MetaField
digest_read field name value = ok_or (text_at value name) field >>= (λ text.
    or_fault (decode_sized text 32) field >>= (λ bytes. Ok (record { bytes = bytes })))

abbrev pub kind_read : Data → Read Kind MetaField
kind_read value = ok_or (option_and_then kind_named (text_at value (codes "kind"))) MetaField.Goods

-- the path of a good in a revision
abbrev pub path_field_read : Data → Read (List ℕ) MetaField
path_field_read value = ok_or (text_at value (codes "path")) MetaField.Goods >>= good_path MetaField.Goods

-- the good that an element of a revision's `goods` means
abbrev pub good_read : Data → Read Good MetaField
good_read value = do
  kind ← kind_read value
  path ← path_field_read value
  digest ← digest_read MetaField.Goods (codes "sha256") value
  size ← ok_or (number_at value (codes "size")) MetaField.Goods
  Ok (record { path = path; kind = kind; size = size; digest = digest })

-- the goods of a package in a revision, which ascend by path
abbrev pub goods_read : Data → Read (List Good) MetaField
goods_read value = do
  elements ← ok_or (list_at value (codes "goods")) MetaField.Goods
  goods ← each_from 0 (λ at. good_read) elements
  where_so (ascend (paths_of goods)) MetaField.Goods goods

-- ---- records

abbrev pub channel_read : Data → Read (List ℕ) MetaField
channel_read value = ok_or (text_at value (codes "channel")) MetaField.Channel >>= (λ text. where_so (is_channel text) MetaField.Channel text)

-- the dist that a text is
abbrev pub dist_read : MetaField → List ℕ → Read (List ℕ) MetaField
dist_read field text = where_so (is_dist text) field text

-- the dist in the named field
abbrev pub dist_at : MetaField → List ℕ → Data → Read (List ℕ) MetaField
dist_at field name value = ok_or (text_at value name) field >>= dist_read field

-- a folder of a channel
abbrev pub is_subdir : List ℕ → Bool
is_subdir text = is_text text (codes "linux-64") || is_text text (codes "noarch")

abbrev pub if_subdir : List ℕ → Option (List ℕ)
if_subdir text = if is_subdir text then Some text else None

-- the folder that the field `subdir` names, which has to be there
abbrev pub subdir_at : Data → Option (List ℕ)
subdir_at value = option_and_then if_subdir (text_at value (codes "subdir"))

-- what is wrong before the subdir, or else that the subdir is: only the dist is tested behind it
abbrev pub subdir_first : RecordField → RecordField
subdir_first RecordField.Fn = RecordField.Subdir
subdir_first field = field

abbrev pub subdir_at_fault : Read PkgRecord RecordField → Read PkgRecord RecordField
subdir_at_fault (Ok pkg) = Err RecordField.Subdir
subdir_at_fault (Err field) = Err (subdir_first field)

-- the record of this dist in this channel, in a folder, if one is named
abbrev pub record_in : Data → List ℕ → List ℕ → Option (List ℕ) → Read PkgRecord RecordField
record_in value dist channel (Some subdir) = record_read value dist channel subdir
record_in value dist channel None = subdir_at_fault (record_read value dist channel [])

-- a fault of the record itself
abbrev pub in_record : {A : Type 0} → Read A RecordField → Read A MetaField
in_record (Ok x) = Ok x
in_record (Err field) = Err (MetaField.InRecord field)

-- the record that an object means, which has its dist in this field
abbrev pub record_at : MetaField → List ℕ → Data → Read PkgRecord MetaField
record_at field name value = do
  channel ← channel_read value
  dist ← dist_at field name value
  in_record (record_in value dist channel (subdir_at value))

-- ---- a revision

-- the package that an element of `linked` means
abbrev pub linked_read : Data → Read Linked MetaField
linked_read value = do
  goods ← goods_read value
  inner ← ok_or (inner_at value (codes "record")) MetaField.Record
  rec ← record_at MetaField.Dist (codes "dist") inner
  Ok (record { rec = rec; goods = goods })

-- each element is an object
abbrev pub all_objects : Items → Bool
all_objects no_items = true
all_objects (item value rest) = is_some (as_object value) && all_objects rest

abbrev pub dists_of : List Linked → List (List ℕ)
dists_of linked = map (λ one. one.rec.dist) linked

-- the linked packages, which ascend by dist
abbrev pub linked_list : Data → Read (List Linked) MetaField
linked_list value = do
  elements ← ok_or (list_at value (codes "linked")) MetaField.Linked
  objects ← where_so (all_objects elements) MetaField.Linked elements
  linked ← each_from 0 (λ at. linked_read) objects
  where_so (ascend (dists_of linked)) MetaField.Linked linked

-- the text is the normal form of the specification, and its name has no star
abbrev pub is_plain_form : List ℕ → Parts → Bool
is_plain_form text parts = not (list_any (is_byte star) parts.name) && is_text (spec_text parts) text

-- the specification that an element of `requested` is
abbrev pub requested_spec : Data → Read Parts MetaField
requested_spec value = do
  text ← ok_or (as_str value) MetaField.Requested
  parts ← or_fault (spec_read (trimmed text)) MetaField.Requested
  where_so (is_plain_form text parts) MetaField.Requested parts

-- a specification comes not behind another one: by name, and of one name by text
abbrev pub is_not_behind : Parts → Parts → Bool
is_not_behind one other = is_le (ordering_then (slice_cmp nat_cmp one.name other.name) (slice_cmp nat_cmp (spec_text one) (spec_text other)))

abbrev pub fits_front : Parts → List Parts → Bool
fits_front parts [] = true
fits_front parts (next ∷ rest) = is_not_behind parts next

-- none comes behind the next one
abbrev pub in_order : List Parts → Bool
in_order [] = true
in_order (parts ∷ rest) = fits_front parts rest && in_order rest

-- a specification doesn't come before another one, if there is one
abbrev pub may_follow : Option Parts → Parts → Bool
may_follow None parts = true
may_follow (Some last) parts = is_not_behind last parts

-- for the loop that tests it: specifications behind another one are in order with it
abbrev pub in_order_behind : Option Parts → List Parts → Bool
in_order_behind None specs = in_order specs
in_order_behind (Some last) specs = in_order (last ∷ specs)

abbrev pub requested_list : Data → Read (List Parts) MetaField
requested_list value = do
  elements ← ok_or (list_at value (codes "requested")) MetaField.Requested
  specs ← each_from 0 (λ at. requested_spec) elements
  where_so (in_order specs) MetaField.Requested specs

-- the dist that an element of `unlinked` is
abbrev pub unlinked_dist : Data → Read (List ℕ) MetaField
unlinked_dist value = ok_or (as_str value) MetaField.Unlinked >>= dist_read MetaField.Unlinked

abbrev pub unlinked_list : Data → Read (List (List ℕ)) MetaField
unlinked_list value = ok_or (list_at value (codes "unlinked")) MetaField.Unlinked >>= each_from 0 (λ at. unlinked_dist)

-- the revision that an object means
abbrev pub revision_of : Data → Read Revision MetaField
revision_of value = do
  linked ← linked_list value
  requested ← requested_list value
  unlinked ← unlinked_list value
  Ok (record { linked = linked; unlinked = unlinked; requested = requested })

-- ---- a package in a prefix

-- the path that an element of `files` is
abbrev pub file_read : Data → Read (List ℕ) MetaField
file_read value = ok_or (as_str value) MetaField.Files >>= good_path MetaField.Files

-- the paths of the goods, which ascend
abbrev pub files_read : Data → Read (List (List ℕ)) MetaField
files_read value = do
  elements ← ok_or (list_at value (codes "files")) MetaField.Files
  files ← each_from 0 (λ at. file_read) elements
  where_so (ascend files) MetaField.Files files

-- whether a file is executable isn't said
abbrev pub type_named : List ℕ → Option Kind
type_named text =
    if is_text text (codes "hardlink") then Some Kind.File
    else if is_text text (codes "softlink") then Some Kind.Soft
    else None

abbrev pub type_read : Data → Read Kind MetaField
type_read value = ok_or (option_and_then type_named (text_at value (codes "path_type"))) MetaField.PathsData

-- the element speaks of this path
abbrev pub names_path : List ℕ → Data → Bool
names_path path value = option_map_or (λ text. is_text text path) (text_at value (codes "_path")) false

-- the good at a path, which an element of `paths_data` speaks of
abbrev pub placed_read : List ℕ → Data → Read Good MetaField
placed_read path value = do
  same ← where_so (names_path path value) MetaField.PathsData path
  kind ← type_read value
  digest ← digest_read MetaField.PathsData (codes "sha256_in_prefix") value
  size ← ok_or (number_at value (codes "size_in_bytes")) MetaField.PathsData
  Ok (record { path = same; kind = kind; size = size; digest = digest })

-- the goods at these paths, of which the elements speak one by one
abbrev pub placed_goods : List (List ℕ) → Items → Read (List Good) MetaField
placed_goods [] no_items = Ok []
placed_goods [] (item value rest) = Err MetaField.PathsData
placed_goods (path ∷ paths) no_items = Err MetaField.PathsData
placed_goods (path ∷ paths) (item value rest) = placed_read path value >>= (λ good. placed_goods paths rest >>= (λ goods. Ok (good ∷ goods)))

-- the elements of the list in `paths_data`, whose version is 1
abbrev pub placed_elements : Data → Read Items MetaField
placed_elements inner = if is_version_one inner then ok_or (list_at inner (codes "paths")) MetaField.PathsData else Err MetaField.PathsData

abbrev pub paths_data_read : List (List ℕ) → Data → Read (List Good) MetaField
paths_data_read files value = do
  inner ← ok_or (inner_at value (codes "paths_data")) MetaField.PathsData
  elements ← placed_elements inner
  placed_goods files elements

-- the package that an object means
abbrev pub prefix_of : Data → Read Linked MetaField
prefix_of value = do
  rec ← record_at (MetaField.InRecord RecordField.Fn) (codes "fn") value
  files ← files_read value
  goods ← paths_data_read files value
  Ok (record { rec = rec; goods = goods })

-- ---- what bytes mean

-- the object that bytes mean
abbrev pub object_of : List ℕ → Read Data MetaField
object_of bytes = or_fault (object_read bytes) MetaField.Json

abbrev pub revision_in : List ℕ → Read Revision MetaField
revision_in bytes = object_of bytes >>= revision_of

abbrev pub prefix_in : List ℕ → Read Linked MetaField
prefix_in bytes = object_of bytes >>= prefix_of

-- a fault in a file of this kind
abbrev pub in_file : {A : Type 0} → (MetaField → MetaErr) → Read A MetaField → Read A MetaErr
in_file bad (Ok x) = Ok x
in_file bad (Err field) = Err (bad field)

-- the revision that bytes mean
abbrev pub revision_read : List ℕ → Read Revision MetaErr
revision_read bytes = in_file MetaErr.BadRevision (revision_in bytes)

-- the package that the bytes of a prefix record mean
abbrev pub prefix_read : List ℕ → Read Linked MetaErr
prefix_read bytes = in_file MetaErr.BadPrefixRecord (prefix_in bytes)
