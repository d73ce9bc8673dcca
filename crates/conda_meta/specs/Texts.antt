-- The texts of the meta files: compact JSON, the keys of each object ascending.
use Rattle.std.specs.Prelude.{ℕ, List, codes, map}
use Rattle.hex.specs.Hex.{encode_lower}
use Rattle.serde_json.specs.Data.{Data, number, string, array, object, unsigned, Items, Members, no_members, member}
use Rattle.serde_json.specs.View.{items_of}
use Rattle.serde_json.specs.Written.{compact_text}
use Rattle.conda_path.specs.declared.values.Good.{Good}
use Rattle.conda_path.specs.declared.values.Kind.{Kind}
use Rattle.conda_record.specs.Records.{noarch_member, record_data, specs_data}
use Rattle.conda_record.specs.declared.noarch.Noarch.{Noarch}
use Rattle.conda_record.specs.declared.pkg_record.PkgRecord.{PkgRecord}
use Rattle.conda_goods.specs.Goods.{paths_of}
use Rattle.conda_meta.specs.declared.linked.Linked.{Linked}
use Rattle.conda_meta.specs.declared.revision.Revision.{Revision}

-- ---- a revision

abbrev pub kind_name : Kind → List ℕ
kind_name Kind.File = codes "file"
kind_name Kind.Exec = codes "exec"
kind_name Kind.Soft = codes "soft"

abbrev pub good_data : Good → Data
good_data good =
    object (member (codes "kind") (string (kind_name good.kind))
    (member (codes "path") (string good.path)
    (member (codes "sha256") (string (encode_lower good.digest.bytes))
    (member (codes "size") (number (unsigned good.size)) no_members))))

abbrev pub linked_data : Linked → Data
linked_data one =
    object (member (codes "goods") (array (items_of (map good_data one.goods)))
    (member (codes "record") (record_data one.rec) no_members))

-- texts, in their order
abbrev pub texts_data : List (List ℕ) → Items
texts_data texts = items_of (map string texts)

unfoldable pub revision_data : Revision → Data
revision_data revision =
    object (member (codes "linked") (array (items_of (map linked_data revision.linked)))
    (member (codes "requested") (array (specs_data revision.requested))
    (member (codes "unlinked") (array (texts_data revision.unlinked)) no_members)))

-- the text of `conda-meta/revisions/<n>.json`
abbrev pub revision_text : Revision → List ℕ
revision_text revision = compact_text (revision_data revision)

-- ---- a package in a prefix

abbrev pub type_name : Kind → List ℕ
type_name Kind.File = codes "hardlink"
type_name Kind.Exec = codes "hardlink"
type_name Kind.Soft = codes "softlink"

abbrev pub placed_data : Good → Data
placed_data good =
    object (member (codes "_path") (string good.path)
    (member (codes "path_type") (string (type_name good.kind))
    (member (codes "sha256_in_prefix") (string (encode_lower good.digest.bytes))
    (member (codes "size_in_bytes") (number (unsigned good.size)) no_members))))

abbrev pub paths_data : List Good → Data
paths_data goods =
    object (member (codes "paths") (array (items_of (map placed_data goods)))
    (member (codes "paths_version") (number (unsigned 1)) no_members))

-- the members of the record's object but for `dist` and `noarch`
abbrev pub plain_members : PkgRecord → Members
plain_members rec =
    member (codes "build") (string rec.build)
    (member (codes "build_number") (number (unsigned rec.build_number))
    (member (codes "channel") (string rec.channel)
    (member (codes "constrains") (array (specs_data rec.constrains))
    (member (codes "depends") (array (specs_data rec.depends))
    (member (codes "fn") (string rec.dist)
    (member (codes "name") (string rec.name)
    (member (codes "subdir") (string rec.subdir)
    (member (codes "timestamp") (number (unsigned rec.timestamp))
    (member (codes "version") (string rec.version) no_members)))))))))

-- the members of the record's object without `dist`, with this said of `noarch`, and the goods
abbrev pub prefix_members : Noarch → Linked → Members
prefix_members noarch one =
    member (codes "build") (string one.rec.build)
    (member (codes "build_number") (number (unsigned one.rec.build_number))
    (member (codes "channel") (string one.rec.channel)
    (member (codes "constrains") (array (specs_data one.rec.constrains))
    (member (codes "depends") (array (specs_data one.rec.depends))
    (member (codes "files") (array (texts_data (paths_of one.goods)))
    (member (codes "fn") (string one.rec.dist)
    (member (codes "name") (string one.rec.name)
    (noarch_member noarch
    (member (codes "paths_data") (paths_data one.goods)
    (member (codes "subdir") (string one.rec.subdir)
    (member (codes "timestamp") (number (unsigned one.rec.timestamp))
    (member (codes "version") (string one.rec.version) no_members))))))))))))

unfoldable pub prefix_data : Linked → Data
prefix_data one = object (prefix_members one.rec.noarch one)

-- the text of `conda-meta/<dist>.json`
abbrev pub prefix_text : Linked → List ℕ
prefix_text one = compact_text (prefix_data one)

-- ---- what a prefix record keeps of a package

-- whether a file is executable is lost
abbrev pub kept_kind : Kind → Kind
kept_kind Kind.File = Kind.File
kept_kind Kind.Exec = Kind.File
kept_kind Kind.Soft = Kind.Soft

abbrev pub kept_good : Good → Good
kept_good good = record { path = good.path; kind = kept_kind good.kind; size = good.size; digest = good.digest }

abbrev pub kept_package : Linked → Linked
kept_package one = record { rec = one.rec; goods = map kept_good one.goods }
