-- What the writers of the meta files know of what they wrote, so that it is read again.
use Rattle.std.specs.Prelude.{◌≡◌, Ok}
use Rattle.std.specs.List.{AllByRecursion}
use Rattle.hex.specs.Hex.{decode_sized, encode_lower}
use Rattle.conda_base.specs.Texts.{Ascending}
use Rattle.conda_path.specs.Paths.{IsRelPath}
use Rattle.conda_path.specs.declared.values.Good.{Good}
use Rattle.conda_record.specs.Records.{record_data, record_read}
use Rattle.conda_record.specs.Rules.{IsWellFormed}
use Rattle.conda_record.specs.declared.pkg_record.PkgRecord.{PkgRecord}
use Rattle.conda_goods.specs.Goods.{paths_of}
use Rattle.conda_meta.specs.declared.linked.Linked.{Linked}

-- the good's path is one, and its digest is read from its digits
pub record IsWritten (good : Good) : Type 0 where
  pub path : IsRelPath good.path
  pub digest : decode_sized (encode_lower good.digest.bytes) 32 ≡ Ok good.digest.bytes

-- so it is with all goods of a package, which ascend by path
pub record AreWritten (linked : Linked) : Type 0 where
  pub goods : AllByRecursion IsWritten linked.goods
  pub ascending : Ascending (paths_of linked.goods)

-- the record is read from its object
abbrev pub RecordBack : PkgRecord → Type 0
RecordBack rec = IsWellFormed rec → record_read (record_data rec) rec.dist rec.channel rec.subdir ≡ Ok rec

-- a package of a revision is read from its object
abbrev pub LinkedBack : Linked → Type 0
LinkedBack linked = AreWritten linked × RecordBack linked.rec
