-- Names of packages, which are compared in lower case, after conda's match_spec.py.
use Rattle.std.specs.Prelude.{ℕ, Bool, List, codes, nat_eq}
use Rattle.std.specs.List.{starts_with}
use Rattle.conda_base.specs.Texts.{is_text}
use Rattle.conda_encode.specs.Matching.{lowered}
use Rattle.conda_record.specs.declared.pkg_record.PkgRecord.{PkgRecord}

-- the name of a record in lower case
abbrev pub name_of : PkgRecord → List ℕ
name_of pkg = lowered pkg.name

-- the record is of this name
abbrev pub is_named : List ℕ → PkgRecord → Bool
is_named name pkg = is_text (name_of pkg) (lowered name)

-- a name of virtual packages, which stand for what the machine has: conda's core/index.py
abbrev pub is_virtual_name : List ℕ → Bool
is_virtual_name name = starts_with nat_eq (lowered name) (codes "__")
