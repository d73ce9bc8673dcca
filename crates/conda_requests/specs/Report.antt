-- The report on records: this project's own.
use Rattle.std.specs.Prelude.{ℕ, List, [], ◌∷◌, ◌++◌, flat_map}
use Rattle.conda_base.specs.Signs.{newline, slash, space}
use Rattle.conda_record.specs.declared.pkg_record.PkgRecord.{PkgRecord}

-- `NAME VERSION BUILD CHANNEL/SUBDIR`, the name in the record's own case; a virtual package is of no channel and no subdir
abbrev pub record_line : PkgRecord → List ℕ
record_line pkg =
    pkg.name ++ space ∷ (pkg.version ++ space ∷ (pkg.build ++ space ∷ (pkg.channel ++ slash ∷ (pkg.subdir ++ newline ∷ []))))

-- a line for each record
abbrev pub records_text : List PkgRecord → List ℕ
records_text records = flat_map record_line records
