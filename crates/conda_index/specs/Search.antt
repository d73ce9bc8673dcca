-- Which records of an index a specification names.
use Rattle.std.specs.Prelude.{List, filter}
use Rattle.conda_spec.specs.Parts.{Parts}
use Rattle.conda_record.specs.declared.pkg_record.PkgRecord.{PkgRecord}
use Rattle.conda_encode.specs.Matching.{names}

-- the records of an index that the specification names, in the index's order
abbrev pub found : Parts → List PkgRecord → List PkgRecord
found spec index = filter (names spec) index
