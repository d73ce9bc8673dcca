-- What a pool of a request has to be, record by record.
use Rattle.std.specs.Prelude.{◌≡◌}
use Rattle.std.specs.List.{All}
use Rattle.conda_record.specs.declared.pkg_record.PkgRecord.{PkgRecord}
use Rattle.conda_record.specs.declared.pool.NamePool.{NamePool}
use Rattle.conda_encode.specs.Matching.{lowered}
use Rattle.conda_encode.specs.Variables.{IsPlain}

-- no entry of the record has a star in its name
unfoldable pub NeedsPlainly : PkgRecord → Type 0
NeedsPlainly pkg = All IsPlain pkg.depends × All IsPlain pkg.constrains

-- the pool has records of its name alone, none with an entry that has a star in its name
unfoldable pub IsFit : NamePool → Type 0
IsFit pool = All (λ pkg. lowered pkg.name ≡ pool.name) pool.recs × All NeedsPlainly pool.recs
