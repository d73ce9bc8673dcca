use Rattle.std.proofs.Common.{◌≡◌, map, take, Bor}
use Rattle.conda_record.specs.declared.pkg_record.PkgRecord.{PkgRecord}
use Rattle.conda_encode.specs.Variables.{records}
use Rattle.conda_encode.proofs.pools.flat.Given as goal

abbrev pub invariant-loop-pool : goal.invariant-loop-pool
invariant-loop-pool l = map (λ (r : Bor PkgRecord). r.now) l.recs.items ≡ records (take l.pool-index l.pools)
