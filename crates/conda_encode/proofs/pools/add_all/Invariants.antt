use Rattle.std.proofs.Common.{◌≡◌, ◌++◌, map, take, Bor}
use Rattle.conda_record.specs.declared.pkg_record.PkgRecord.{PkgRecord}
use Rattle.conda_encode.proofs.pools.add_all.Given as goal

abbrev pub invariant-loop-rec : goal.invariant-loop-rec
invariant-loop-rec l = map (λ (r : Bor PkgRecord). r.now) l.recs.items ≡ map (λ (r : Bor PkgRecord). r.now) l.initial.recs.items ++ take l.rec-index l.pool
