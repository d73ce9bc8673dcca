use Rattle.std.proofs.Common.{◌≡◌, ℕ, ◌++◌, map, take}
use Rattle.conda_record.specs.declared.pkg_record.PkgRecord.{PkgRecord}
use Rattle.conda_encode.specs.Variables.{numbered}
use Rattle.conda_resolve.proofs.ranking.add_variables.Given as goal

abbrev pub invariant-loop-at : goal.invariant-loop-at
invariant-loop-at l = l.list.items ≡ l.initial.list.items ++ map (λ (x : ℕ × PkgRecord). x.0) (numbered l.first (take l.at l.recs))
