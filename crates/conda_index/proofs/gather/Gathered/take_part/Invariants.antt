use Rattle.std.proofs.Common.{List, ◌++◌}
use Rattle.conda_record.specs.declared.pkg_record.PkgRecord.{PkgRecord}
use Rattle.conda_index.specs.Gather.{IsGathered}
use Rattle.conda_index.proofs.gather.Gathered.take_part.Given as goal

abbrev pub invariant-loop-pkg : goal.invariant-loop-pkg
invariant-loop-pkg l = (before : List PkgRecord) → IsGathered before l.fn.self → IsGathered (before ++ l.yielded) l.self
