use Rattle.std.proofs.Common.{◌≡◌, take}
use Rattle.conda_encode.specs.Clauses.{on}
use Rattle.conda_encode.specs.Matching.{names}
use Rattle.conda_encode.proofs.Kept.{kept}
use Rattle.conda_encode.proofs.known.named_of.Given as goal

abbrev pub invariant-loop-at : goal.invariant-loop-at
invariant-loop-at l = l.list.items ≡ kept (names l.spec) on l.first (take l.at l.recs)
