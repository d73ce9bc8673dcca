use Rattle.std.proofs.Common.{◌≡◌, take}
use Rattle.conda_encode.specs.Clauses.{off}
use Rattle.conda_encode.proofs.Kept.{kept, unnamed}
use Rattle.conda_encode.proofs.known.barred_of.Given as goal

abbrev pub invariant-loop-at : goal.invariant-loop-at
invariant-loop-at l = l.list.items ≡ kept (unnamed l.spec) off l.first (take l.at l.recs)
