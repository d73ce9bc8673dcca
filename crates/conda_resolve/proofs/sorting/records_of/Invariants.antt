use Rattle.std.proofs.Common.{take}
use Rattle.conda_resolve.proofs.Gathered.{Match}
use Rattle.conda_resolve.proofs.sorting.records_of.Given as goal

abbrev pub invariant-loop-at : goal.invariant-loop-at
invariant-loop-at l = Match l.pools (take l.at l.decided.entries) l.set.items
