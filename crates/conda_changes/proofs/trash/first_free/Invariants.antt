use Rattle.conda_changes.specs.Counting.{AreLeftOver}
use Rattle.conda_changes.proofs.trash.first_free.Given as goal

abbrev pub invariant-loop : goal.invariant-loop
invariant-loop l = AreLeftOver l.left l.number l.start l.k
