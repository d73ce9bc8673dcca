use Rattle.conda_linking.proofs.StepLemmas.{IsGone, AreUnlinked}
use Rattle.conda_linking.proofs.unlinking.unlinked.Given as goal

abbrev pub invariant-loop-one : goal.invariant-loop-one
invariant-loop-one l = AreUnlinked (IsGone l.fn.target) l.fn.now l.one-index l.dists
