use Rattle.std.specs.Prelude.{option_copied}
use Rattle.conda_linking.specs.Linking.{IsToLink}
use Rattle.conda_linking.proofs.StepLemmas.{AreLinked}
use Rattle.conda_linking.proofs.linking.linked.Given as goal

abbrev pub invariant-loop-one : goal.invariant-loop-one
invariant-loop-one l = AreLinked (IsToLink (option_copied l.fn.kept) l.fn.now l.fn.target) l.fn.target l.one-index l.linked
