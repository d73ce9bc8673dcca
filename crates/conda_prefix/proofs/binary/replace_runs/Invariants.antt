use Rattle.std.specs.Prelude.{length, MatchOption}
use Rattle.conda_prefix.specs.Binary.{HasRun, IsFirstRun}
use Rattle.conda_prefix.proofs.RunLemmas.{GoesOn}
use Rattle.conda_prefix.proofs.binary.replace_runs.Given as goal

abbrev pub invariant-loop-found : goal.invariant-loop-found
invariant-loop-found l = record {
  goes_on : GoesOn l.placeholder l.prefix l.bytes l.made.items l.rest;
  found : MatchOption l.found (¬ HasRun l.placeholder l.rest)
      (λ run. IsFirstRun l.placeholder l.rest run.before.now run.text.now run.rest.now);
}

abbrev pub decreases-loop-found : goal.decreases-loop-found
decreases-loop-found l = length l.rest
