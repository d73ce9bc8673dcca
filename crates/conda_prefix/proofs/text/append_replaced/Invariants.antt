use Rattle.std.specs.Prelude.{length, MatchOption}
use Rattle.conda_prefix.specs.Text.{IsCut, IsPlain}
use Rattle.conda_prefix.proofs.PieceLemmas.{GoesOn}
use Rattle.conda_prefix.proofs.text.append_replaced.Given as goal

abbrev pub invariant-loop-found : goal.invariant-loop-found
invariant-loop-found l = record {
  goes_on : GoesOn l.placeholder l.prefix l.bytes l.initial.made.items l.made.items l.rest;
  found : MatchOption l.found (IsPlain l.placeholder l.rest) (λ cut. IsCut l.placeholder l.rest cut.piece.now cut.rest.now);
}

abbrev pub decreases-loop-found : goal.decreases-loop-found
decreases-loop-found l = length l.rest
