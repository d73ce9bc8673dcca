use Rattle.std.proofs.Common.{◌≡◌, ◌≤◌, drop, false}
use Rattle.conda_clause.specs.declared.truth.Pass.TheVariants.{Read}
use Rattle.conda_clause.specs.Truth.{depth_of, tokens_true}
use Rattle.conda_clause.proofs.truth.tokens_true.Given as goal

abbrev pub invariant-loop-token : goal.invariant-loop-token
invariant-loop-token l =
    (depth_of l.pass ≤ l.token-index)
    × (tokens_true l.version l.value l.pass (drop l.token-index l.tokens) ≡ tokens_true l.version false Read l.tokens)
