use Rattle.std.proofs.Common.{◌≡◌, ℕ, [], length}
use Rattle.conda_changes.specs.Shares.{share_at}
use Rattle.conda_changes.proofs.shares.no_shares.Given as goal

abbrev pub invariant-loop : goal.invariant-loop
invariant-loop l = record {
  count : length l.shares.items ≡ l.counter;
  none : (lane : ℕ) → share_at l.shares.items lane ≡ [];
}
