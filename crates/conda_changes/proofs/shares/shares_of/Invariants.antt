use Rattle.std.proofs.Common.{◌≡◌, ◌++◌, ℕ, length}
use Rattle.conda_changes.specs.Shares.{changes_in, share_at}
use Rattle.conda_changes.proofs.shares.shares_of.Given as goal

abbrev pub invariant-loop-change : goal.invariant-loop-change
invariant-loop-change l = record {
  count : length l.shares.items ≡ l.lanes;
  own : (lane : ℕ) → share_at l.shares.items lane ++ changes_in l.change-iterator.rest.items l.lanes lane ≡ changes_in l.fn.changes.items l.lanes lane;
}
