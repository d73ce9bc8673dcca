use Rattle.std.proofs.Common.{◌≡◌, [], drop}
use Rattle.conda_history.specs.Sets.{set_after}
use Rattle.conda_history.proofs.replay.replayed.Given as goal

-- the set after what is left is the set after all
abbrev pub invariant-loop-block : goal.invariant-loop-block
invariant-loop-block l = set_after l.set.keys (drop l.block-index l.blocks) ≡ set_after [] l.blocks
