use Rattle.std.proofs.Common.{◌≡◌, ◌++◌, drop}
use Rattle.conda_base.specs.Texts.{Ascending}
use Rattle.conda_history.specs.Sets.{changes_after, changes_of}
use Rattle.conda_history.proofs.replay.changed.Given as goal

-- the changes so far and those of what is left are those of all
abbrev pub invariant-loop-block : goal.invariant-loop-block
invariant-loop-block l =
    record { told : l.made ++ changes_after l.set.keys (drop l.block-index l.blocks) ≡ changes_of l.blocks; ordered : Ascending l.set.keys }
