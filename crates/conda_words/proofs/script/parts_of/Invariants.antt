use Rattle.std.proofs.Common.{◌≡◌, ◌++◌, length}
use Rattle.std.specs.Prelude.{IsUtf8}
use Rattle.conda_words.specs.Scripts.{parted}
use Rattle.conda_words.proofs.script.parts_of.Given as goal

-- the parts so far and those of what is left are those of all
abbrev pub invariant-loop-part : goal.invariant-loop-part
invariant-loop-part l = (l.made.items ++ parted l.mark l.left ≡ parted l.mark l.text) × IsUtf8 l.left

abbrev pub decreases-loop-part : goal.decreases-loop-part
decreases-loop-part l = length l.left
