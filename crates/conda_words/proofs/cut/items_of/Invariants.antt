use Rattle.std.proofs.Common.{◌≡◌, ◌+◌, false, ◌++◌, length}
use Rattle.conda_words.specs.Cut.{items}
use Rattle.conda_words.specs.Table.{seen}
use Rattle.conda_words.proofs.cut.items_of.Given as goal

-- the items so far and those of the words that are left are those of all
abbrev pub invariant-loop-word : goal.invariant-loop-word
invariant-loop-word l =
    (l.made.items ++ items (seen l.row) l.plain l.at l.left ≡ items (seen l.row) false 1 l.words)
    × (l.at + length l.left ≡ length l.words + 1)

abbrev pub decreases-loop-word : goal.decreases-loop-word
decreases-loop-word l = length l.left
