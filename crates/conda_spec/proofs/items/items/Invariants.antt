use Rattle.std.proofs.Common.{◌≡◌, ◌+◌, ◌<◌, None, length}
use denote.Text.{Utf8}
use denote.Shadow.{shadow}
use Rattle.conda_spec.specs.Good.{IsGoodGiven}
use Rattle.conda_spec.specs.Parts.{nothing}
use Rattle.conda_spec.specs.Reading.{items_of, items_read}
use Rattle.conda_spec.proofs.items.items.Given as goal

-- the answer for what is left is the answer for all
abbrev pub invariant-loop-first : goal.invariant-loop-first
invariant-loop-first l =
    shadow (Utf8 l.left)
    × (l.at + length l.left < 18446744073709551616)
    × IsGoodGiven l.given
    × (items_read l.given l.at (items_of None l.left) ≡ items_read nothing l.start (items_of None l.text))

abbrev pub decreases-loop-first : goal.decreases-loop-first
decreases-loop-first l = length l.left
