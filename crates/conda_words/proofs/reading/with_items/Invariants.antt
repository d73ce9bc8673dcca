use Rattle.std.proofs.Common.{◌≡◌, [], drop, take}
use Rattle.conda_words.specs.Reading.{with_items}
use Rattle.conda_words.specs.Table.{seen}
use Rattle.conda_words.proofs.reading.with_items.Given as goal

-- what the items that are left make of the reading is what all make of the first
abbrev pub invariant-loop-i : goal.invariant-loop-i
invariant-loop-i l =
    with_items (seen l.row) (take l.i l.items) l.reading (drop l.i l.items) ≡ with_items (seen l.row) [] l.fn.reading l.items
