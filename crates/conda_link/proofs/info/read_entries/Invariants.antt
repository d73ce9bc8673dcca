use Rattle.std.specs.Prelude.{◌≡◌, drop}
use Rattle.serde_json.specs.View.{items_view}
use Rattle.conda_json.specs.Fields.{each_from, read_on}
use Rattle.conda_link.specs.Links.{entry_read, entries_read}
use Rattle.conda_link.proofs.info.read_entries.Given as goal

abbrev pub invariant-loop-at : goal.invariant-loop-at
invariant-loop-at l =
    read_on l.entries (each_from l.at entry_read (items_view (drop l.at l.elements)))
    ≡ entries_read (items_view l.elements)
