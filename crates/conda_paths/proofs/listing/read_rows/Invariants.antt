use Rattle.std.specs.Prelude.{◌≡◌, [], drop, map}
use Rattle.serde_json.specs.View.{items_view}
use Rattle.conda_json.specs.Fields.{read_on}
use Rattle.conda_paths.specs.Listings.{HasPaths, row_path, rows_read}
use Rattle.conda_paths.proofs.listing.read_rows.Given as goal

abbrev pub invariant-loop-at : goal.invariant-loop-at
invariant-loop-at l =
    HasPaths l.paths (map row_path l.rows)
    × (read_on l.rows (rows_read (map row_path l.rows) l.at (items_view (drop l.at l.elements))) ≡ rows_read [] 0 (items_view l.elements))
