-- How the names that are reached are gathered.
use Rattle.std.specs.Prelude.{ℕ, List, filter, map, Bool, true, false}
use Rattle.std.specs.List.{flat_map}
use Rattle.conda_record.specs.declared.pkg_record.PkgRecord.{PkgRecord}
use Rattle.conda_encode.specs.Matching.{lowered}
use Rattle.conda_encode.specs.declared.asked.AskKind.{AskKind}
use Rattle.conda_encode.specs.declared.asked.Asked.{Asked}

-- the item is wanted
abbrev pub is_wanted : AskKind → Bool
is_wanted AskKind.Wanted = true
is_wanted AskKind.Pinned = false

-- the names of the wanted items, in lower case
abbrev pub names_wanted : List Asked → List (List ℕ)
names_wanted asked = map (λ item. lowered item.spec.name) (filter (λ item. is_wanted item.kind) asked)

-- the names of what records need, in lower case
abbrev pub needs_of : List PkgRecord → List (List ℕ)
needs_of records = flat_map (λ pkg. map (λ need. lowered need.name) pkg.depends) records
