use Rattle.std.proofs.Common.{◌≡◌, [], drop}
use Rattle.std.specs.Prelude.{nat_eq}
use Rattle.std.specs.Cmp.Lexicographic.{pointwise}
use Rattle.indexmap.specs.IndexSet.{insert_all}
use Rattle.conda_index.specs.Walk.{names_wanted}
use Rattle.conda_index.proofs.pools.wanted_names.Given as goal

abbrev pub invariant-loop-item : goal.invariant-loop-item
invariant-loop-item l =
    insert_all (pointwise nat_eq) l.names.keys (names_wanted (drop l.item-index l.asked)) ≡ insert_all (pointwise nat_eq) [] (names_wanted l.asked)
