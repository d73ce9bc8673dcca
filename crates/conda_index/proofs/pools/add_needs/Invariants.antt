use Rattle.std.proofs.Common.{◌≡◌, drop}
use Rattle.std.specs.Prelude.{nat_eq}
use Rattle.std.specs.Cmp.Lexicographic.{pointwise}
use Rattle.indexmap.specs.IndexSet.{insert_all}
use Rattle.conda_index.specs.Walk.{needs_of}
use Rattle.conda_index.proofs.pools.add_needs.Given as goal

abbrev pub invariant-loop-pkg : goal.invariant-loop-pkg
invariant-loop-pkg l =
    insert_all (pointwise nat_eq) l.names.keys (needs_of (drop l.pkg-index l.pool))
    ≡ insert_all (pointwise nat_eq) l.fn.names.keys (needs_of l.pool)
