use Rattle.std.proofs.Common.{◌≡◌, drop, map}
use Rattle.std.specs.Prelude.{nat_eq}
use Rattle.std.specs.Cmp.Lexicographic.{pointwise}
use Rattle.indexmap.specs.IndexSet.{insert_all}
use Rattle.conda_encode.specs.Matching.{lowered}
use Rattle.conda_index.proofs.pools.add_names.Given as goal

abbrev pub invariant-loop-spec : goal.invariant-loop-spec
invariant-loop-spec l =
    insert_all (pointwise nat_eq) l.names.keys (map (λ spec. lowered spec.name) (drop l.spec-index l.specs))
    ≡ insert_all (pointwise nat_eq) l.fn.names.keys (map (λ spec. lowered spec.name) l.specs)
