use Rattle.std.proofs.Common.{◌≡◌, map, take}
use Rattle.conda_index.proofs.search.copied_refs.Given as goal

abbrev pub invariant-loop-pkg : goal.invariant-loop-pkg
invariant-loop-pkg l = l.copies.items ≡ map (λ pkg. pkg.now) (take l.pkg-index l.records)
