use Rattle.std.proofs.Common.{◌≡◌, ◌↔◌, drop}
use Rattle.std.specs.Prelude.{filter}
use Rattle.conda_history.specs.Sets.{holds}
use Rattle.conda_meta.specs.Agreement.{joins}
use Rattle.conda_meta.specs.Reading.{dists_of}
use Rattle.conda_meta.proofs.agreement.are_joining.Given as goal

-- the dists that are left are those of the packages that are left, just where all are all
abbrev pub invariant-loop-package : goal.invariant-loop-package
invariant-loop-package l =
    (l.left ≡ filter (joins (holds l.set.keys) l.unlinked) (dists_of (drop l.package-index l.linked)))
    ↔ (l.added ≡ filter (joins (holds l.set.keys) l.unlinked) (dists_of l.linked))
