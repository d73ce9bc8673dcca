use Rattle.std.proofs.Common.{◌≡◌, ◌++◌, [], length}
use Rattle.conda_version.specs.Grammar.{HasShortRuns, components_of}
use Rattle.conda_version.proofs.build.add_components.Given as goal

abbrev pub invariant-loop-end : goal.invariant-loop-end
invariant-loop-end l =
    (l.runs.items ≡ [])
    × HasShortRuns l.left
    × (l.made ++ components_of l.left
    ≡ l.fn.made ++ components_of l.dotted)

abbrev pub decreases-loop-end : goal.decreases-loop-end
decreases-loop-end l = length l.left
