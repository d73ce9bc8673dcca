use Rattle.std.proofs.Common.{◌≡◌, ◌++◌, length, map}
use Rattle.conda_version.specs.Grammar.{HasShortRuns, component_of, runs_of}
use Rattle.conda_version.specs.Versions.{run_of}
use Rattle.conda_version.proofs.build.put_runs.Given as goal

abbrev pub invariant-loop-left : goal.invariant-loop-left
invariant-loop-left l = HasShortRuns l.left × (l.runs.items ++ map run_of (runs_of l.left) ≡ component_of l.piece)

abbrev pub decreases-loop-left : goal.decreases-loop-left
decreases-loop-left l = length l.left
