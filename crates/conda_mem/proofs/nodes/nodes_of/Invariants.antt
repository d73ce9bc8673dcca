-- the nodes so far, with those that are left, are all
use Rattle.std.proofs.Common.{◌≡◌}
use Rattle.std.specs.FinMap as map
use Rattle.conda_mem.specs.Given.{with_files}
use Rattle.conda_mem.proofs.nodes.nodes_of.Given as goal

abbrev pub invariant-loop-path : goal.invariant-loop-path
invariant-loop-path l = with_files l.made l.path-iterator.rest.items ≡ with_files map.empty l.fn.files
