-- the folders so far, and those of the paths that are left
use Rattle.std.specs.Map.{keys_of}
use Rattle.conda_mem.proofs.NamesLemmas.{FoundSoFar}
use Rattle.conda_mem.proofs.nodes.Nodes.names_in.Given as goal

abbrev pub invariant-loop-path : goal.invariant-loop-path
invariant-loop-path l = FoundSoFar l.self l.subdir l.names.items (keys_of l.path-iterator)
