-- what was added so far, and of what is left to add, is what is to be added
use Rattle.std.proofs.Common.{◌≡◌, ℕ, List}
use Rattle.std.specs.FinMap as map
use Rattle.conda_dev.specs.Shares.{first_of, in_share}
use Rattle.conda_dev.proofs.TreeLemmas.{at_path}
use Rattle.conda_dev.proofs.tree.add_share.Given as goal

abbrev pub invariant-loop-path : goal.invariant-loop-path
invariant-loop-path l =
    (q : List ℕ) → first_of (map.get l.made q) (in_share l.number l.lanes q (at_path l.path-iterator q)) ≡ first_of (map.get l.fn.made q) (in_share l.number l.lanes q (map.get l.from q))
