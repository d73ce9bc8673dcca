use Rattle.std.proofs.Common.{◌≡◌, [], drop}
use Rattle.conda_history.specs.Sets.{chosen, with_all}
use Rattle.conda_history.proofs.replay.chosen.Given as goal

-- what is made of what is left is what is made of all
abbrev pub invariant-loop-dist : goal.invariant-loop-dist
invariant-loop-dist l =
    with_all l.made.keys (chosen l.held l.set.keys (drop l.dist-index l.dists)) ≡ with_all [] (chosen l.held l.set.keys l.dists)
