use Rattle.std.proofs.Common.{◌≡◌, drop}
use Rattle.conda_history.specs.Sets.{without_all}
use Rattle.conda_history.proofs.replay.take_out.Given as goal

-- taking out what is left gives what taking out all gives
abbrev pub invariant-loop-dist : goal.invariant-loop-dist
invariant-loop-dist l = without_all l.set.keys (drop l.dist-index l.dists) ≡ without_all l.fn.set.keys l.dists
