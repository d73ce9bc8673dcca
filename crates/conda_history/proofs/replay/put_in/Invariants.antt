use Rattle.std.proofs.Common.{◌≡◌, drop}
use Rattle.conda_history.specs.Sets.{with_all}
use Rattle.conda_history.proofs.replay.put_in.Given as goal

-- putting in what is left gives what putting in all gives
abbrev pub invariant-loop-dist : goal.invariant-loop-dist
invariant-loop-dist l = with_all l.set.keys (drop l.dist-index l.dists) ≡ with_all l.fn.set.keys l.dists
