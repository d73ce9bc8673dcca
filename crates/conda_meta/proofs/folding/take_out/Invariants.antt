use Rattle.std.proofs.Common.{◌≡◌, ℕ, List, drop}
use Rattle.conda_meta.specs.Folds.{held, unless_among}
use Rattle.conda_meta.proofs.folding.take_out.Given as goal

-- taking out what is left gives what taking out all gives
abbrev pub invariant-loop-dist : goal.invariant-loop-dist
invariant-loop-dist l = (dist : List ℕ) →
    unless_among dist (drop l.dist-index l.revision.unlinked) (held l.present dist) ≡ unless_among dist l.revision.unlinked (held l.fn.present dist)
