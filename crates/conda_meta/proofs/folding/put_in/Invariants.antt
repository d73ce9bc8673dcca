use Rattle.std.proofs.Common.{◌≡◌, ℕ, List, drop}
use Rattle.std.specs.Option.{option_or}
use Rattle.conda_meta.specs.Folds.{held, last_of}
use Rattle.conda_meta.proofs.folding.put_in.Given as goal

-- putting in what is left gives what putting in all gives
abbrev pub invariant-loop-package : goal.invariant-loop-package
invariant-loop-package l = (dist : List ℕ) →
    option_or (last_of dist (drop l.package-index l.revision.linked)) (held l.present dist)
    ≡ option_or (last_of dist l.revision.linked) (held l.fn.present dist)
