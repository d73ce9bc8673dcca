use Rattle.std.proofs.Common.{◌≡◌, ◌++◌}
use Rattle.std.specs.Prelude.{map}
use Rattle.conda_meta.proofs.folding.listed.Given as goal

-- the packages so far and those that are left are all
abbrev pub invariant-loop-package : goal.invariant-loop-package
invariant-loop-package l = l.linked ++ map (λ entry. entry.1.now) l.package-iterator ≡ map (λ entry. entry.1.now) l.present.entries
