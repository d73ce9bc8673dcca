use Rattle.std.proofs.Common.{◌≡◌, take, Some}
use Rattle.std.specs.List.{All}
use Rattle.conda_linking.specs.Linking.{python_version}
use Rattle.conda_linking.proofs.newly.has_python.Given as goal

-- none so far is this Python
abbrev pub invariant-loop-one : goal.invariant-loop-one
invariant-loop-one l = All (λ one. (python_version one.rec ≡ Some l.python) → ⊥) (take l.one-index l.packages)
