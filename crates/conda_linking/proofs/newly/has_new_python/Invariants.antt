use Rattle.std.proofs.Common.{◌≡◌, ℕ, List, take, Some}
use Rattle.std.specs.List.{All}
use Rattle.conda_linking.specs.Linking.{HasPython, python_version}
use Rattle.conda_linking.proofs.newly.has_new_python.Given as goal

-- none so far is a new Python
abbrev pub invariant-loop-one : goal.invariant-loop-one
invariant-loop-one l =
    All (λ one. (python : List ℕ) → python_version one.rec ≡ Some python → (HasPython l.now python → ⊥) → ⊥) (take l.one-index l.target)
