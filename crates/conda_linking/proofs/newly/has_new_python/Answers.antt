use Rattle.std.proofs.Common.{◌≡◌, ℕ, List, Some, sym, ◌∙◌, refl}
use Rattle.std.proofs.lemmas.Bool.{false≢true}
use Rattle.conda_linking.specs.Linking.{HasPython, python_version}
use Rattle.conda_meta.specs.declared.linked.Linked.{Linked}
use Rattle.conda_linking.proofs.StepLemmas.{none_is, one_none}
use Rattle.conda_linking.proofs.newly.has_new_python.Goals as goal

abbrev IsNoNew : List Linked → Linked → Type 0
IsNoNew now one = (python : List ℕ) → python_version one.rec ≡ Some python → (HasPython now python → ⊥) → ⊥

pub returns-then-is_new_python : goal.returns-then-is_new_python
returns-then-is_new_python c =
    let h = c.is_new_python.ensures.0 c.if-is_new_python.true in
    (λ t. (h.0, (c.one-item.result, (c.loop-one.one-index, c.loop-one-test.true, sym c.one-item.is), h.1), h.2), λ n. refl)

pub loop-one-preserved : goal.loop-one-preserved
loop-one-preserved c =
    one_none (IsNoNew c.args.now.now) c.args.target.now c.loop-one.one-index c.one-item.result
    c.loop-one-test.true c.one-item.is c.loop-one.invariant
    (λ python e lacks. false≢true (sym c.if-is_new_python.false ∙ c.is_new_python.ensures.1 (python, e, lacks)))

pub returns : goal.returns
returns c = (
  λ t. absurd (false≢true t),
  λ h. absurd (none_is (IsNoNew c.args.now.now) c.args.target.now c.loop-one.one-index h.1.0
      c.loop-one-test.false c.loop-one.invariant h.1.1 h.0 h.1.2 h.2),
)
