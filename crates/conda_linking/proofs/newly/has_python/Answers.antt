use Rattle.std.proofs.Common.{◌≡◌, Some, sym, ◌∙◌}
use Rattle.std.proofs.lemmas.Bool.{false≢true}
use Rattle.conda_linking.specs.Linking.{python_version}
use Rattle.conda_meta.specs.declared.linked.Linked.{Linked}
use Rattle.conda_linking.proofs.StepLemmas.{none_is, one_none}
use Rattle.conda_linking.proofs.newly.has_python.Goals as goal

pub loop-one-preserved : goal.loop-one-preserved
loop-one-preserved c =
    one_none (λ (one : Linked). (python_version one.rec ≡ Some c.args.python.now) → ⊥) c.args.packages.now
    c.loop-one.one-index c.one-item.result
    c.loop-one-test.true c.one-item.is c.loop-one.invariant (λ e. false≢true (sym c.if-is_python.false ∙ c.is_python.ensures.1 e))

pub returns : goal.returns
returns c = (
  λ t. absurd (false≢true t),
  λ h. absurd (none_is (λ (one : Linked).
      (python_version one.rec ≡ Some c.args.python.now) → ⊥) c.args.packages.now c.loop-one.one-index h.0
      c.loop-one-test.false c.loop-one.invariant h.1 h.2),
)
