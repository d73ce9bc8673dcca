use Rattle.std.proofs.Common.{take, inr, sym, ap, ◌∙◌, arith}
use Rattle.conda_refute.specs.Refutation.{clauses_of, follows}
use Rattle.conda_refute.proofs.Steps.{accepted, refused_at}
use Rattle.conda_refute.proofs.checking.check.Goals as goal

pub returns-in-Ok-false-clause-not_refuted : goal.returns-in-Ok-false-clause-not_refuted
returns-in-Ok-false-clause-not_refuted c =
    inr (refused_at c.args.log.now c.as_slice-inputs.result.now c.as_slice-steps.result.now c.loop-at.at c.index-steps-at.result c.as_slice-inputs.ensures c.as_slice-steps.ensures
    c.loop-at.invariant (omega arith) (sym c.in-Ok-false.field-0-test ∙ c.in-Ok-false.ensures ∙ ap (follows (clauses_of c.as_slice-inputs.result.now (take c.loop-at.at c.as_slice-steps.result.now))) c.index-steps-at.is))

pub returns-then-last_is_empty-clause-ok : goal.returns-then-last_is_empty-clause-ok
returns-then-last_is_empty-clause-ok c =
    accepted c.args.log.now c.as_slice-inputs.result.now c.as_slice-steps.result.now c.loop-at.at c.as_slice-inputs.ensures c.as_slice-steps.ensures
    c.loop-at.invariant (omega arith) (sym c.last_is_empty.ensures ∙ c.if-last_is_empty.true)
