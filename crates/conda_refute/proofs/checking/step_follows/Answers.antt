use Rattle.std.proofs.Common.{sym, ◌∙◌}
use Rattle.std.proofs.lemmas.Result.{IfOk-weaker}
use Rattle.conda_refute.specs.Refutation.{clauses_of}
use Rattle.conda_refute.proofs.Same.{step_answer}
use Rattle.conda_refute.proofs.checking.step_follows.Goals as goal

pub returns : goal.returns
returns c =
    IfOk-weaker c.go_through.result _ _
    (λ v h. h ∙ step_answer (clauses_of c.args.inputs.now c.args.before.now) c.args.step.now c.in_ok-falses.falses (rw c.as_slice-clause.ensures at c.in_ok-falses.ensures)
    (rw c.as_slice-clause.ensures at (sym c.holds_opposites.ensures ∙ c.if-holds_opposites.false)))
    (rw c.as_slice.ensures at c.go_through.ensures)
