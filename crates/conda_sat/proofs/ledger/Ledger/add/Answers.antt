use Rattle.std.proofs.Common.{sym, ◌∙◌}
use Rattle.conda_sat.proofs.LedgerLemmas.{all_follow-append}
use Rattle.conda_sat.proofs.ledger.Ledger.add.Goals as goal

pub invariant_of-self-2 : goal.invariant_of-self-2
invariant_of-self-2 c =
    rw c.in_ok-push.ensures.ok
    (all_follow-append c.self.inside.log.inputs c.self.inside.log.steps c.args.step c.self.invariant
    (rw (← c.as_slice-inputs.ensures, ← c.as_slice-steps.ensures) (sym c.in_ok-step_follows.ensures ∙ c.if-not-branch.false)))
