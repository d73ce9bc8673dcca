use Rattle.conda_sat.proofs.LedgerLemmas.{all_follow-append}
use Rattle.conda_sat.proofs.ledger.Ledger.put.Goals as goal

pub invariant_of-self-2 : goal.invariant_of-self-2
invariant_of-self-2 c =
    rw c.in_ok-push.ensures.ok (all_follow-append c.self.inside.log.inputs c.self.inside.log.steps c.args.step c.self.invariant (rw c.self.view_is c.requires))
