use Rattle.conda_plan.proofs.ShowsLemmas.{leads}
use Rattle.conda_plan.proofs.StartLemmas.{starts}
use Rattle.conda_plan.proofs.laws.plan_laws.Goals as goal

pub returns-clause-starts : goal.returns-clause-starts
returns-clause-starts c = λ number_of tree state kept now target others altered trash number revision changes seen plan. starts seen plan

pub returns-clause-leads : goal.returns-clause-leads
returns-clause-leads c = λ number_of tree after keeps state kept now target others altered trash number revision changes stamp seen plan edit texts.
    leads stamp c.linking_laws.ensures.folds seen plan edit texts
