use Rattle.conda_resolve.proofs.Answering.{denied_solution}
use Rattle.conda_resolve.proofs.resolving.chosen.Goals as goal

pub returns-in-Denied-clause-none : goal.returns-in-Denied-clause-none
returns-in-Denied-clause-none c =
    let no = denied_solution c.args.pools.now c.args.asked.now c.args.solver.now.vars c.args.solver.now.clauses c.in_ok-find.field-0 c.requires.request c.requires.clauses c.in_ok-find.ensures.right c.in-Denied.is in
    λ _. no
