use Rattle.std.proofs.Common.{ap, ◌∙◌}
use Rattle.conda_sat.proofs.solver.Solver.refutation.Goals as goal

pub returns-clause-inputs : goal.returns-clause-inputs
returns-clause-inputs c =
    let same = ap (λ l. l.inputs) c.log.ensures.same ∙ ap (λ q. q.clauses) c.self.view_is in
    rw same at c.in_ok-log.ensures.inputs
