use Rattle.std.proofs.Common.{ap, ◌∙◌}
use Rattle.conda_sat.proofs.question.solve.Goals as goal

pub returns : goal.returns
returns c =
    let same = c.ask.ensures.clauses ∙ ap (λ q. q.clauses) c.in_ok-solver.ensures in
    (c.in_ok-refutation-in-Denied.ensures.refuted, rw same at c.in_ok-refutation-in-Denied.ensures.inputs)
