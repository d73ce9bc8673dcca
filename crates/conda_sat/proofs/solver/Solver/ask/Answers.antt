use Rattle.std.proofs.Common.{ap, ◌∙◌}
use Rattle.std.specs.List.{list_all}
use Rattle.conda_refute.specs.Literals.{clause_true}
use Rattle.conda_sat.proofs.solver.Solver.ask.Goals as goal

pub returns-then-is_over-clause-right : goal.returns-then-is_over-clause-right
returns-then-is_over-clause-right c =
    let denied = c.is_over.ensures.denied c.if-is_over.true c.args.assumed.now in
    λ v clauses every. denied v (ap (list_all (clause_true v)) (ap (λ q. q.clauses) c.self.view_is) ∙ clauses) every
