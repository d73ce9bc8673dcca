use Rattle.std.proofs.Common.{◌≡◌, ap, ◌∙◌, None, Ok}
use Rattle.conda_resolve.proofs.resolving.resolve.Goals as goal

pub returns-clause-none : goal.returns-clause-none
returns-clause-none c = c.chosen.ensures.none (c.in_ok-set.was ∙ ap Ok c.in-None.is)

pub returns-clause-inputs : goal.returns-clause-inputs
returns-clause-inputs c =
    let none : c.chosen.result ≡ Ok None = c.in_ok-set.was ∙ ap Ok c.in-None.is in
    let same = c.chosen.ensures.clauses none ∙ ap (λ s. s.clauses) c.in_ok-solver.ensures ∙ c.as_slice.ensures ∙ c.in_ok-vars.ensures.clauses in
    rw same at c.in_ok-refutation-in-None.ensures.inputs
