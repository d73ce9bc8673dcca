use Rattle.conda_resolve.proofs.Choosing.{choice_from, choice_one, choice_solution}
use Rattle.conda_resolve.proofs.laws.choice_laws.Goals as goal

pub returns-clause-solution : goal.returns-clause-solution
returns-clause-solution c = choice_solution

pub returns-clause-one : goal.returns-clause-one
returns-clause-one c = choice_one

pub returns-clause-exists : goal.returns-clause-exists
returns-clause-exists c =
    λ pools items request installed. (λ choice. (choice.0, choice_solution pools items request installed choice.0 choice.1), choice_from pools items request installed)
