use Rattle.conda_encode.proofs.Requests.{cut_solution, none_law, same_model, solution_model}
use Rattle.conda_encode.proofs.laws.encode_laws.Goals as goal

pub returns-clause-solution : goal.returns-clause-solution
returns-clause-solution c = cut_solution

pub returns-clause-model : goal.returns-clause-model
returns-clause-model c = solution_model

pub returns-clause-same : goal.returns-clause-same
returns-clause-same c = same_model

pub returns-clause-none : goal.returns-clause-none
returns-clause-none c = none_law
