use Rattle.conda_base.proofs.NumberLemmas.{digits_law, number_law}
use Rattle.conda_base.proofs.number.number_laws.Goals as goal

pub returns : goal.returns
returns c = record { number = λ limit text n small. number_law limit text n small; digits = digits_law }
