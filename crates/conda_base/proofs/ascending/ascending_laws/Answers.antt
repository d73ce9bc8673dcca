use Rattle.conda_base.proofs.AscendingLemmas.{ascending_law}
use Rattle.conda_base.proofs.ascending.ascending_laws.Goals as goal

pub returns : goal.returns
returns c = ascending_law
