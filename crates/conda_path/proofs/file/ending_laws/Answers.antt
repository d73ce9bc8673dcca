use Rattle.conda_path.proofs.FileLemmas.{ending_law}
use Rattle.conda_path.proofs.file.ending_laws.Goals as goal

pub returns : goal.returns
returns c = ending_law
