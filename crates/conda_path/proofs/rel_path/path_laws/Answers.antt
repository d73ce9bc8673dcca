use Rattle.conda_path.proofs.PathLemmas.{path_none, path_place, path_rule}
use Rattle.conda_path.proofs.rel_path.path_laws.Goals as goal

pub returns : goal.returns
returns c = record { rule = λ text. (path_rule text, path_none text); place = path_place }
