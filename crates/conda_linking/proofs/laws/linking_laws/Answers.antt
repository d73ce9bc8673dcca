use Rattle.conda_linking.proofs.FoldLemmas.{folds_to_target}
use Rattle.conda_linking.proofs.OnlyLemmas.{one_revision}
use Rattle.conda_linking.proofs.laws.linking_laws.Goals as goal

pub returns-clause-folds : goal.returns-clause-folds
returns-clause-folds c = folds_to_target

pub returns-clause-only : goal.returns-clause-only
returns-clause-only c = one_revision
