use Rattle.conda_changes.proofs.ApartLemmas.{all_apart}
use Rattle.conda_changes.proofs.CountLemmas.{trash_injective}
use Rattle.conda_changes.proofs.laws.apart_laws.Goals as goal

pub returns-clause-number : goal.returns-clause-number
returns-clause-number c = λ number k j _ small low same. trash_injective number k j small low same

pub returns-clause-apart : goal.returns-clause-apart
returns-clause-apart c = λ trash number changes small up outs all. all_apart trash number changes changes small (λ change has. has) up outs all
