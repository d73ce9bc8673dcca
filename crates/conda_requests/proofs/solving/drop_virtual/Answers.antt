use Rattle.std.proofs.Common.{rules}
use Rattle.std.proofs.lemmas.Fn.{filter_same}
use Rattle.conda_requests.proofs.solving.drop_virtual.Goals as goal

pub returns : goal.returns
returns c = filter_same _ _ _ (λ x b q h. search rules) _ _ c.retain.ensures.filtered
