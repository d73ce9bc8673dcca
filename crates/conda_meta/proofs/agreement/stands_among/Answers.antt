use Rattle.std.proofs.Common.{◌∙◌}
use Rattle.conda_meta.proofs.AgreementLemmas.{found_is}
use Rattle.conda_meta.proofs.agreement.stands_among.Goals as goal

pub returns : goal.returns
returns c =
    c.is_ok.ensures.value
    ∙ found_is c.args.dists.now c.args.dist.now c.binary_search.result c.requires c.binary_search.ensures.bound c.binary_search.ensures.position
