use Rattle.std.proofs.Common.{◌<◌, length, sym, ◌∙◌, arith}
use Rattle.conda_meta.proofs.AgreementLemmas.{begins}
use Rattle.conda_meta.proofs.agreement.behind.Goals as goal

pub returns-in-len1-up : goal.returns-in-len1-up
returns-in-len1-up c =
    let some : 0 < length c.args.dists.now = omega arith in
    begins c.args.dists.now c.first-item.result c.args.dist.now some c.first-item.is (sym c.eq.ensures ∙ c.if-eq.true)
