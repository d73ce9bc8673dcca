use Rattle.std.proofs.Common.{arith}
use Rattle.conda_spec.proofs.NameLemmas.{front_is}
use Rattle.conda_spec.proofs.head.named.Goals as goal

pub returns-clause-good : goal.returns-clause-good
returns-clause-good c =
    front_is c.args.given c.in_ok-wanted.wanted c.args.text.now c.name_cut.result.0.now c.in_ok-name.name c.with_wanted.result
    c.requires.good c.in_ok-wanted.ensures.good
    (omega (arith, c.if-name-eq0.false)) c.name_cut.ensures.name c.in_ok-name.ensures c.with_wanted.ensures
