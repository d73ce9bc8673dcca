use Rattle.conda_version.proofs.CutLemmas.{cuts}
use Rattle.conda_version.proofs.PartLemmas.{short_epoch}
use Rattle.conda_version.proofs.build.epoch_of.Goals as goal

pub number_of-requires-clause-digits : goal.number_of-requires-clause-digits
number_of-requires-clause-digits c =
    (short_epoch (cuts c.cut_laws.ensures.first c.cut_laws.ensures.no_first) c.args.text.now c.in-Some.digits.now c.in-Some.ensures
    c.requires.good c.requires.short).0

pub number_of-requires-clause-few : goal.number_of-requires-clause-few
number_of-requires-clause-few c =
    (short_epoch (cuts c.cut_laws.ensures.first c.cut_laws.ensures.no_first) c.args.text.now c.in-Some.digits.now c.in-Some.ensures
    c.requires.good c.requires.short).1
