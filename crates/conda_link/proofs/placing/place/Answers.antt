use Rattle.std.proofs.Common.{rules}
use Rattle.conda_path.specs.Paths.{IsRelPath}
use Rattle.conda_link.specs.Places.{placed}
use Rattle.conda_link.proofs.LongLemmas.{long_law}
use Rattle.conda_link.proofs.placing.place.Goals as goal

pub returns-in-Err-BadPath-clause-long : goal.returns-in-Err-BadPath-clause-long
returns-in-Err-BadPath-clause-long c = λ bad is.
    let laws = c.cut_laws.ensures in
    let no_path : ¬ IsRelPath (placed c.args.python.now c.args.path.now) = search rules in
    let path : IsRelPath c.args.path.now = search rules in
    long_law laws.first (λ mark text before behind e. (laws.first_words mark text before behind e).2) c.args.python.now c.args.path.now is path no_path
