use Rattle.conda_history.proofs.LineLemmas.{Rules}
use Rattle.conda_history.proofs.WrittenLemmas.{text_read_back}
use Rattle.conda_history.proofs.laws.text_laws.Goals as goal

pub returns : goal.returns
returns c =
    let rules : Rules = record {
      dist = c.dist_laws.ensures.rule;
      ending = c.ending_laws.ensures;
      cut = c.cut_laws.ensures.last;
      uncut = c.cut_laws.ensures.no_last;
    } in
    text_read_back rules
