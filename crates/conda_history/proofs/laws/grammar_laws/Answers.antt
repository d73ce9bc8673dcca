use Rattle.conda_history.proofs.HistoryLemmas.{bad_read, means_read, read_bad, read_good, read_means}
use Rattle.conda_history.proofs.LineLemmas.{Rules}
use Rattle.conda_history.proofs.laws.grammar_laws.Goals as goal

pub returns : goal.returns
returns c =
    let rules : Rules = record {
      dist = c.dist_laws.ensures.rule;
      ending = c.ending_laws.ensures;
      cut = c.cut_laws.ensures.last;
      uncut = c.cut_laws.ensures.no_last;
    } in
    record {
      meaning = λ bytes history. (read_means rules bytes history, means_read rules bytes history);
      fault = λ bytes line. (read_bad rules bytes line, bad_read rules bytes line);
      good = read_good rules;
    }
