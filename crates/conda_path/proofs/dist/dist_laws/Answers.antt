use Rattle.conda_base.specs.Signs.{dash}
use Rattle.conda_path.proofs.DistLemmas.{LastDash, parts_law, rule_law, split_law}
use Rattle.conda_path.proofs.dist.dist_laws.Goals as goal

pub returns : goal.returns
returns c =
    let laws = c.cut_laws.ensures in
    let last : LastDash = record {
      cut = laws.last dash;
      words = laws.last_words dash;
      none = λ text e. (laws.free_words dash text ((laws.no_last dash text).0 e)).2;
    } in
    record { rule = rule_law last; split = split_law last; parts = parts_law last }
