use Rattle.rows_environments.proofs.Distinct.{none_apart, one_more_apart, rest_of}
use Rattle.rows_environments.proofs.checks.+are_apart.Goals as goal

pub returns-in-empty : goal.returns-in-empty
returns-in-empty t c = λ _. none_apart c.args.changes.now c.in-empty.len_below

pub returns-else-not-is_apart : goal.returns-else-not-is_apart
returns-else-not-is_apart t c = λ apart.
    let here = c.if-not-is_apart.false in
    one_more_apart c.args.changes.now c.first-item.result _ c.in-len1-up.len_at_least c.first-item.is (rest_of c.args.changes.now)
    (c.is_apart.ensures.own here) (c.is_apart.ensures.path here) (c.is_apart.ensures.trash here) (c.are_apart.ensures apart)
