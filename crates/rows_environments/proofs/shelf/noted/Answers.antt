use Rattle.std.proofs.Common.{Some, refl, ◌∙◌}
use Rattle.conda_checked.specs.declared.lack.Lack.{Lack}
use Rattle.rows_environments.proofs.Supplies.{lacks_good}
use Rattle.rows_environments.proofs.shelf.noted.Goals as goal

pub returns-in-Ok-clause-lack : goal.returns-in-Ok-clause-lack
returns-in-Ok-clause-lack c =
    let good = c.args.good.now in
    let lack : Lack = record { path = c.in-Ok.path; want = Some (good.size, good.digest); found = c.args.found } in
    lacks_good c.args.goods.now good lack (c.has.ensures c.if-not-has.false) (c.in-Ok.ensures ∙ c.as_str.ensures.same) refl
