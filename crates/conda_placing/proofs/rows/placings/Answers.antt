use Rattle.std.specs.Prelude.{option_copied}
use Rattle.conda_placing.specs.Placing.{placings_for}
use Rattle.conda_placing.proofs.RowLemmas.{IsFrom, IsOutside, all_after, from_package, outside_for}
use Rattle.conda_placing.proofs.rows.placings.Goals as goal

pub returns-clause-outside : goal.returns-clause-outside
returns-clause-outside c =
    let pkg = c.args.pkg.now in
    let python = option_copied c.python_for.result in
    all_after c.placings_for.result (λ made. made.items) IsOutside (placings_for python pkg c.args.abilities) c.placings_for.ensures.made
    (outside_for python pkg c.args.abilities c.requires.pkg)

pub returns-clause-origins : goal.returns-clause-origins
returns-clause-origins c =
    let pkg = c.args.pkg.now in
    let python = option_copied c.python_for.result in
    all_after c.placings_for.result (λ made. made.items) (IsFrom pkg) (placings_for python pkg c.args.abilities) c.placings_for.ensures.made
    (from_package python pkg c.args.abilities)
