use Rattle.std.proofs.Common.{◌≡◌, ◌∙◌, Contains, subst, sym}
use Rattle.std.proofs.lemmas.Bool.Decides.{Decides-int_eq}
use Rattle.std.proofs.lemmas.List.Elements.{Contains-get_or}
use Rattle.std.specs.Cmp.Lexicographic.{pointwise_decides}
use Rattle.rows_requests.proofs.report.is_among.Goals as goal

pub returns-then-eq : goal.returns-then-eq
returns-then-eq c =
    let same = (pointwise_decides Decides-int_eq c.clause-item.result c.args.input.now).0 (sym c.eq.ensures ∙ c.if-eq.true) in
    λ _. subst (Contains c.args.clauses.now) (sym c.clause-item.is ∙ same)
    (Contains-get_or c.args.clauses.now c.loop-clause.clause-index c.clause-item.result c.loop-clause-test.true)
