use Rattle.std.proofs.Common.{All, Contains, subst}
use Rattle.std.proofs.lemmas.List.{take_all}
use Rattle.std.proofs.lemmas.List.Elements.{All-more}
use Rattle.rows_requests.proofs.report.are_among.Goals as goal

pub loop-input-preserved : goal.loop-input-preserved
loop-input-preserved c =
    All-more (Contains c.args.clauses.now) c.args.inputs.now c.loop-input.input-index c.input-item.result c.loop-input-test.true c.loop-input.invariant
    (subst (Contains c.args.clauses.now) c.input-item.is (c.is_among.ensures c.if-not-is_among.false))

pub returns : goal.returns
returns c =
    λ _. subst (All (Contains c.args.clauses.now)) (take_all c.loop-input.input-index c.args.inputs.now c.loop-input-test.false) c.loop-input.invariant
