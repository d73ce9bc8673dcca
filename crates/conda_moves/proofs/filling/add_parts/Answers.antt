use Rattle.std.proofs.Common.{◌++◌, take, append_assoc, arith, ap, subst, ◌∙◌}
use Rattle.std.proofs.lemmas.List.{take_all}
use Rattle.std.specs.List.{flat_map}
use Rattle.conda_moves.specs.Filling.{AreMoves}
use Rattle.conda_moves.proofs.ListLemmas.{next_joined}
use Rattle.conda_moves.proofs.filling.add_parts.Goals as goal

pub loop-part-preserved : goal.loop-part-preserved
loop-part-preserved c = λ altered gone files comes are.
    let i = c.loop-part.part-index in
    let parts = c.args.parts.now in
    let before = flat_map (λ part. part.goods) (take i parts) in
    subst (λ all. AreMoves c.args.others.now altered gone files all c.add_goods.new.moves)
    (append_assoc comes before c.list.result.now
    ∙ ap (λ goods. comes ++ goods)
    (ap (λ goods. before ++ goods) c.list.ensures.same
    ∙ next_joined (λ part. part.goods) parts i c.part-item.result (omega arith) c.part-item.is))
    (c.in_ok-add_goods.ensures altered gone files (comes ++ before) (c.loop-part.invariant altered gone files comes are))

pub returns : goal.returns
returns c = λ altered gone files comes are.
    subst (λ parts. AreMoves c.args.others.now altered gone files (comes ++ flat_map (λ part. part.goods) parts) c.loop-part.moves)
    (take_all c.loop-part.part-index c.args.parts.now (omega arith)) (c.loop-part.invariant altered gone files comes are)
