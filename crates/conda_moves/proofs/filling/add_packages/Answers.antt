use Rattle.std.proofs.Common.{◌++◌, take, append_assoc, arith, ap, subst, ◌∙◌}
use Rattle.std.proofs.lemmas.List.{take_all}
use Rattle.std.specs.List.{flat_map}
use Rattle.conda_moves.specs.Filling.{AreMoves}
use Rattle.conda_moves.proofs.ListLemmas.{next_joined}
use Rattle.conda_moves.proofs.filling.add_packages.Goals as goal

pub loop-one-preserved : goal.loop-one-preserved
loop-one-preserved c = λ altered gone files comes are.
    let i = c.loop-one.one-index in
    let linked = c.args.linked.now in
    let before = flat_map (λ one. one.goods) (take i linked) in
    subst (λ all. AreMoves c.args.others.now altered gone files all c.add_goods.new.moves)
    (append_assoc comes before c.list.result.now
    ∙ ap (λ goods. comes ++ goods)
    (ap (λ goods. before ++ goods) c.list.ensures.same
    ∙ next_joined (λ one. one.goods) linked i c.one-item.result (omega arith) c.one-item.is))
    (c.in_ok-add_goods.ensures altered gone files (comes ++ before) (c.loop-one.invariant altered gone files comes are))

pub returns : goal.returns
returns c = λ altered gone files comes are.
    subst (λ linked. AreMoves c.args.others.now altered gone files (comes ++ flat_map (λ one. one.goods) linked) c.loop-one.moves)
    (take_all c.loop-one.one-index c.args.linked.now (omega arith)) (c.loop-one.invariant altered gone files comes are)
