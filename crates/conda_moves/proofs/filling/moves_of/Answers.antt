use Rattle.std.proofs.Common.{◌++◌, [], map, take, arith, ap, subst, ◌∙◌}
use Rattle.conda_goods.specs.Goods.{paths_of}
use Rattle.conda_moves.specs.Filling.{AreMoves}
use Rattle.conda_moves.specs.Going.{good_paths}
use Rattle.conda_moves.proofs.ListLemmas.{mapped_item, next_joined}
use Rattle.conda_moves.proofs.filling.moves_of.Goals as goal

pub loop-one-preserved : goal.loop-one-preserved
loop-one-preserved c =
    let i = c.loop-one.one-index in
    let going = map (λ r. r.now) c.args.going.now in
    let one = c.one-item.result.now in
    let item = mapped_item (λ r. r.now) c.args.going.now i c.one-item.result (omega arith) c.one-item.is in
    subst (λ paths. AreMoves c.args.others.now c.args.altered.now paths [] [] c.add_going.new.moves)
    (ap (λ goods. good_paths (take i going) ++ paths_of goods) c.list.ensures.same
    ∙ next_joined (λ one. paths_of one.goods) going i one item.0 item.1)
    (c.in_ok-add_going.ensures (good_paths (take i going)) c.loop-one.invariant)
