use Rattle.std.proofs.Common.{[], ◌++◌, ◌∷◌, take, append_assoc, arith, refl, ap, sym, subst, ◌∙◌}
use Rattle.conda_goods.specs.Goods.{paths_of}
use Rattle.std.proofs.lemmas.List.{take_all}
use Rattle.conda_moves.specs.Filling.{AreMoves}
use Rattle.conda_moves.proofs.ListLemmas.{next_mapped}
use Rattle.conda_moves.proofs.MoveLemmas.{one_going}
use Rattle.conda_moves.proofs.filling.add_going.Goals as goal

pub loop-good-preserved : goal.loop-good-preserved
loop-good-preserved c = λ gone are.
    let i = c.loop-good.good-index in
    let goods = c.args.goods.now in
    let text = c.as_str-text.result in
    subst (λ paths. AreMoves c.args.others.now c.args.altered.now paths [] [] c.insert.new.self)
    (append_assoc gone (paths_of (take i goods)) (text.now ∷ [])
    ∙ ap (λ paths. gone ++ paths)
    (next_mapped (λ good. good.path) goods i c.good-item.result text.now (omega arith) c.good-item.is c.as_str-text.ensures.same))
    (one_going c.args.others.now c.args.altered.now (gone ++ paths_of (take i goods)) c.loop-good.moves c.insert.new.self text _
    (c.loop-good.invariant gone are)
    c.in_ok-insert.ensures.updates (sym c.as_str-text.ensures.same) c.is_left-old.ensures refl)

pub returns : goal.returns
returns c = λ gone are.
    subst (λ goods. AreMoves c.args.others.now c.args.altered.now (gone ++ paths_of goods) [] [] c.loop-good.moves)
    (take_all c.loop-good.good-index c.args.goods.now (omega arith)) (c.loop-good.invariant gone are)
