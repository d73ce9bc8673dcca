use Rattle.std.proofs.Common.{[], ◌++◌, ◌∷◌, take, append_assoc, arith, refl, ap, sym, subst, ◌∙◌}
use Rattle.std.proofs.lemmas.List.{take_all}
use Rattle.conda_moves.specs.Filling.{AreMoves}
use Rattle.conda_moves.proofs.ListLemmas.{next_item}
use Rattle.conda_moves.proofs.MoveLemmas.{one_coming}
use Rattle.conda_moves.proofs.filling.add_goods.Goals as goal

pub loop-good-preserved : goal.loop-good-preserved
loop-good-preserved c = λ altered gone files comes are.
    let i = c.loop-good.good-index in
    let goods = c.args.goods.now in
    let good = c.good-item.result in
    let before = comes ++ take i goods in
    let stood = c.loop-good.invariant altered gone files comes are in
    subst (λ all. AreMoves c.args.others.now altered gone files all c.insert.new.self)
    (append_assoc comes (take i goods) (good ∷ [])
    ∙ ap (λ more. comes ++ more) (next_item goods i good good (omega arith) c.good-item.is refl))
    (one_coming c.args.others.now altered gone files before c.loop-good.moves c.insert.new.self c.as_str-text.result _ good stood
    c.in_ok-insert.ensures.updates (sym c.as_str-text.ensures.same) (sym c.as_str-text.ensures.same)
    (c.is_standing-old.ensures altered gone files before stood) refl)

pub returns : goal.returns
returns c = λ altered gone files comes are.
    subst (λ goods. AreMoves c.args.others.now altered gone files (comes ++ goods) c.loop-good.moves)
    (take_all c.loop-good.good-index c.args.goods.now (omega arith)) (c.loop-good.invariant altered gone files comes are)
