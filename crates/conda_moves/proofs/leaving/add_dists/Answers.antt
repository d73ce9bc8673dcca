use Rattle.std.proofs.Common.{[], ◌∷◌, ◌++◌, take, append_assoc, arith, ap, subst, ◌∙◌}
use Rattle.conda_changes.specs.Paths.{HasJust}
use Rattle.conda_moves.proofs.ListLemmas.{next_item}
use Rattle.conda_moves.proofs.PathLemmas.{one_text}
use Rattle.conda_moves.proofs.leaving.add_dists.Goals as goal

pub loop-dist-preserved : goal.loop-dist-preserved
loop-dist-preserved c = λ before has.
    let i = c.loop-dist.dist-index in
    let more = c.args.more.now in
    subst (HasJust c.insert.new.self)
    (append_assoc before (take i more) (c.text.result.now ∷ [])
    ∙ ap (λ dists. before ++ dists)
    (next_item more i c.dist-item.result c.text.result.now (omega arith) c.dist-item.is c.text.ensures.same))
    (one_text c.loop-dist.dists c.insert.new.self c.text.result (before ++ take i more)
    (c.loop-dist.invariant before has) c.in_ok-insert.ensures.updates)
