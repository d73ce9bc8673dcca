use Rattle.std.proofs.Common.{[], ◌∷◌, ◌++◌, take, append_assoc, arith, ap, subst, ◌∙◌}
use Rattle.conda_changes.specs.Paths.{HasJust}
use Rattle.conda_meta.specs.Reading.{dists_of}
use Rattle.conda_moves.proofs.ListLemmas.{next_mapped}
use Rattle.conda_moves.proofs.PathLemmas.{one_text}
use Rattle.conda_moves.proofs.leaving.add_linked.Goals as goal

pub loop-one-preserved : goal.loop-one-preserved
loop-one-preserved c = λ before has.
    let i = c.loop-one.one-index in
    let linked = c.args.linked.now in
    subst (HasJust c.insert.new.self)
    (append_assoc before (dists_of (take i linked)) (c.text.result.now ∷ [])
    ∙ ap (λ dists. before ++ dists)
    (next_mapped (λ one. one.rec.dist) linked i c.one-item.result c.text.result.now (omega arith) c.one-item.is c.text.ensures.same))
    (one_text c.loop-one.dists c.insert.new.self c.text.result (before ++ dists_of (take i linked))
    (c.loop-one.invariant before has) c.in_ok-insert.ensures.updates)
