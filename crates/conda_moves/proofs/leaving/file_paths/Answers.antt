use Rattle.std.proofs.Common.{[], ◌∷◌, ◌++◌, map, arith, ap, ◌∙◌}
use Rattle.conda_meta.specs.Shows.{prefix_path}
use Rattle.conda_moves.proofs.ListLemmas.{mapped_item, next_mapped}
use Rattle.conda_moves.proofs.leaving.file_paths.Goals as goal

pub loop-one-preserved : goal.loop-one-preserved
loop-one-preserved c =
    let i = c.loop-one.one-index in
    let item = mapped_item (λ r. r.now) c.args.packages.now i c.one-item.result (omega arith) c.one-item.is in
    c.in_ok-push.ensures.items ∙ ap (λ paths. paths ++ c.in_ok-prefix_path.field-0 ∷ []) c.loop-one.invariant
    ∙ next_mapped (λ one. prefix_path one.rec.dist)
    (map (λ r. r.now) c.args.packages.now) i c.one-item.result.now c.in_ok-prefix_path.field-0 item.0 item.1 c.in_ok-prefix_path.ensures
