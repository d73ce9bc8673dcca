use Rattle.std.proofs.Common.{[], ◌∷◌, ◌++◌, ◌<◌, length, take, arith, sym, subst, ap, ◌∙◌}
use Rattle.std.proofs.lemmas.List.{take_more}
use Rattle.conda_changes.specs.Paths.{HasJust}
use Rattle.conda_moves.proofs.PathLemmas.{one_text}
use Rattle.conda_moves.proofs.paths.set_of.Goals as goal

pub loop-path-preserved : goal.loop-path-preserved
loop-path-preserved c =
    let i = c.loop-path.path-index in
    let paths = c.args.paths.now in
    let within : i < length paths = omega arith in
    subst (HasJust c.insert.new.self)
    (ap (λ p. take i paths ++ p ∷ []) (c.as_str.ensures.same ∙ c.path-item.is) ∙ sym (take_more paths i c.path-item.result within))
    (one_text c.loop-path.set c.insert.new.self c.as_str.result (take i paths) c.loop-path.invariant c.in_ok-insert.ensures.updates)
