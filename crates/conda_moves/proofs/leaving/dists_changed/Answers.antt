use Rattle.std.proofs.Common.{[], ◌++◌, ap, subst, ◌∙◌}
use Rattle.conda_changes.specs.Paths.{HasJust}
use Rattle.conda_meta.specs.Reading.{dists_of}
use Rattle.conda_moves.proofs.PathLemmas.{no_text}
use Rattle.conda_moves.proofs.leaving.dists_changed.Goals as goal

pub returns : goal.returns
returns c =
    subst (HasJust c.add_linked.new.dists)
    (ap (λ unlinked. unlinked ++ dists_of c.as_slice-2.result.now) c.as_slice.ensures
    ∙ ap (λ linked. c.args.revision.now.unlinked ++ dists_of linked) c.as_slice-2.ensures)
    (c.in_ok-add_linked.ensures c.as_slice.result.now
    (c.in_ok-add_dists.ensures [] (no_text c.new-dists.result c.new-dists.ensures.empty)))
