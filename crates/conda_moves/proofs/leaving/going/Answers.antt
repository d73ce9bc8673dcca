use Rattle.std.proofs.Common.{List, [], ◌∷◌, ◌++◌, take, arith, ap, sym, subst, ◌∙◌}
use Rattle.std.proofs.lemmas.List.{take_all}
use Rattle.conda_meta.specs.declared.linked.Linked.{Linked}
use Rattle.conda_changes.specs.Paths.{is_in}
use Rattle.conda_moves.specs.Going.{AreGoing, those_of}
use Rattle.conda_moves.proofs.GoingLemmas.{are_going}
use Rattle.conda_moves.proofs.ListLemmas.{next_filtered, next_taken}
use Rattle.conda_moves.proofs.leaving.going.Goals as goal

pub loop-one-preserved : goal.loop-one-preserved
loop-one-preserved c =
    let dists = c.in_ok-dists.dists in
    let i = c.loop-one.one-index in
    let before : List Linked = take i c.args.now.now in
    c.in_ok-add_if_among.ensures ∙ ap (λ going. going ++ those_of dists (c.one-item.result ∷ [])) c.loop-one.invariant
    ∙ sym (next_filtered (λ (one : Linked). is_in dists one.rec.dist) before c.one-item.result)
    ∙ ap (those_of dists) (sym (next_taken c.args.now.now i c.one-item.result (omega arith) c.one-item.is))

pub returns : goal.returns
returns c =
    subst (AreGoing c.args.now.now c.args.revision.now)
    (sym (c.loop-one.invariant ∙ ap (those_of c.in_ok-dists.dists) (take_all c.loop-one.one-index c.args.now.now (omega arith))))
    (are_going c.in_ok-dists.dists c.args.revision.now c.args.now.now c.in_ok-dists.ensures)
