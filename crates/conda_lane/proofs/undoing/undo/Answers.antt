use Rattle.conda_lane.proofs.EffectLemmas.{halves_told, start_told}
use Rattle.conda_lane.specs.Changes.{Between}
use Rattle.conda_lane.proofs.WalkLemmas.{then_too}
use Rattle.conda_lane.proofs.StepLemmas.{on_ok_map}
use Rattle.conda_lane.proofs.undoing.undo.Goals as goal

pub returns-clause-ok : goal.returns-clause-ok
returns-clause-ok g c =
    on_ok_map c.undo_moves.result (λ back. halves_told c.args.changes.now _ _ _ c.requires.apart c.in_ok-undo_puts.ensures.ok back) c.undo_moves.ensures.ok

pub returns-clause-start : goal.returns-clause-start
returns-clause-start g c = λ kept start ready.
    let changes = c.args.changes.now in
    on_ok_map c.undo_moves.result (λ back. start_told kept start changes _ _ c.requires.apart ready (halves_told changes _ _ _ c.requires.apart c.in_ok-undo_puts.ensures.ok back)) c.undo_moves.ensures.ok

pub returns-clause-between : goal.returns-clause-between
returns-clause-between g c = λ kept start ready.
    then_too (λ tree. Between kept tree start c.args.changes.now) _ _ _ (c.in_ok-undo_puts.ensures.between kept start ready) (c.undo_moves.ensures.between kept start ready)
