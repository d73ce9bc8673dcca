use Rattle.std.proofs.Common.{[], refl, arith}
use Rattle.conda_changes.proofs.TurnLemmas.{all_have_trash}
use Rattle.conda_changes.proofs.changing.changes_of.Goals as goal

pub returns-clause-trash : goal.returns-clause-trash
returns-clause-trash c = λ own.
    all_have_trash c.args.trash.now c.in_ok-left.left c.args.number c.in_ok-changes.changes.items [] c.in_ok-changes.changes.items c.in_ok-left.ensures refl
    (λ b d has _. absurd (omega (arith, has.1))) (c.in_ok-changes.ensures.by_path own) c.in_ok-changes.ensures.free
