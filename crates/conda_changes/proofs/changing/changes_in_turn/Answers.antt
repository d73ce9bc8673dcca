use Rattle.std.proofs.Common.{◌≡◌, [], ◌∷◌, ◌++◌, ℕ, List, map, ap, sym, subst, ◌∙◌}
use Rattle.std.proofs.lemmas.List.{map-append}
use Rattle.std.proofs.lemmas.Map.Iter.{rest_more}
use Rattle.std.specs.Map.Iter.{deref}
use Rattle.conda_changes.specs.Counting.{AreCounted, AreFree, IsFreeFor, trash_of}
use Rattle.conda_changes.specs.Moves.{said_by_change, said_by_move}
use Rattle.conda_changes.specs.declared.moves.Move.{Move}
use Rattle.conda_lane.specs.declared.change.Change.{Change}
use Rattle.conda_changes.proofs.ChangeLemmas.{all_said, changes_ascend, one_said}
use Rattle.conda_changes.proofs.TurnLemmas.{one_free}
use Rattle.conda_changes.proofs.changing.changes_in_turn.Goals as goal

pub loop-one-preserved : goal.loop-one-preserved
loop-one-preserved c =
    let before : List Change = c.loop-one.changes.items in
    let change : Change = c.in_ok-change_of.field-0 in
    let one : Move = c.in-Some.one.now in
    let trash : List ℕ = c.in_ok-trash.trash in
    let rest : List Move = c.next.new.self in
    let left = c.args.left.now in
    let pushed : c.push.new.self.items ≡ before ++ change ∷ [] = c.in_ok-push.ensures.items in
    let taken : c.loop-one.one-iterator ≡ one ∷ rest = rest_more deref c.loop-one.one-iterator c.next.new.self c.next.result c.in-Some.one c.in-Some.is c.next.ensures.steps in
    let own_path : one.path.now ≡ change.path = ap (λ (d : Change). d.path) (sym c.in_ok-change_of.ensures) in
    let own_trash : trash ≡ change.trash = ap (λ (d : Change). d.trash) (sym c.in_ok-change_of.ensures) in
    record {
      said = ap (λ all. map said_by_change all ++ map said_by_move rest) pushed ∙ one_said before change one rest (ap said_by_change c.in_ok-change_of.ensures)
          ∙ ap (λ moves. map said_by_change before ++ map said_by_move moves) (sym taken) ∙ c.loop-one.invariant.said;
      free = subst (AreFree left c.args.number []) (sym pushed) (one_free left c.args.number [] before change c.loop-one.invariant.free
          (subst (λ path. IsFreeFor left c.args.number (trash_of before) path change.trash) own_path
          (subst (λ path. IsFreeFor left c.args.number (trash_of before) one.path.now path) own_trash (c.in_ok-trash.ensures.free (trash_of before) c.loop-one.invariant.counted))));
      counted = subst (λ used. AreCounted left c.args.number used c.next_trash.new.nexts)
          (ap (λ path. trash_of before ++ path ∷ []) own_trash ∙ sym (map-append (λ (d : Change). d.trash) before (change ∷ [])) ∙ ap trash_of (sym pushed))
          (c.in_ok-trash.ensures.counted (trash_of before) c.loop-one.invariant.counted);
    }

pub returns-clause-moves : goal.returns-clause-moves
returns-clause-moves c = all_said c.loop-one.changes.items c.loop-one.one-iterator _ c.in-None.ensures.steps.0 c.loop-one.invariant.said

pub returns-clause-by_path : goal.returns-clause-by_path
returns-clause-by_path c = λ own.
    changes_ascend c.args.moves.now c.loop-one.changes.items c.values-one-items.ensures.ordered own
    (all_said c.loop-one.changes.items c.loop-one.one-iterator _ c.in-None.ensures.steps.0 c.loop-one.invariant.said)
