use Rattle.std.proofs.Common.{ap, sym, ◌∙◌}
use Rattle.std.specs.Ordering.{is_eq}
use Rattle.std.specs.Cmp.Lexicographic.{texts_ties}
use Rattle.conda_path.specs.Slots.{slot_text}
use Rattle.conda_path.proofs.slot.SlotKeyPartialEq.eq.Goals as goal

pub returns : goal.returns
returns c =
    c.is_eq.ensures ∙ ap is_eq c.slot_cmp.ensures ∙ sym (texts_ties (slot_text c.args.self.now) (slot_text c.args.other.now))
