use Rattle.conda_core.specs.declared.event.Event.TheVariants.{Slot}
use Rattle.conda_core.proofs.RuleLemmas.{call_keeps, step_keeps, env_keeps}
use Rattle.conda_core.proofs.machine.Core.apply.Goals as goal

pub returns-in-Slot-clause-rules : goal.returns-in-Slot-clause-rules
returns-in-Slot-clause-rules c = call_keeps _ _ _ _ _ c.slot_event.ensures (λ on r. step_keeps c.args.self.now (Slot c.in-Slot.seat c.in-Slot.slot c.in-Slot.op) r on)

pub returns-in-Lock-clause-rules : goal.returns-in-Lock-clause-rules
returns-in-Lock-clause-rules c = call_keeps _ _ _ _ _ c.env_event.ensures (λ on r. env_keeps _ _ _ r on)
