use Rattle.std.proofs.Common.{ap, ◌∙◌}
use Rattle.rows_devices.proofs.lane.run_in_host.Goals as goal

pub lanes-requires-clause-free : goal.lanes-requires-clause-free
lanes-requires-clause-free g c =
    ap (λ state. state.lent c.in-Ok.prefix) (c.set_abilities.ensures ∙ c.stop_at.ensures) ∙ c.in_ok-host.ensures
