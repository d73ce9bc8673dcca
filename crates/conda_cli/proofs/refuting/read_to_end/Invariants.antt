use Rattle.std.specs.Prelude.{◌≡◌, ◌≤◌, length}
use Rattle.conda_dev.specs.Streams.{led_by}
use Rattle.conda_cli.specs.Refuting.{log_limit}
use Rattle.conda_cli.proofs.refuting.read_to_end.Given as goal

abbrev pub invariant-loop-turn : goal.invariant-loop-turn
invariant-loop-turn g l = record {
  -- at least a byte was read a turn, and no more than the limit
  each : l._turn ≤ length l.bytes.items;
  short : length l.bytes.items ≤ log_limit;
  left : g.I.In.left l.fn.input ≡ led_by l.bytes.items (g.I.In.left l.input);
  later : g.I.In.faults l.fn.input ≤ g.I.In.faults l.input;
}
