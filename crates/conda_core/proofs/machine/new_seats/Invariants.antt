use Rattle.std.proofs.Common.{◌≡◌, replicate}
use Rattle.conda_core.specs.Seat.{no_lists}
use Rattle.conda_core.proofs.machine.new_seats.Given as goal

abbrev pub invariant-loop : goal.invariant-loop
invariant-loop l = l.seats.items ≡ replicate l.counter no_lists
