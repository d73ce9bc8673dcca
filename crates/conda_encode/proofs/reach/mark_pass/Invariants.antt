use Rattle.std.proofs.Common.{◌≡◌, false, take}
use Rattle.conda_encode.specs.Known.{IsKnown}
use Rattle.conda_encode.specs.Marks.{AreSound, Grows, NeedsAreMarked}
use Rattle.conda_encode.specs.Variables.{numbered, records}
use Rattle.conda_encode.proofs.reach.mark_pass.Given as goal

abbrev pub invariant-loop-at : goal.invariant-loop-at
invariant-loop-at l = record {
  known : IsKnown l.pools l.known;
  grows : Grows l.initial.marks l.marks;
  sound : AreSound l.pools l.items l.model l.marks;
  marked : NeedsAreMarked l.pools l.model l.initial.marks l.marks (numbered 1 (take l.at (records l.pools)));
  same : l.changed ≡ false → l.marks ≡ l.initial.marks;
}
