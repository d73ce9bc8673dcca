use Rattle.std.proofs.Common.{take}
use Rattle.conda_encode.specs.Known.{IsKnown}
use Rattle.conda_encode.specs.Marks.{AreSound, WantedAreMarked}
use Rattle.conda_encode.proofs.cut.mark_wanted.Given as goal

abbrev pub invariant-loop-item : goal.invariant-loop-item
invariant-loop-item l = record {
  known : IsKnown l.pools l.known;
  sound : AreSound l.pools l.items l.model l.marks;
  marked : WantedAreMarked l.pools l.model l.marks (take l.item-index l.items);
}
