use Rattle.conda_encode.specs.Known.{IsKnown}
use Rattle.conda_encode.specs.Marks.{AreSound, Grows}
use Rattle.conda_encode.proofs.reach.mark_reached.Given as goal

abbrev pub invariant-loop-round : goal.invariant-loop-round
invariant-loop-round l = record {
  known : IsKnown l.pools l.known;
  grows : Grows l.initial.marks l.marks;
  sound : AreSound l.pools l.items l.model l.marks;
}
