use Rattle.std.proofs.Common.{◌≡◌, false, take}
use Rattle.std.specs.List.{Contains}
use Rattle.conda_spec.specs.Parts.{Parts}
use Rattle.conda_encode.specs.Known.{IsKnown}
use Rattle.conda_encode.specs.Marks.{AreSound, Grows, IsMarked}
use Rattle.conda_encode.proofs.reach.mark_each.Given as goal

abbrev pub invariant-loop-spec : goal.invariant-loop-spec
invariant-loop-spec l = record {
  known : IsKnown l.pools l.known;
  grows : Grows l.initial.marks l.marks;
  sound : AreSound l.pools l.items l.model l.marks;
  marked : (spec : Parts) → Contains (take l.spec-index l.specs) spec → IsMarked l.pools l.model l.marks spec;
  same : l.changed ≡ false → l.marks ≡ l.initial.marks;
}
