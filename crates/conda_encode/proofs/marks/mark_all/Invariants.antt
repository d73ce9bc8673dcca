use Rattle.std.proofs.Common.{◌≡◌, false, take}
use Rattle.conda_encode.specs.Marks.{Covers, Grows, OnlyThese}
use Rattle.conda_encode.proofs.marks.mark_all.Given as goal

abbrev pub invariant-loop-literal : goal.invariant-loop-literal
invariant-loop-literal l = record {
  grows : Grows l.initial.marks l.marks;
  only : OnlyThese l.model (take l.literal-index l.literals) l.initial.marks l.marks;
  covers : Covers l.model (take l.literal-index l.literals) l.marks;
  same : l.changed ≡ false → l.marks ≡ l.initial.marks;
}
