use Rattle.std.proofs.Common.{◌≡◌, ◌+◌, ◌++◌, length}
use Rattle.conda_clause.specs.declared.reading.Wanted.TheVariants.{Atom}
use Rattle.conda_clause.specs.Clause.{fault_from}
use Rattle.conda_clause.specs.Pieces.{pieces, tokens}
use Rattle.conda_clause.proofs.reading.left_fault.Given as goal

abbrev pub invariant-loop-left : goal.invariant-loop-left
invariant-loop-left l =
    record {
      lengths : l.at + length l.left ≡ length l.text;
      fault : fault_from l.wanted l.depth l.at (pieces l.left) ≡ fault_from Atom 0 0 (pieces l.text);
      made : l.made.items ++ tokens l.left ≡ l.fn.made.items ++ tokens l.text;
    }

abbrev pub decreases-loop-left : goal.decreases-loop-left
decreases-loop-left l = length l.left
