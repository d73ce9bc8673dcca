use Rattle.conda_index.specs.Gather.{IsGathered}
use Rattle.conda_index.specs.Pools.{given}
use Rattle.conda_index.proofs.gather.shown_records.Given as goal

abbrev pub invariant-loop-part : goal.invariant-loop-part
invariant-loop-part l = IsGathered (given l.yielded) l.gathered
