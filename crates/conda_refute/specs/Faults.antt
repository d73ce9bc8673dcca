-- What an answer of this crate's names.
use Rattle.std.specs.Prelude.{Option, None, Some}
use Rattle.conda_refute.specs.declared.log.RefuteErr.{RefuteErr}
use Rattle.conda_refute.specs.declared.log.RefuteErr.TheVariants.{Bad, BadLog, Memory}

-- the fault that an error names; want of memory is none
abbrev pub refute_fault_of : RefuteErr → Option RefuteErr
refute_fault_of (Bad step) = Some (Bad step)
refute_fault_of (BadLog line) = Some (BadLog line)
refute_fault_of Memory = None
