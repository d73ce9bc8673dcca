-- What an answer of this crate names.
use Rattle.std.specs.Prelude.{ℕ, Option, None, Some}
use Rattle.conda_history.specs.declared.revision.HistoryErr.{HistoryErr}
use Rattle.conda_history.specs.declared.revision.HistoryErr.TheVariants.{BadHistory, Memory}

-- the line that an error names; want of memory names none
abbrev pub history_fault_of : HistoryErr → Option ℕ
history_fault_of (BadHistory line) = Some line
history_fault_of Memory = None
