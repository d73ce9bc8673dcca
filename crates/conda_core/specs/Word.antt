-- The word of a slot. This project's own.
use Rattle.std.specs.Prelude.{ℕ, ◌+◌, ◌-◌, Bool, true, false, ◌&&◌, ◌==◌, nat_lt, if◌then◌else◌, Option, Some, None}
use Rattle.conda_core.specs.declared.word.SlotState.{SlotState}
use Rattle.conda_core.specs.declared.word.SlotState.TheVariants.{Empty, Busy, Ready}
use Rattle.conda_core.specs.declared.word.SlotOp.{SlotOp}
use Rattle.conda_core.specs.declared.word.SlotOp.TheVariants.{Load, Try, Back, Unpin, Claim, Publish, Abandon, Take}
use Rattle.conda_core.specs.declared.word.Word.{Word}
use Rattle.conda_core.specs.declared.word.TheConstants.{MAX_COUNT}

abbrev pub is_empty_state : SlotState → Bool
is_empty_state Empty = true
is_empty_state Busy = false
is_empty_state Ready = false

abbrev pub is_busy_state : SlotState → Bool
is_busy_state Empty = false
is_busy_state Busy = true
is_busy_state Ready = false

abbrev pub is_ready_state : SlotState → Bool
is_ready_state Empty = false
is_ready_state Busy = false
is_ready_state Ready = true

abbrev pub is_state : SlotState → SlotState → Bool
is_state Empty s = is_empty_state s
is_state Busy s = is_busy_state s
is_state Ready s = is_ready_state s

-- one more counts on it, where the count stays in its range
abbrev pub counted_more : SlotState → ℕ → Option Word
counted_more state count = if nat_lt count MAX_COUNT then Some (record { state = state; count = count + 1 }) else None

-- one less counts on it, where any does
abbrev pub counted_less : SlotState → ℕ → Option Word
counted_less state count = if nat_lt 0 count then Some (record { state = state; count = count - 1 }) else None

-- it is in this state, and nobody counts on it
abbrev pub is_free_in : SlotState → Word → Bool
is_free_in state w = is_state state w.state && w.count == 0

-- Busy where it is in this state and nobody counts on it, else as it was
abbrev pub taken_from : SlotState → Word → Word
taken_from state w = if is_free_in state w then record { state = Busy; count = 0 } else w

-- the word after a step, where the step can be made
abbrev pub next_word : Word → SlotOp → Option Word
next_word w Load = Some w
next_word w Try = counted_more w.state w.count
next_word w Back = counted_less w.state w.count
next_word w Unpin = if is_ready_state w.state then counted_less w.state w.count else None
next_word w Claim = Some (taken_from Empty w)
next_word w Publish = if is_busy_state w.state then counted_more Ready w.count else None
next_word w Abandon = if is_busy_state w.state then Some (record { state = Empty; count = w.count }) else None
next_word w Take = Some (taken_from Ready w)
