-- The lists of a seat, and what a step on a slot needs of them and makes of them. This project's own.
use Rattle.std.specs.Prelude.{ℕ, Bool, true, not, ◌&&◌, ◌==◌, if◌then◌else◌, List, [], ◌∷◌, ◌++◌, filter}
use Rattle.conda_core.specs.declared.word.SlotState.TheVariants.{Empty, Ready}
use Rattle.conda_core.specs.declared.word.SlotOp.{SlotOp}
use Rattle.conda_core.specs.declared.word.SlotOp.TheVariants.{Load, Try, Back, Unpin, Claim, Publish, Abandon, Take}
use Rattle.conda_core.specs.declared.word.Word.{Word}
use Rattle.conda_core.specs.declared.seat.View.{View}
use Rattle.conda_core.specs.SlotRule.{has}
use Rattle.conda_core.specs.Word.{is_ready_state, is_free_in}

-- a seat with empty lists
abbrev pub no_lists : View
no_lists = record { pins = []; tries = []; busy = [] }

-- the slot is in none of the lists
abbrev pub is_unlisted : ℕ → View → Bool
is_unlisted i v = not (has i v.pins) && not (has i v.tries) && not (has i v.busy)

-- the list with the slot at its end
abbrev pub with_slot : List ℕ → ℕ → List ℕ
with_slot xs i = xs ++ i ∷ []

-- the list without the slot
abbrev pub without_slot : List ℕ → ℕ → List ℕ
without_slot xs i = filter (λ x. not (x == i)) xs

-- what a step needs: a slot goes out of a list that has it, and into a list where none has it
abbrev pub meets_need : SlotOp → ℕ → View → Bool
meets_need Load i v = true
meets_need Try i v = is_unlisted i v
meets_need Back i v = has i v.tries
meets_need Unpin i v = has i v.pins
meets_need Claim i v = is_unlisted i v
meets_need Publish i v = has i v.busy
meets_need Abandon i v = has i v.busy
meets_need Take i v = is_unlisted i v

-- into `pins`, `tries` or `busy`
abbrev pub pin_in : View → ℕ → View
pin_in v i = record { pins = with_slot v.pins i; tries = v.tries; busy = v.busy }

abbrev pub try_in : View → ℕ → View
try_in v i = record { pins = v.pins; tries = with_slot v.tries i; busy = v.busy }

abbrev pub busy_in : View → ℕ → View
busy_in v i = record { pins = v.pins; tries = v.tries; busy = with_slot v.busy i }

-- the lists after a step that found this word
abbrev pub next_view : Word → SlotOp → ℕ → View → View
next_view w Load i v = v
next_view w Try i v = if is_ready_state w.state then pin_in v i else try_in v i
next_view w Back i v = record { pins = v.pins; tries = without_slot v.tries i; busy = v.busy }
next_view w Unpin i v = record { pins = without_slot v.pins i; tries = v.tries; busy = v.busy }
next_view w Claim i v = if is_free_in Empty w then busy_in v i else v
next_view w Publish i v = record { pins = with_slot v.pins i; tries = v.tries; busy = without_slot v.busy i }
next_view w Abandon i v = record { pins = v.pins; tries = v.tries; busy = without_slot v.busy i }
next_view w Take i v = if is_free_in Ready w then busy_in v i else v
