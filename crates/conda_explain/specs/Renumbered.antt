-- A refutation over the clauses that are shown, with new numbers: this project's own.
use Rattle.std.specs.Prelude.{ℕ, ◌+◌, ◌-◌, ◌==◌, ℤ, List, ◌++◌, length, map, None, cond, slice_get, unwrap_or}
use Rattle.std.specs.List.{position_or_len, range_with_len}
use Rattle.conda_refute.specs.declared.log.Log.{Log}
use Rattle.conda_refute.specs.declared.log.Step.{Step}
use Rattle.conda_encode.specs.Clauses.{Reason}
use Rattle.conda_explain.specs.Shown.{is_clause, shown}

-- the number of an input among the clauses that are shown, from 1
abbrev pub number_of : List (List ℤ) → List ℤ → ℕ
number_of clauses clause = position_or_len (is_clause clause) clauses + 1

-- the new numbers of the log's clauses, of its inputs and then of its steps, where these clauses are its inputs from now on
abbrev pub new_numbers : List (List ℤ) → Log → List ℕ
new_numbers clauses log = map (number_of clauses) log.inputs ++ range_with_len (length clauses + 1) (length log.steps)

-- a number behind those of all clauses: it names none
abbrev pub no_number : List (List ℤ) → Log → ℕ
no_number clauses log = length clauses + length log.steps + 1

-- the new number of a hint, where these are the new numbers and `none` is that of no clause
abbrev pub hint_among : List ℕ → ℕ → ℕ → ℕ
hint_among numbers none hint = unwrap_or (cond (hint == 0) None (slice_get numbers (hint - 1))) none

abbrev pub new_hint : List (List ℤ) → Log → ℕ → ℕ
new_hint clauses log = hint_among (new_numbers clauses log) (no_number clauses log)

abbrev pub renumbered : List (List ℤ) → Log → Step → Step
renumbered clauses log step = record { clause = step.clause; hints = map (new_hint clauses log) step.hints }

-- the log with these clauses as its inputs
abbrev pub over : List (List ℤ) → Log → Log
over clauses log = record { inputs = clauses; steps = map (renumbered clauses log) log.steps }

-- the log over the clauses that are shown
abbrev pub shown_log : List Reason → Log → Log
shown_log reasons log = over (map (λ r. r.1) (shown reasons log)) log
