-- What a refutation is: this project's own, after the logs with hints that SAT solvers write (LRAT).
use Rattle.std.specs.Prelude.{ℕ, ◌+◌, ◌-◌, ◌==◌, ℤ, neg_ℤ, Bool, true, false, not, ◌&&◌, List, [], ◌∷◌, ◌++◌, length, Option, Some, None, filter, map, slice_get, cond}
use Rattle.std.specs.List.{list_any}
use Rattle.conda_refute.specs.Literals.{has}
use Rattle.conda_refute.specs.declared.log.Step.{Step}
use Rattle.conda_refute.specs.declared.log.Log.{Log}

-- the literals of a clause that are not among those taken as false
abbrev pub not_false : List ℤ → List ℤ → List ℤ
not_false falses clause = filter (λ l. not (has falses l)) clause

-- the clause that a hint names, where `clauses` are those before the step, counted from 1
abbrev pub named : List (List ℤ) → ℕ → Option (List ℤ)
named clauses number = cond (number == 0) None (slice_get clauses (number - 1))

-- What a hint gives, by the literals of its clause that aren't false, and what the hints after it give.
-- None is left: the step follows. One is left, and its opposite isn't false: it becomes true, so its opposite is false from here on. Else the step is bad.
abbrev pub by_left : (List ℤ → Bool) → List ℤ → List ℤ → Bool
by_left rest falses [] = true
by_left rest falses (l ∷ []) = not (has falses (neg_ℤ l)) && rest (neg_ℤ l ∷ falses)
by_left rest falses (l ∷ m ∷ ls) = false

-- the same by the clause that the hint names; a hint that names no clause before the step is bad
abbrev pub by_clause : (List ℤ → Bool) → List ℤ → Option (List ℤ) → Bool
by_clause rest falses None = false
by_clause rest falses (Some clause) = by_left rest falses (not_false falses clause)

-- the hints, gone through in order, come to a clause whose literals are all false
abbrev pub hints_end : List (List ℤ) → List ℕ → List ℤ → Bool
hints_end clauses [] falses = false
hints_end clauses (h ∷ hs) falses = by_clause (hints_end clauses hs) falses (named clauses h)

-- the clause holds a literal and its opposite
abbrev pub has_opposites : List ℤ → Bool
has_opposites clause = list_any (λ l. has clause (neg_ℤ l)) clause

-- the step follows from the clauses before it: all literals of its clause are taken as false, and its hints end
abbrev pub follows : List (List ℤ) → Step → Bool
follows clauses step = not (has_opposites step.clause) && hints_end clauses step.hints step.clause

-- each step follows from the inputs and the earlier steps
abbrev pub all_follow : List (List ℤ) → List Step → Bool
all_follow clauses [] = true
all_follow clauses (s ∷ ss) = follows clauses s && all_follow (clauses ++ s.clause ∷ []) ss

-- there is a last step, and its clause is empty
abbrev pub is_empty_step : Option Step → Bool
is_empty_step None = false
is_empty_step (Some s) = length s.clause == 0

abbrev pub ends_empty : List Step → Bool
ends_empty steps = is_empty_step (slice_get steps (length steps - 1))

-- the log is a refutation of its inputs
abbrev pub refuted : Log → Bool
refuted log = all_follow log.inputs log.steps && ends_empty log.steps

-- the inputs, and then the clauses of the steps
abbrev pub clauses_of : List (List ℤ) → List Step → List (List ℤ)
clauses_of inputs steps = inputs ++ map (λ s. s.clause) steps

-- the number of the first step that doesn't follow, where that of the first one here is `number`
abbrev pub first_bad : List (List ℤ) → ℕ → List Step → Option ℕ
first_bad clauses number [] = None
first_bad clauses number (s ∷ ss) = cond (follows clauses s) (first_bad (clauses ++ s.clause ∷ []) (number + 1) ss) (Some number)

-- the first step that doesn't follow; where all do, the last, unless its clause is empty, or 0 if there is none
abbrev pub or_last : List Step → Option ℕ → Option ℕ
or_last steps (Some number) = Some number
or_last steps None = cond (ends_empty steps) None (Some (length steps))

abbrev pub bad_step : Log → Option ℕ
bad_step log = or_last log.steps (first_bad log.inputs 1 log.steps)
