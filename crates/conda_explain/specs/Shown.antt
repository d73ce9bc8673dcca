-- Which clauses of a request are shown for a refutation: this project's own.
use Rattle.std.specs.Prelude.{◌≡◌, ℕ, ℤ, Bool, not, ◌&&◌, List, ◌∷◌, ◌++◌, filter, map, take}
use Rattle.std.specs.Cmp.Lexicographic.{pointwise}
use Rattle.std.specs.List.{filter_map, flat_map, list_any}
use Rattle.std.specs.Ordering.{int_eq}
use Rattle.conda_refute.specs.Refutation.{named}
use Rattle.conda_refute.specs.declared.log.Log.{Log}
use Rattle.conda_encode.specs.Clauses.{Reason}
use Rattle.conda_encode.specs.Variables.{numbered}

-- the two clauses have the same literals in the same order
abbrev pub is_clause : List ℤ → List ℤ → Bool
is_clause = pointwise int_eq

-- one of these is the clause
abbrev pub holds : List (List ℤ) → List ℤ → Bool
holds clauses clause = list_any (is_clause clause) clauses

-- the inputs of a log that its steps name
abbrev pub used : Log → List (List ℤ)
used log = filter_map (named log.inputs) (flat_map (λ step. step.hints) log.steps)

-- the clause at this place is used, and stands there first
abbrev pub is_shown : List Reason → Log → ℕ × Reason → Bool
is_shown reasons log x = holds (used log) x.1.1 && not (holds (map (λ r. r.1) (take x.0 reasons)) x.1.1)

-- the clauses that the log uses, each once and with its first reason, in the order of the clauses
abbrev pub shown : List Reason → Log → List Reason
shown reasons log = map (λ x. x.1) (filter (is_shown reasons log) (numbered 0 reasons))

-- the one reason stands before the other
abbrev pub StandsBefore : List Reason → Reason → Reason → Type 0
StandsBefore reasons r s = (front middle back : List Reason) × (reasons ≡ front ++ r ∷ (middle ++ s ∷ back))
