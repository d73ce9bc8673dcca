-- What is asked of a set of clauses, and what an answer has to meet.
use Rattle.std.specs.Prelude.{◌≡◌, ℕ, ◌+◌, ◌-◌, ◌≤◌, ◌<◌, nat_le, ℤ, pos, negsuc, neg_ℤ, Bool, true, false, ◌&&◌, ◌||◌, List, [], ◌∷◌, ◌++◌, length, map, slice_get, All, Contains, Some, unwrap_or}
use Rattle.std.specs.List.{list_all}
use Rattle.conda_refute.specs.Literals.{clause_true, has, literal_true}
use Rattle.conda_refute.specs.Refutation.{has_opposites, named, refuted}
use Rattle.conda_refute.specs.declared.log.Step.{Step}
use Rattle.conda_sat.specs.declared.verdict.Verdict.{Verdict}
use Rattle.conda_sat.specs.declared.verdict.Verdict.TheVariants.{Model, Denied}
use Rattle.conda_sat.specs.declared.verdict.Answer.{Answer}

-- clauses over some variables, and the steps that were learned from them
pub record Question : Type 0 where
  pub vars : ℕ
  pub clauses : List (List ℤ)
  pub steps : List Step

-- the variable of a literal
abbrev pub variable_of : ℤ → ℕ
variable_of (pos n) = n
variable_of (negsuc n) = n + 1

-- the literal is of one of so many variables, which count from 1
abbrev pub is_within : ℕ → ℤ → Bool
is_within vars literal = nat_le 1 (variable_of literal) && nat_le (variable_of literal) vars

-- the side of each variable in a list that has the first variable's first
abbrev pub side_of : List Bool → ℕ → Bool
side_of sides n = unwrap_or (slice_get sides (n - 1)) false

-- the sides make all clauses and all of these literals true
abbrev pub Satisfies : List Bool → List (List ℤ) → List ℤ → Type 0
Satisfies sides clauses assumed =
    (list_all (clause_true (side_of sides)) clauses ≡ true) × (list_all (literal_true (side_of sides)) assumed ≡ true)

-- no sides of the variables make all clauses and all of these literals true
abbrev pub IsDenied : List (List ℤ) → List ℤ → Type 0
IsDenied clauses assumed =
    (v : ℕ → Bool) → list_all (clause_true v) clauses ≡ true → list_all (literal_true v) assumed ≡ true → ⊥

-- each literal of the clause is the opposite of one of these
abbrev pub denies : List ℤ → List ℤ → Bool
denies assumed clause = list_all (λ l. has assumed (neg_ℤ l)) clause

-- the verdict is right for these clauses and assumed literals
abbrev pub IsVerdict : ℕ → List (List ℤ) → List ℤ → Verdict → Type 0
IsVerdict vars clauses assumed (Model sides) = (length sides ≡ vars) × Satisfies sides clauses assumed
IsVerdict vars clauses assumed Denied = IsDenied clauses assumed

-- the answer is right for these clauses
abbrev pub IsAnswer : ℕ → List (List ℤ) → Answer → Type 0
IsAnswer vars clauses (Answer.Model sides) = (length sides ≡ vars) × (list_all (clause_true (side_of sides)) clauses ≡ true)
IsAnswer vars clauses (Answer.Refuted log) = (refuted log ≡ true) × All (Contains clauses) log.inputs

-- ---- both sides of each variable, one after another

-- the literal of a variable that is true on this side of it
abbrev pub literal_at : ℕ → Bool → ℤ
literal_at n true = pos n
literal_at n false = neg_ℤ (pos n)

-- the opposites of these
abbrev pub opposites : List ℤ → List ℤ
opposites literals = map neg_ℤ literals

-- each of these is of one of the variables and no two are opposites; all variables before the next one are decided
pub record AreDecided (vars next : ℕ) (decided : List ℤ) : Type 0 where
  pub within : list_all (is_within vars) decided ≡ true
  pub apart : has_opposites decided ≡ false
  pub below : (n : ℕ) → 1 ≤ n → n < next → (has decided (pos n) || has decided (neg_ℤ (pos n))) ≡ true

-- the side of each variable is true where it is decided so
pub record AreSidesOf (vars : ℕ) (decided : List ℤ) (sides : List Bool) : Type 0 where
  pub all : length sides ≡ vars
  pub each : (n : ℕ) → 1 ≤ n → n ≤ vars → side_of sides n ≡ has decided (pos n)

-- the last step has this clause
abbrev pub EndsWith : List Step → List ℤ → Type 0
EndsWith steps clause = (step : Step) × (slice_get steps (length steps - 1) ≡ Some step) × (step.clause ≡ clause)

-- steps were added at the end
abbrev pub Extends : List Step → List Step → Type 0
Extends before after = (more : List Step) × (after ≡ before ++ more)

-- some clause at a place is false
abbrev pub IsFalseAt : List Bool → List (List ℤ) → ℕ → Type 0
IsFalseAt sides clauses at = (clause : List ℤ) × (slice_get clauses at ≡ Some clause) × (clause_true (side_of sides) clause ≡ false)

-- of two hints, the first names a clause which denies what is decided with a variable's true side, and the second one with its other side
abbrev pub AreBothDenied : List (List ℤ) → List ℤ → ℕ → List ℕ → Type 0
AreBothDenied clauses decided n hints =
    (left : ℕ) × (right : ℕ) × (hints ≡ left ∷ right ∷ []) ×
    (named clauses left ≡ Some (opposites (decided ++ literal_at n true ∷ []))) ×
    (named clauses right ≡ Some (opposites (decided ++ literal_at n false ∷ [])))
