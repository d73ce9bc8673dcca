-- Sides of variables, and clauses of opposites.
use Rattle.std.proofs.Common.{◌≡◌, ℕ, ◌-◌, ℤ, pos, negsuc, neg_ℤ, zero, suc, Bool, true, not, inl, inr, List, [], ◌∷◌, length, slice_get, Some, refl, sym, ap, ◌∙◌, true≢false, int_eq, ◌==◌}
use Rattle.std.specs.List.{list_all, list_any}
use Rattle.std.proofs.lemmas.Bool.{and_parts, or_cases}
use Rattle.std.proofs.lemmas.Bool.Decides.{Decides-int_eq}
use Rattle.conda_refute.specs.Literals.{clause_true, has, literal_true}
use Rattle.conda_refute.specs.Refutation.{ends_empty, has_opposites, is_empty_step}
use Rattle.conda_refute.specs.declared.log.Step.{Step}
use Rattle.conda_sat.specs.Answers.{IsDenied, denies}

-- a literal of a list on which a test holds of each
pub all_at : (p : ℤ → Bool) (xs : List ℤ) (l : ℤ) → list_all p xs ≡ true → has xs l ≡ true → p l ≡ true
all_at p [] l every h = absurd (true≢false (sym h))
all_at p (x ∷ xs) l every h =
    let parts = and_parts (p x) (list_all p xs) every in
    elim (or_cases (int_eq l x) (has xs l) h) [
      | inl e ↦ ap p ((Decides-int_eq l x).0 e) ∙ parts.0
      | inr e ↦ all_at p xs l parts.1 e
    ]

-- a literal and its opposite aren't both true
pub not_both : (v : ℕ → Bool) (l : ℤ) → literal_true v l ≡ true → literal_true v (neg_ℤ l) ≡ true → ⊥
not_both v (pos zero) h k = true≢false (sym h)
not_both v (pos (suc n)) h k = true≢false (sym k ∙ ap not h)
not_both v (negsuc n) h k = true≢false (sym h ∙ ap not k)

-- a clause of opposites of literals that are true is false
pub opposites_false : (v : ℕ → Bool) (assumed clause : List ℤ) → list_all (literal_true v) assumed ≡ true → denies assumed clause ≡ true → clause_true v clause ≡ true → ⊥
opposites_false v assumed [] every d h = true≢false (sym h)
opposites_false v assumed (x ∷ clause) every d h =
    let parts = and_parts (has assumed (neg_ℤ x)) (denies assumed clause) d in
    elim (or_cases (literal_true v x) (clause_true v clause) h) [
      | inl e ↦ not_both v x e (all_at (literal_true v) assumed (neg_ℤ x) every parts.0)
      | inr e ↦ opposites_false v assumed clause every parts.1 e
    ]

pub get_true : {X : Type 0} (p : X → Bool) (xs : List X) (i : ℕ) (x : X) → list_all p xs ≡ true → slice_get xs i ≡ Some x → p x ≡ true
get_true p [] i x every e = cc
get_true p (y ∷ ys) zero x every e = let here : p y ≡ true = (and_parts (p y) (list_all p ys) every).0 in let same : y ≡ x = cc in ap p (sym same) ∙ here
get_true p (y ∷ ys) (suc i) x every e = get_true p ys i x (and_parts (p y) (list_all p ys) every).1 e

-- a step whose clause has opposites of the assumed literals alone denies these
pub denied_by : (inputs : List (List ℤ)) (steps : List Step) (i : ℕ) (step : Step) (assumed : List ℤ) → ((v : ℕ → Bool) → list_all (clause_true v) inputs ≡ true → list_all (λ s. clause_true v s.clause) steps ≡ true) → slice_get steps i ≡ Some step → denies assumed step.clause ≡ true → IsDenied inputs assumed
denied_by inputs steps i step assumed hold e d =
    λ v clauses every. opposites_false v assumed step.clause every d (get_true (λ s. clause_true v s.clause) steps i step (hold v clauses) e)

-- a clause of opposites of no literals is empty
pub denies_nothing : (assumed clause : List ℤ) → assumed ≡ [] → denies assumed clause ≡ true → clause ≡ []
denies_nothing assumed [] e d = refl
denies_nothing assumed (x ∷ clause) e d = absurd (true≢false (sym (and_parts (has assumed (neg_ℤ x)) (denies assumed clause) d).0 ∙ ap (λ xs. has xs (neg_ℤ x)) e))

pub ended_by : (steps : List Step) (step : Step) (assumed : List ℤ) → slice_get steps (length steps - 1) ≡ Some step → denies assumed step.clause ≡ true → assumed ≡ [] → ends_empty steps ≡ true
ended_by steps step assumed e d none = ap is_empty_step e ∙ ap (λ (c : List ℤ). length c == 0) (denies_nothing assumed step.clause none d)

-- two opposites among the assumed literals deny them
opposites_among : (v : ℕ → Bool) (all xs : List ℤ) → list_all (literal_true v) all ≡ true → list_all (literal_true v) xs ≡ true → list_any (λ l. has all (neg_ℤ l)) xs ≡ true → ⊥
opposites_among v all [] every each h = true≢false (sym h)
opposites_among v all (x ∷ xs) every each h =
    let parts = and_parts (literal_true v x) (list_all (literal_true v) xs) each in
    elim (or_cases (has all (neg_ℤ x)) (list_any (λ l. has all (neg_ℤ l)) xs) h) [
      | inl e ↦ not_both v x parts.0 (all_at (literal_true v) all (neg_ℤ x) every e)
      | inr e ↦ opposites_among v all xs every parts.1 e
    ]

pub opposites_deny : (inputs : List (List ℤ)) (assumed : List ℤ) → has_opposites assumed ≡ true → IsDenied inputs assumed
opposites_deny inputs assumed h = λ v clauses every. opposites_among v assumed assumed every every h

pub no_opposites_in_nothing : (assumed : List ℤ) → has_opposites assumed ≡ true → assumed ≡ [] → ⊥
no_opposites_in_nothing assumed h e = true≢false (sym h ∙ ap has_opposites e)
