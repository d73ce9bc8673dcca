-- Places in the list of the clauses before a step.
use Rattle.std.proofs.Common.{◌≡◌, ℕ, zero, suc, ◌+◌, ◌-◌, ◌==◌, ◌<◌, ◌≤◌, ℤ, List, [], ◌∷◌, ◌++◌, length, map, take, get_or, Some, None, option_map, slice_get, refl, sym, ap, ◌∙◌, arith, append_assoc}
use Rattle.std.proofs.lemmas.Bool.{cond-false, ne_eqb}
use Rattle.std.proofs.lemmas.Option.{slice_get-get_or, slice_get-map, slice_get_past}
use Rattle.std.proofs.lemmas.List.{map-append, take_more}
use Rattle.conda_refute.specs.Refutation.{named, clauses_of}
use Rattle.conda_refute.specs.declared.log.Step.{Step}

get_left : {X : Type 0} (xs ys : List X) (i : ℕ) → i < length xs → slice_get (xs ++ ys) i ≡ slice_get xs i
get_left [] ys i h = absurd (omega arith)
get_left (x ∷ xs) ys zero h = refl
get_left (x ∷ xs) ys (suc i) h = get_left xs ys i (omega arith)

get_right : {X : Type 0} (xs ys : List X) (i : ℕ) → slice_get (xs ++ ys) (length xs + i) ≡ slice_get ys i
get_right [] ys i = ap (slice_get ys) (omega arith)
get_right (x ∷ xs) ys i = let e : length (x ∷ xs) + i ≡ suc (length xs + i) = omega arith in ap (slice_get (x ∷ xs ++ ys)) e ∙ get_right xs ys i

at_place : (clauses : List (List ℤ)) (n : ℕ) → (n ≡ 0 → ⊥) → named clauses n ≡ slice_get clauses (n - 1)
at_place clauses n h = cond-false (n == 0) None (slice_get clauses (n - 1)) (ne_eqb n 0 h)

at_step : (inputs : List (List ℤ)) (before : List Step) (n : ℕ) → (n ≡ 0 → ⊥) → length inputs ≤ n - 1 → named (clauses_of inputs before) n ≡ option_map (λ s. s.clause) (slice_get before (n - 1 - length inputs))
at_step inputs before n h far =
    at_place (clauses_of inputs before) n h
    ∙ ap (slice_get (clauses_of inputs before)) (let e : n - 1 ≡ length inputs + (n - 1 - length inputs) = omega arith in e)
    ∙ get_right inputs (map (λ s. s.clause) before) (n - 1 - length inputs)
    ∙ slice_get-map (λ s. s.clause) before (n - 1 - length inputs)

pub named_step : (inputs : List (List ℤ)) (before : List Step) (n : ℕ) (d : Step) → (n ≡ 0 → ⊥) → length inputs ≤ n - 1 → n - 1 - length inputs < length before →
    Some (get_or before (n - 1 - length inputs) d).clause ≡ named (clauses_of inputs before) n
named_step inputs before n d h far short =
    sym (at_step inputs before n h far ∙ ap (option_map (λ s. s.clause)) (slice_get-get_or before (n - 1 - length inputs) d short))

pub named_none : (inputs : List (List ℤ)) (before : List Step) (n : ℕ) → (n ≡ 0 → ⊥) → length inputs ≤ n - 1 → length before ≤ n - 1 - length inputs → None ≡ named (clauses_of inputs before) n
named_none inputs before n h far past =
    sym (at_step inputs before n h far ∙ ap (option_map (λ s. s.clause)) (slice_get_past before (n - 1 - length inputs) past))

pub clauses_more : (inputs : List (List ℤ)) (steps : List Step) (i : ℕ) (d : Step) → i < length steps →
    clauses_of inputs (take (i + 1) steps) ≡ clauses_of inputs (take i steps) ++ (get_or steps i d).clause ∷ []
clauses_more inputs steps i d short =
    ap (clauses_of inputs) (take_more steps i d short)
    ∙ ap (λ ls. inputs ++ ls) (map-append (λ s. s.clause) (take i steps) (get_or steps i d ∷ []))
    ∙ sym (append_assoc inputs (map (λ r. r.clause) (take i steps)) ((get_or steps i d).clause ∷ []))
