-- Where a log is refuted, no assignment makes all of its inputs true.
use Rattle.std.proofs.Common.{◌≡◌, ℕ, zero, suc, ◌-◌, ◌==◌, ℤ, pos, negsuc, neg_ℤ, Bool, true, false, not, cond, ◌||◌, List, [], ◌∷◌, ◌++◌, length, Option, Some, None, slice_get, ◌⊎◌, inl, inr, refl, sym, ap, ◌∙◌, true≢false, arith, int_eq, eqb-true}
use Rattle.std.specs.List.{list_all}
use Rattle.std.proofs.lemmas.Bool.{not-true, not_from_true, or_cases, or_parts, or_left, or_right, and_parts, and_from, true_from_ne_false}
use Rattle.std.proofs.lemmas.Bool.Decides.{Decides-int_eq}
use Rattle.std.proofs.lemmas.List.Folds.{list_all-append}
use Rattle.conda_refute.specs.Literals.{has, literal_true, clause_true}
use Rattle.conda_refute.specs.Refutation.{not_false, named, by_left, by_clause, hints_end, follows, all_follow, is_empty_step, ends_empty, refuted}
use Rattle.conda_refute.specs.declared.log.Step.{Step}
use Rattle.conda_refute.specs.declared.log.Log.{Log}

abbrev pub AreFalse : (ℕ → Bool) → List ℤ → Type 0
AreFalse v falses = (q : ℤ) → has falses q ≡ true → literal_true v q ≡ false

opposite_false : (v : ℕ → Bool) (l : ℤ) → literal_true v l ≡ true → literal_true v (neg_ℤ l) ≡ false
opposite_false v (pos zero) h = refl
opposite_false v (pos (suc n)) h = not_from_true (v (suc n)) h
opposite_false v (negsuc n) h = not-true (v (suc n)) h

more_false : (v : ℕ → Bool) (falses : List ℤ) (l : ℤ) → AreFalse v falses → literal_true v l ≡ false → AreFalse v (l ∷ falses)
more_false v falses l each here q h =
    elim (or_cases (int_eq q l) (has falses q) h) [
      | inl e ↦ ap (literal_true v) ((Decides-int_eq q l).0 e) ∙ here
      | inr e ↦ each q e
    ]

-- the literals of a clause that is false
none_true : (v : ℕ → Bool) (clause : List ℤ) → clause_true v clause ≡ false → AreFalse v clause
none_true v [] e q h = absurd (true≢false (sym h))
none_true v (x ∷ clause) e q h =
    more_false v clause x (none_true v clause (or_parts (literal_true v x) (clause_true v clause) e).1) (or_parts (literal_true v x) (clause_true v clause) e).0 q h

kept_cons : (v : ℕ → Bool) (x : ℤ) (b : Bool) (rest : List ℤ) → (b ≡ true → literal_true v x ≡ false) → (literal_true v x ≡ true) ⊎ (clause_true v rest ≡ true) → clause_true v (cond (not b) (x ∷ rest) rest) ≡ true
kept_cons v x true rest f (inl e) = absurd (true≢false (sym e ∙ f refl))
kept_cons v x true rest f (inr e) = e
kept_cons v x false rest f (inl e) = or_left (literal_true v x) (clause_true v rest) e
kept_cons v x false rest f (inr e) = or_right (literal_true v x) (clause_true v rest) e

either_kept : (v : ℕ → Bool) (x : ℤ) (c kept : List ℤ) → (clause_true v c ≡ true → clause_true v kept ≡ true) → (literal_true v x ≡ true) ⊎ (clause_true v c ≡ true) → (literal_true v x ≡ true) ⊎ (clause_true v kept ≡ true)
either_kept v x c kept f (inl e) = inl e
either_kept v x c kept f (inr e) = inr (f e)

-- a true clause is true by a literal that isn't among the false ones
kept_true : (v : ℕ → Bool) (falses c : List ℤ) → AreFalse v falses → clause_true v c ≡ true → clause_true v (not_false falses c) ≡ true
kept_true v falses [] f h = h
kept_true v falses (x ∷ c) f h =
    kept_cons v x (has falses x) (not_false falses c) (f x)
    (either_kept v x c (not_false falses c) (kept_true v falses c f) (or_cases (literal_true v x) (clause_true v c) h))

or_only : (b : Bool) → (b || false) ≡ true → b ≡ true
or_only true h = refl
or_only false h = h

sound_left : (v : ℕ → Bool) (rest : List ℤ → Bool) (falses : List ℤ) → AreFalse v falses → (xs : List ℤ) → clause_true v xs ≡ true → ((g : List ℤ) → AreFalse v g → rest g ≡ true → ⊥) → by_left rest falses xs ≡ true → ⊥
sound_left v rest falses f [] e below h = true≢false (sym e)
sound_left v rest falses f (l ∷ []) e below h =
    below (neg_ℤ l ∷ falses) (more_false v falses (neg_ℤ l) f (opposite_false v l (or_only (literal_true v l) e)))
    (and_parts (not (has falses (neg_ℤ l))) (rest (neg_ℤ l ∷ falses)) h).1
sound_left v rest falses f (l ∷ m ∷ ls) e below h = true≢false (sym h)

sound_clause : (v : ℕ → Bool) (rest : List ℤ → Bool) (falses : List ℤ) → AreFalse v falses → (o : Option (List ℤ)) → ((c : List ℤ) → o ≡ Some c → clause_true v c ≡ true) → ((g : List ℤ) → AreFalse v g → rest g ≡ true → ⊥) → by_clause rest falses o ≡ true → ⊥
sound_clause v rest falses f None t below h = true≢false (sym h)
sound_clause v rest falses f (Some c) t below h = sound_left v rest falses f (not_false falses c) (kept_true v falses c f (t c refl)) below h

pub get_true : {X : Type 0} (p : X → Bool) (xs : List X) (i : ℕ) (x : X) → list_all p xs ≡ true → slice_get xs i ≡ Some x → p x ≡ true
get_true p [] i x every e = cc
get_true p (y ∷ ys) zero x every e = let here : p y ≡ true = (and_parts (p y) (list_all p ys) every).0 in let same : y ≡ x = cc in ap p (sym same) ∙ here
get_true p (y ∷ ys) (suc i) x every e = get_true p ys i x (and_parts (p y) (list_all p ys) every).1 e

cond_some : {X : Type 0} (b : Bool) (o : Option X) (x : X) → cond b None o ≡ Some x → o ≡ Some x
cond_some true o x h = cc
cond_some false o x h = h

named_true : (v : ℕ → Bool) (clauses : List (List ℤ)) → list_all (clause_true v) clauses ≡ true → (n : ℕ) (c : List ℤ) → named clauses n ≡ Some c → clause_true v c ≡ true
named_true v clauses every n c h = get_true (clause_true v) clauses (n - 1) c every (cond_some (n == 0) (slice_get clauses (n - 1)) c h)

sound_hints : (v : ℕ → Bool) (clauses : List (List ℤ)) → list_all (clause_true v) clauses ≡ true → (hs : List ℕ) (falses : List ℤ) → AreFalse v falses → hints_end clauses hs falses ≡ true → ⊥
sound_hints v clauses every [] falses f h = true≢false (sym h)
sound_hints v clauses every (n ∷ hs) falses f h =
    sound_clause v (hints_end clauses hs) falses f (named clauses n) (named_true v clauses every n) (λ g k. sound_hints v clauses every hs g k) h

step_true : (v : ℕ → Bool) (clauses : List (List ℤ)) → list_all (clause_true v) clauses ≡ true → (s : Step) → follows clauses s ≡ true → clause_true v s.clause ≡ true
step_true v clauses every s h =
    true_from_ne_false (clause_true v s.clause) (λ e. sound_hints v clauses every s.hints s.clause (none_true v s.clause e) (and_parts _ (hints_end clauses s.hints s.clause) h).1)

one_more : (v : ℕ → Bool) (clauses : List (List ℤ)) (c : List ℤ) → list_all (clause_true v) clauses ≡ true → clause_true v c ≡ true → list_all (clause_true v) (clauses ++ c ∷ []) ≡ true
one_more v clauses c every t =
    list_all-append (clause_true v) clauses (c ∷ []) ∙ and_from _ _ every (and_from (clause_true v c) true t refl)

pub steps_true : (v : ℕ → Bool) (clauses : List (List ℤ)) (steps : List Step) → list_all (clause_true v) clauses ≡ true → all_follow clauses steps ≡ true → list_all (λ s. clause_true v s.clause) steps ≡ true
steps_true v clauses [] every h = refl
steps_true v clauses (s ∷ ss) every h =
    let parts = and_parts (follows clauses s) (all_follow (clauses ++ s.clause ∷ []) ss) h in
    let here : clause_true v s.clause ≡ true = step_true v clauses every s parts.0 in
    and_from (clause_true v s.clause) (list_all (λ r. clause_true v r.clause) ss) here (steps_true v (clauses ++ s.clause ∷ []) ss (one_more v clauses s.clause every here) parts.1)

empty_false : (v : ℕ → Bool) (c : List ℤ) → (length c == 0) ≡ true → clause_true v c ≡ true → ⊥
empty_false v [] h e = true≢false (sym e)
empty_false v (x ∷ c) h e = let z : length (x ∷ c) ≡ 0 = eqb-true (length (x ∷ c)) 0 h in absurd (omega arith)

sound_end : (v : ℕ → Bool) (o : Option Step) → ((s : Step) → o ≡ Some s → clause_true v s.clause ≡ true) → is_empty_step o ≡ true → ⊥
sound_end v None t h = true≢false (sym h)
sound_end v (Some s) t h = empty_false v s.clause h (t s refl)

pub none_left : (log : Log) → refuted log ≡ true → (v : ℕ → Bool) → list_all (clause_true v) log.inputs ≡ true → ⊥
none_left log h v every =
    let parts = and_parts (all_follow log.inputs log.steps) (ends_empty log.steps) h in
    let each : list_all (λ s. clause_true v s.clause) log.steps ≡ true = steps_true v log.inputs log.steps every parts.0 in
    sound_end v (slice_get log.steps (length log.steps - 1)) (λ s e. get_true (λ r. clause_true v r.clause) log.steps (length log.steps - 1) s each e) parts.1
