-- The first step that doesn't follow.
use Rattle.std.proofs.Common.{◌≡◌, ℕ, suc, ◌+◌, ◌<◌, ◌≤◌, ℤ, Bool, true, false, cond, ◌&&◌, List, [], ◌∷◌, ◌++◌, length, take, drop, get_or, Option, Some, None, refl, sym, ap, ◌∙◌, drop-cons, drop_of_length-le}
use Rattle.std.proofs.lemmas.Bool.{cond-false, and_left, and_from}
use Rattle.conda_refute.specs.Refutation.{clauses_of, follows, all_follow, first_bad, or_last, bad_step, ends_empty, refuted}
use Rattle.conda_refute.specs.declared.log.Step.{Step}
use Rattle.conda_refute.specs.declared.log.Log.{Log}

by_step : (clauses : List (List ℤ)) (n : ℕ) (steps : List Step) (i : ℕ) (d : Step) → i < length steps →
    first_bad clauses n (drop i steps) ≡ cond (follows clauses (get_or steps i d)) (first_bad (clauses ++ (get_or steps i d).clause ∷ []) (n + 1) (drop (suc i) steps)) (Some n)
by_step clauses n steps i d short = ap (first_bad clauses n) (drop-cons steps i d short)

pub bad_here : (inputs : List (List ℤ)) (steps : List Step) (i : ℕ) (d : Step) → i < length steps →
    follows (clauses_of inputs (take i steps)) (get_or steps i d) ≡ false →
    first_bad (clauses_of inputs (take i steps)) (i + 1) (drop i steps) ≡ Some (i + 1)
bad_here inputs steps i d short e =
    by_step (clauses_of inputs (take i steps)) (i + 1) steps i d short ∙ cond-false (follows (clauses_of inputs (take i steps)) (get_or steps i d)) _ _ e

none_cond : (b : Bool) (o : Option ℕ) (n : ℕ) → cond b o (Some n) ≡ None → (b ≡ true) × (o ≡ None)
none_cond true o n e = (refl, e)
none_cond false o n e = cc

all_good : (clauses : List (List ℤ)) (n : ℕ) (steps : List Step) → first_bad clauses n steps ≡ None → all_follow clauses steps ≡ true
all_good clauses n [] e = refl
all_good clauses n (s ∷ ss) e =
    let parts = none_cond (follows clauses s) (first_bad (clauses ++ s.clause ∷ []) (n + 1) ss) n e in
    and_from (follows clauses s) (all_follow (clauses ++ s.clause ∷ []) ss) parts.0 (all_good (clauses ++ s.clause ∷ []) (n + 1) ss parts.1)

not_here : (b : Bool) (o : Option ℕ) (n k : ℕ) (later : Bool) → (o ≡ Some k → later ≡ false) → cond b o (Some n) ≡ Some k → (b && later) ≡ false
not_here true o n k later f e = f e
not_here false o n k later f e = refl

not_all_good : (clauses : List (List ℤ)) (n k : ℕ) (steps : List Step) → first_bad clauses n steps ≡ Some k → all_follow clauses steps ≡ false
not_all_good clauses n k [] e = cc
not_all_good clauses n k (s ∷ ss) e =
    not_here (follows clauses s) (first_bad (clauses ++ s.clause ∷ []) (n + 1) ss) n k (all_follow (clauses ++ s.clause ∷ []) ss) (not_all_good (clauses ++ s.clause ∷ []) (n + 1) k ss) e

-- the three ways in which a check ends
pub bad_log : (log : Log) (k : ℕ) → first_bad log.inputs 1 log.steps ≡ Some k → (bad_step log ≡ Some k) × (refuted log ≡ false)
bad_log log k e = (ap (or_last log.steps) e, and_left (all_follow log.inputs log.steps) (ends_empty log.steps) (not_all_good log.inputs 1 k log.steps e))

pub none_bad : (inputs : List (List ℤ)) (steps : List Step) (i : ℕ) → length steps ≤ i → first_bad (clauses_of inputs (take i steps)) (i + 1) (drop i steps) ≡ None
none_bad inputs steps i long = ap (first_bad (clauses_of inputs (take i steps)) (i + 1)) (drop_of_length-le steps long)

pub good_log : (log : Log) → first_bad log.inputs 1 log.steps ≡ None → ends_empty log.steps ≡ true → refuted log ≡ true
good_log log e h = and_from (all_follow log.inputs log.steps) (ends_empty log.steps) (all_good log.inputs 1 log.steps e) h

pub accepted : (log : Log) (inputs : List (List ℤ)) (steps : List Step) (i : ℕ) → inputs ≡ log.inputs → steps ≡ log.steps →
    first_bad (clauses_of inputs (take i steps)) (i + 1) (drop i steps) ≡ first_bad inputs 1 steps → length steps ≤ i → ends_empty steps ≡ true → refuted log ≡ true
accepted log inputs steps i same_inputs same_steps left long h =
    good_log log
    (ap (λ cs. first_bad cs 1 log.steps) (sym same_inputs) ∙ ap (first_bad inputs 1) (sym same_steps) ∙ sym left ∙ none_bad inputs steps i long)
    (ap ends_empty (sym same_steps) ∙ h)

pub refused_at : (log : Log) (inputs : List (List ℤ)) (steps : List Step) (i : ℕ) (d : Step) → inputs ≡ log.inputs → steps ≡ log.steps →
    first_bad (clauses_of inputs (take i steps)) (i + 1) (drop i steps) ≡ first_bad inputs 1 steps → i < length steps →
    false ≡ follows (clauses_of inputs (take i steps)) (get_or steps i d) → refuted log ≡ false
refused_at log inputs steps i d same_inputs same_steps left short h =
    (bad_log log (i + 1)
    (ap (λ cs. first_bad cs 1 log.steps) (sym same_inputs) ∙ ap (first_bad inputs 1) (sym same_steps) ∙ sym left ∙ bad_here inputs steps i d short (sym h))).1
