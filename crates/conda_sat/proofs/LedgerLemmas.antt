-- One more step of a log.
use Rattle.std.proofs.Common.{◌≡◌, ℤ, true, List, [], ◌∷◌, ◌++◌, refl, sym, ap, ◌∙◌, map}
use Rattle.std.proofs.lemmas.Bool.{and_parts, and_from}
use Rattle.conda_refute.specs.Refutation.{all_follow, clauses_of, follows}
use Rattle.conda_refute.specs.declared.log.Step.{Step}
use mathlib.Core.List.{append_assoc, append-nil}

-- a step that follows behind steps that do
pub all_follow-append : (clauses : List (List ℤ)) (steps : List Step) (s : Step) → all_follow clauses steps ≡ true → follows (clauses_of clauses steps) s ≡ true → all_follow clauses (steps ++ s ∷ []) ≡ true
all_follow-append clauses [] s every h =
    let here : follows clauses s ≡ true = ap (λ cs. follows cs s) (sym (append-nil clauses)) ∙ h in
    and_from (follows clauses s) true here refl
all_follow-append clauses (t ∷ steps) s every h =
    let parts = and_parts (follows clauses t) (all_follow (clauses ++ t.clause ∷ []) steps) every in
    let here : follows (clauses_of (clauses ++ t.clause ∷ []) steps) s ≡ true = ap (λ cs. follows cs s) (append_assoc clauses (t.clause ∷ []) (map (λ r. r.clause) steps)) ∙ h in
    and_from (follows clauses t) _ parts.0 (all_follow-append (clauses ++ t.clause ∷ []) steps s parts.1 here)
