-- Lists that hold the same literals, as ones taken as false, give the same answers.
use Rattle.std.proofs.Common.{◌≡◌, ℕ, ◌+◌, ◌<◌, ℤ, pos, neg_ℤ, length, get_or, take, Bool, true, false, not, cond, ◌&&◌, ◌||◌, List, [], ◌∷◌, Option, Some, None, refl, sym, ap, ◌∙◌, int_eq}
use Rattle.std.specs.List.{list_any}
use Rattle.std.proofs.Math.Bool.{or_comm}
use Rattle.std.proofs.lemmas.Cmp.{int_eq_equiv}
use Rattle.std.proofs.lemmas.List.Folds.{list_any_more}
use Rattle.conda_refute.specs.Literals.{has}
use Rattle.conda_refute.specs.Refutation.{not_false, named, by_left, by_clause, hints_end, follows}
use Rattle.conda_refute.specs.declared.log.Step.{Step}

-- what the set holds once a literal was added, in the words of `has`
or_cond : (b old : Bool) → cond b true old ≡ (b || old)
or_cond true old = refl
or_cond false old = refl

pub has_added : (l q : ℤ) (old new : Bool) → new ≡ cond (int_eq l q) true old → new ≡ (int_eq q l || old)
has_added l q old new e = e ∙ or_cond (int_eq l q) old ∙ ap (λ b. b || old) (int_eq_equiv.symm l q)

pub same_not_false : (f g : List ℤ) → ((q : ℤ) → has f q ≡ has g q) → (c : List ℤ) → not_false f c ≡ not_false g c
same_not_false f g same [] = refl
same_not_false f g same (x ∷ c) =
    ap (λ b. cond (not b) (x ∷ not_false f c) (not_false f c)) (same x)
    ∙ ap (λ ls. cond (not (has g x)) (x ∷ ls) ls) (same_not_false f g same c)

same_left : (rest : List ℤ → Bool) (f g : List ℤ) → ((q : ℤ) → has f q ≡ has g q) → ((h k : List ℤ) → ((q : ℤ) → has h q ≡ has k q) → rest h ≡ rest k) → (ls : List ℤ) → by_left rest f ls ≡ by_left rest g ls
same_left rest f g same below [] = refl
same_left rest f g same below (l ∷ []) =
    ap (λ b. not b && rest (neg_ℤ l ∷ f)) (same (neg_ℤ l))
    ∙ ap (λ b. not (has g (neg_ℤ l)) && b) (below (neg_ℤ l ∷ f) (neg_ℤ l ∷ g) (λ q. ap (λ b. int_eq q (neg_ℤ l) || b) (same q)))
same_left rest f g same below (l ∷ m ∷ ls) = refl

same_clause : (rest : List ℤ → Bool) (f g : List ℤ) → ((q : ℤ) → has f q ≡ has g q) → ((h k : List ℤ) → ((q : ℤ) → has h q ≡ has k q) → rest h ≡ rest k) → (o : Option (List ℤ)) → by_clause rest f o ≡ by_clause rest g o
same_clause rest f g same below None = refl
same_clause rest f g same below (Some c) = ap (by_left rest f) (same_not_false f g same c) ∙ same_left rest f g same below (not_false g c)

pub same_hints : (clauses : List (List ℤ)) (hs : List ℕ) (f g : List ℤ) → ((q : ℤ) → has f q ≡ has g q) → hints_end clauses hs f ≡ hints_end clauses hs g
same_hints clauses [] f g same = refl
same_hints clauses (n ∷ hs) f g same = same_clause (hints_end clauses hs) f g same (same_hints clauses hs) (named clauses n)

-- a clause's own literals, and a list that holds the same
pub same_opposites : (f g : List ℤ) → ((q : ℤ) → has f q ≡ has g q) → (c : List ℤ) → list_any (λ l. has f (neg_ℤ l)) c ≡ list_any (λ l. has g (neg_ℤ l)) c
same_opposites f g same [] = refl
same_opposites f g same (x ∷ c) =
    ap (λ b. b || list_any (λ l. has f (neg_ℤ l)) c) (same (neg_ℤ x)) ∙ ap (λ b. has g (neg_ℤ x) || b) (same_opposites f g same c)

pub taken_more : (clause : List ℤ) (i : ℕ) (x q : ℤ) (f g : List ℤ) → i < length clause → x ≡ get_or clause i (pos 0) → has g q ≡ has (x ∷ f) q → has f q ≡ has (take i clause) q → has g q ≡ has (take (i + 1) clause) q
taken_more clause i x q f g short is added before =
    added ∙ ap (λ b. int_eq q x || b) before ∙ or_comm (int_eq q x) (has (take i clause) q)
    ∙ ap (λ y. has (take i clause) q || int_eq q y) is
    ∙ sym (list_any_more (λ y. int_eq q y) clause i (pos 0) short)

pub step_answer : (clauses : List (List ℤ)) (s : Step) (f : List ℤ) → ((q : ℤ) → has f q ≡ has s.clause q) → list_any (λ l. has f (neg_ℤ l)) s.clause ≡ false → hints_end clauses s.hints f ≡ follows clauses s
step_answer clauses s f same e =
    same_hints clauses s.hints f s.clause same
    ∙ sym (ap (λ b. not b && hints_end clauses s.hints s.clause) (sym (same_opposites f s.clause same s.clause) ∙ e))
