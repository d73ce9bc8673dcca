-- What one hint gives.
use Rattle.std.proofs.Common.{◌≡◌, ℕ, suc, ◌+◌, ◌<◌, ℤ, neg_ℤ, Bool, false, not, ◌&&◌, List, [], ◌∷◌, length, get_or, drop, Option, Some, None, sym, ap, ◌∙◌, drop-cons, add-one}
use Rattle.conda_refute.specs.Literals.{has}
use Rattle.conda_refute.specs.Left.{left_in}
use Rattle.conda_refute.specs.declared.checking.Left.{Left}
use Rattle.conda_refute.specs.Refutation.{not_false, named, by_left, by_clause, hints_end}
use Rattle.conda_refute.proofs.Same.{same_hints}

left_one : (rest : List ℤ → Bool) (f ls : List ℤ) (x : ℤ) → Left.One x ≡ left_in ls → by_left rest f ls ≡ (not (has f (neg_ℤ x)) && rest (neg_ℤ x ∷ f))
left_one rest f [] x e = cc
left_one rest f (l ∷ []) x e = let same : l ≡ x = cc in ap (λ m. not (has f (neg_ℤ m)) && rest (neg_ℤ m ∷ f)) same
left_one rest f (l ∷ m ∷ ls) x e = cc

-- the answer for the hints from place i on, by the clause that hint i names
at_hint : (clauses : List (List ℤ)) (hints : List ℕ) (i n : ℕ) (f : List ℤ) (o : Option (List ℤ)) → i < length hints → n ≡ get_or hints i 0 → o ≡ named clauses n →
    hints_end clauses (drop i hints) f ≡ by_clause (hints_end clauses (drop (suc i) hints)) f o
at_hint clauses hints i n f o short is e =
    ap (λ hs. hints_end clauses hs f) (drop-cons hints i 0 short)
    ∙ ap (λ m. by_clause (hints_end clauses (drop (suc i) hints)) f (named clauses m)) (sym is)
    ∙ ap (by_clause (hints_end clauses (drop (suc i) hints)) f) (sym e)

at_one : (clauses : List (List ℤ)) (hints : List ℕ) (i n : ℕ) (f c : List ℤ) (x : ℤ) → i < length hints → n ≡ get_or hints i 0 → Some c ≡ named clauses n → Left.One x ≡ left_in (not_false f c) →
    hints_end clauses (drop i hints) f ≡ (not (has f (neg_ℤ x)) && hints_end clauses (drop (suc i) hints) (neg_ℤ x ∷ f))
at_one clauses hints i n f c x short is e k = at_hint clauses hints i n f (Some c) short is e ∙ left_one (hints_end clauses (drop (suc i) hints)) f (not_false f c) x k

pub hint_one : (clauses : List (List ℤ)) (hints : List ℕ) (i n : ℕ) (f c : List ℤ) (x o : ℤ) (g : List ℤ) → i < length hints → n ≡ get_or hints i 0 → Some c ≡ named clauses n → Left.One x ≡ left_in (not_false f c) →
    o ≡ neg_ℤ x → has f o ≡ false → ((q : ℤ) → has g q ≡ has (o ∷ f) q) → hints_end clauses (drop (i + 1) hints) g ≡ hints_end clauses (drop i hints) f
hint_one clauses hints i n f c x o g short is e k opposite unset added =
    ap (λ j. hints_end clauses (drop j hints) g) (add-one i)
    ∙ same_hints clauses (drop (suc i) hints) g (o ∷ f) added
    ∙ ap (λ m. hints_end clauses (drop (suc i) hints) (m ∷ f)) opposite
    ∙ sym (at_one clauses hints i n f c x short is e k ∙ ap (λ b. not b && hints_end clauses (drop (suc i) hints) (neg_ℤ x ∷ f)) (ap (has f) (sym opposite) ∙ unset))

-- what is left, where a first literal that isn't false was found or wasn't
abbrev pub left_after : Option ℤ → List ℤ → Left
left_after None ls = left_in ls
left_after (Some l) ls = left_in (l ∷ ls)
