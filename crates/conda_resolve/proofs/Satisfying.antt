-- Clauses have sides that make them true, or none: one literal of each clause is tried after another.
use Rattle.std.proofs.Common.{◌≡◌, ℕ, zero, suc, ℤ, pos, negsuc, Bool, true, false, not, List, [], ◌∷◌, int_eq, refl, sym, ap, ◌∙◌, subst, ◌⊎◌, inl, inr, true≢false}
use Rattle.std.proofs.lemmas.Bool.{and_from, and_parts}
use Rattle.std.proofs.lemmas.Bool.Decides.{Decides-int_eq}
use Rattle.std.specs.List.{list_all}
use Rattle.conda_refute.specs.Literals.{clause_true, has, literal_true}
use Rattle.conda_encode.proofs.Literals.{by_side}
use Rattle.conda_encode.proofs.Members.{In, all_at, all_from, any_at, any_from}

abbrev pub Decided : Type 0 → Type 0
Decided P = P ⊎ (P → ⊥)

-- sides that make these literals and these clauses true
abbrev Suits : List ℤ → List (List ℤ) → (ℕ → Bool) → Type 0
Suits literals cs v = (list_all (literal_true v) literals ≡ true) × (list_all (clause_true v) cs ≡ true)

-- the sides that make these literals true, if there are such
sides_for : List ℤ → ℕ → Bool
sides_for literals n = has literals (pos n)

has_in : (literals : List ℤ) (l : ℤ) → has literals l ≡ true → In l literals
has_in literals l h =
    let w : (k : ℤ) × In k literals × (int_eq l k ≡ true) = any_at (int_eq l) literals h in
    let P : ℤ → Type 0 = λ k. In k literals in
    subst P (sym ((Decides-int_eq l w.0).0 w.2)) w.1

in_has : (literals : List ℤ) (l : ℤ) → In l literals → has literals l ≡ true
in_has literals l i = any_from (int_eq l) literals l i ((Decides-int_eq l l).1 refl)

flipped : (b c : Bool) → not b ≡ true → (c ≡ true → b ≡ true) → not c ≡ true
flipped b true h f = ap not (sym (f refl)) ∙ h
flipped b false h f = refl

-- where any sides make all of these true, those do
suits_too : (literals : List ℤ) (v : ℕ → Bool) → list_all (literal_true v) literals ≡ true → (l : ℤ) → In l literals → literal_true (sides_for literals) l ≡ true
unfolding sides_for
suits_too literals v every (pos zero) i = all_at (literal_true v) literals (pos zero) every i
suits_too literals v every (pos (suc n)) i = in_has literals (pos (suc n)) i
suits_too literals v every (negsuc n) i =
    flipped (v (suc n)) (has literals (pos (suc n))) (all_at (literal_true v) literals (negsuc n) every i)
    (λ h. all_at (literal_true v) literals (pos (suc n)) every (has_in literals (pos (suc n)) h))

at_last : (literals : List ℤ) → ((v : ℕ → Bool) × Suits literals [] v) ⊎ ((v : ℕ → Bool) → Suits literals [] v → ⊥)
at_last literals =
    elim (by_side (list_all (literal_true (sides_for literals)) literals)) [
      | inl e ↦ inl (sides_for literals, (e, refl))
      | inr e ↦ inr (λ v s. true≢false (sym (all_from (literal_true (sides_for literals)) literals (suits_too literals v s.0)) ∙ e))
    ]

-- each of some literals is tried as the true one of a clause
tried : (clause literals : List ℤ) (cs : List (List ℤ)) → ((more : List ℤ) → ((v : ℕ → Bool) × Suits more cs v) ⊎ ((v : ℕ → Bool) → Suits more cs v → ⊥)) →
    ((v : ℕ → Bool) × Suits literals cs v × (clause_true v clause ≡ true)) ⊎ ((v : ℕ → Bool) → Suits literals cs v → clause_true v clause ≡ true → ⊥)
tried [] literals cs rest = inr (λ v s h. true≢false (sym h))
tried (l ∷ ls) literals cs rest =
    elim (rest (l ∷ literals)) [
      | inl s ↦
          let parts = and_parts (literal_true s.0 l) (list_all (literal_true s.0) literals) s.1.0 in
          inl (s.0, (parts.1, s.1.1), any_from (literal_true s.0) (l ∷ ls) l (inl refl) parts.0)
      | inr none ↦ elim (tried ls literals cs rest) [
        | inl s ↦ inl (s.0, s.1, later s.0 l ls s.2)
        | inr never ↦ inr (λ v s h.
            let w : (k : ℤ) × In k (l ∷ ls) × (literal_true v k ≡ true) = any_at (literal_true v) (l ∷ ls) h in
            elim w.1 as (λ _. ⊥) [
              | inl e ↦ none v (and_from (literal_true v l) (list_all (literal_true v) literals) (ap (literal_true v) e ∙ w.2) s.0, s.1)
              | inr i ↦ never v s (any_from (literal_true v) ls w.0 i w.2)
            ])
      ]
    ]
  where
    later : (v : ℕ → Bool) (l : ℤ) (ls : List ℤ) → clause_true v ls ≡ true → clause_true v (l ∷ ls) ≡ true
    later v l ls h =
        let w : (k : ℤ) × In k ls × (literal_true v k ≡ true) = any_at (literal_true v) ls h in
        any_from (literal_true v) (l ∷ ls) w.0 (inr w.1) w.2

each_tried : (cs : List (List ℤ)) (literals : List ℤ) → ((v : ℕ → Bool) × Suits literals cs v) ⊎ ((v : ℕ → Bool) → Suits literals cs v → ⊥)
each_tried [] literals = at_last literals
each_tried (c ∷ cs) literals =
    elim (tried c literals cs (each_tried cs)) [
      | inl s ↦ inl (s.0, (s.1.0, and_from (clause_true s.0 c) (list_all (clause_true s.0) cs) s.2 s.1.1))
      | inr none ↦ inr (λ v s.
          let parts = and_parts (clause_true v c) (list_all (clause_true v) cs) s.1 in
          none v (s.0, parts.1) parts.0)
    ]

pub satisfied_or_not : (cs : List (List ℤ)) → ((v : ℕ → Bool) × (list_all (clause_true v) cs ≡ true)) ⊎ ((v : ℕ → Bool) → list_all (clause_true v) cs ≡ true → ⊥)
satisfied_or_not cs =
    elim (each_tried cs []) [
      | inl s ↦ inl (s.0, s.1.1)
      | inr none ↦ inr (λ v h. none v (refl, h))
    ]
