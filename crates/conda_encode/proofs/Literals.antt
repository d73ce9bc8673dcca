-- What it says of the sides that a clause of one or two literals is true.
use Rattle.std.proofs.Common.{◌≡◌, ℕ, zero, suc, ◌≤◌, ℤ, Bool, true, false, not, List, [], ◌∷◌, ◌⊎◌, inl, inr, refl, sym, ap, arith, true≢false}
use Rattle.std.proofs.lemmas.Bool.{or_cases, or_left, or_right}
use Rattle.conda_refute.specs.Literals.{clause_true, literal_true}
use Rattle.conda_encode.specs.Clauses.{off, on}

pub on_true : (v : ℕ → Bool) (n : ℕ) → literal_true v (on n) ≡ true → v n ≡ true
on_true v zero h = absurd (true≢false (sym h))
on_true v (suc n) h = h

pub on_from : (v : ℕ → Bool) (n : ℕ) → 1 ≤ n → v n ≡ true → literal_true v (on n) ≡ true
on_from v zero low h = absurd (omega arith)
on_from v (suc n) low h = h

not_true : (b : Bool) → not b ≡ true → b ≡ true → ⊥
not_true true h k = true≢false (sym h)
not_true false h k = true≢false (sym k)

pub off_true : (v : ℕ → Bool) (n : ℕ) → literal_true v (off n) ≡ true → v n ≡ true → ⊥
off_true v zero h k = true≢false (sym h)
off_true v (suc n) h k = not_true (v (suc n)) h k

pub off_from : (v : ℕ → Bool) (n : ℕ) → 1 ≤ n → v n ≡ false → literal_true v (off n) ≡ true
off_from v zero low h = absurd (omega arith)
off_from v (suc n) low h = ap not h

-- a fact that holds or not, by cases on a test
pub by_side : (b : Bool) → (b ≡ true) ⊎ (b ≡ false)
by_side true = inl refl
by_side false = inr refl

pub off_unless : (v : ℕ → Bool) (n : ℕ) (rest : List ℤ) → 1 ≤ n → (v n ≡ true → clause_true v rest ≡ true) → clause_true v (off n ∷ rest) ≡ true
off_unless v n rest low h =
    elim (by_side (v n)) [
      | inl sure ↦ or_right (literal_true v (off n)) (clause_true v rest) (h sure)
      | inr nope ↦ or_left (literal_true v (off n)) (clause_true v rest) (off_from v n low nope)
    ]

pub off_then : (v : ℕ → Bool) (n : ℕ) (rest : List ℤ) → clause_true v (off n ∷ rest) ≡ true → v n ≡ true → clause_true v rest ≡ true
off_then v n rest h sure =
    elim (or_cases (literal_true v (off n)) (clause_true v rest) h) [
      | inl e ↦ absurd (off_true v n e sure)
      | inr e ↦ e
    ]

pub only_literal : (v : ℕ → Bool) (l : ℤ) → clause_true v (l ∷ []) ≡ true → literal_true v l ≡ true
only_literal v l h =
    elim (or_cases (literal_true v l) false h) [ inl e ↦ e | inr e ↦ absurd (true≢false (sym e)) ]

pub one_literal : (v : ℕ → Bool) (l : ℤ) → literal_true v l ≡ true → clause_true v (l ∷ []) ≡ true
one_literal v l h = or_left (literal_true v l) false h

pub off_same : (m n : ℕ) → off m ≡ off n → m ≡ n
off_same zero zero h = refl
off_same zero (suc n) h = cc
off_same (suc m) zero h = cc
off_same (suc m) (suc n) h = let e : m ≡ n = cc in ap suc e
