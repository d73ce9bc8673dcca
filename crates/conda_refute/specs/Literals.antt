-- A literal is a number: n stands for variable n, and -n for its opposite. 0 is no literal.
use Rattle.std.specs.Prelude.{ℕ, zero, suc, ℤ, pos, negsuc, Bool, false, not, List}
use Rattle.std.specs.List.{list_any}
use Rattle.std.specs.Ordering.{int_eq}

-- the list holds the literal
abbrev pub has : List ℤ → ℤ → Bool
has literals literal = list_any (λ l. int_eq literal l) literals

-- the literal is true where `v` says which variables are; 0 never is
abbrev pub literal_true : (ℕ → Bool) → ℤ → Bool
literal_true v (pos zero) = false
literal_true v (pos (suc n)) = v (suc n)
literal_true v (negsuc n) = not (v (suc n))

-- the clause is true: one of its literals is
abbrev pub clause_true : (ℕ → Bool) → List ℤ → Bool
clause_true v clause = list_any (literal_true v) clause
