-- The newline at the end of a script.
use Rattle.std.proofs.Common.{◌≡◌, ◌≢◌, ℕ, List, [], ◌∷◌, ◌++◌, refl, ap, arith}
use Rattle.std.proofs.lemmas.Bool.Decides.{nat_tests}
use Rattle.conda_words.specs.Scripts.{without_newline}

pub newline_cut : (front : List ℕ) → without_newline (front ++ 10 ∷ []) ≡ front
newline_cut [] = refl
newline_cut (b ∷ []) = refl
newline_cut (b ∷ c ∷ more) = ap (λ t. b ∷ t) (newline_cut (c ∷ more))

one_byte : (b : ℕ) → b ≢ 10 → without_newline (b ∷ []) ≡ b ∷ []
one_byte b h = grind (arith, nat_tests)

pub newline_none : (text : List ℕ) → ((front : List ℕ) → text ≢ front ++ (10 ∷ [])) → without_newline text ≡ text
newline_none [] h = refl
newline_none (b ∷ []) h = one_byte b (λ e. h [] (ap (λ c. c ∷ []) e))
newline_none (b ∷ c ∷ rest) h = ap (λ t. b ∷ t) (newline_none (c ∷ rest) (λ front e. h (b ∷ front) (ap (λ t. b ∷ t) e)))
