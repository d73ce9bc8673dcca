-- Channels, builds and version clauses.
use Rattle.std.proofs.Common.{◌≡◌, ◌∙◌, ◌||◌, ◌<◌, ℕ, Bool, true, false, length, map, List, [], ◌∷◌, refl, ap, arith, true≢false, subst, Option, None, Some, Ok}
use Rattle.conda_base.specs.Reads.{unless}
use Rattle.conda_clause.specs.Faults.{kept_read}
use Rattle.std.specs.Char.{to_ascii_lowercase}
use Rattle.std.specs.List.{AllByRecursion, list_any}
use Rattle.std.proofs.lemmas.Bool.Decides.{nat_tests}
use Rattle.conda_clause.specs.Clause.{clause_fault}
use Rattle.conda_spec.specs.Good.{IsGoodClause}
use Rattle.conda_spec.specs.Parts.{IsFreeWord}

none_of : (a b : Bool) → a || b ≡ false → (a ≡ false) × (b ≡ false)
none_of true b h = absurd (true≢false h)
none_of false b h = (refl, h)

all_free : (bars : ℕ → Bool) (text : List ℕ) → list_any bars text ≡ false → AllByRecursion (λ b. bars b ≡ false) text
all_free bars [] h = tt
all_free bars (b ∷ rest) h = let both = none_of (bars b) (list_any bars rest) h in (both.0, all_free bars rest both.1)

-- what passes the test holds no barred character, and something
pub free_is : (bars : ℕ → Bool) (text : List ℕ) → 0 < length text → list_any bars text ≡ false → IsFreeWord bars text
free_is bars [] h none = absurd (omega (arith, h))
free_is bars (b ∷ rest) h none = (λ e. cc, all_free bars (b ∷ rest) none)

lower_twice : (b : ℕ) → to_ascii_lowercase (to_ascii_lowercase b) ≡ to_ascii_lowercase b
lower_twice b = grind (arith, nat_tests)

-- what is lowered is in lower case
pub lowered : (text : List ℕ) → map to_ascii_lowercase (map to_ascii_lowercase text) ≡ map to_ascii_lowercase text
lowered [] = refl
lowered (b ∷ text) =
    ap (λ c. c ∷ map to_ascii_lowercase (map to_ascii_lowercase text)) (lower_twice b)
    ∙ ap (λ rest. to_ascii_lowercase b ∷ rest) (lowered text)

pub unless_ok : {A F : Type 0} (fault : Option F) (x y : A) → unless fault x ≡ Ok y → (fault ≡ None) × (x ≡ y)
unless_ok None x y h = (refl, cc)
unless_ok (Some f) x y h = absurd (cc)

-- a clause that was read
pub clause_is : (clause text : List ℕ) → kept_read text ≡ Ok clause → IsGoodClause clause
clause_is clause text h =
    let found = unless_ok (clause_fault (map to_ascii_lowercase text)) (map to_ascii_lowercase text) clause h in
    subst IsGoodClause found.1 (found.0, lowered text)
