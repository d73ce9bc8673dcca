-- Lemmas on patterns with stars.
use Rattle.std.proofs.Common.{◌≡◌, ◌≢◌, ℕ, suc, ◌+◌, ◌*◌, ◌<◌, ◌≤◌, Bool, true, false, ◌||◌, ◌&&◌, List, [], ◌∷◌, refl, sym, ap, ◌∙◌, arith}
use Rattle.std.proofs.lemmas.Bool.Decides.{nat_tests}
use Rattle.std.proofs.Math.Nat.{mul-le-mul_right}
use Rattle.std.specs.Prelude.{◌==◌, if◌then◌else◌}
use Rattle.conda_clause.specs.Glob.{begins, glob_matches, some_end}

-- some end of what is behind the text's first character passes
abbrev pub later : (List ℕ → Bool) → List ℕ → Bool
later passes [] = false
later passes (b ∷ bs) = some_end passes bs

or_true : (a : Bool) → (a || true) ≡ true
or_true true = refl
or_true false = refl

or_false : (a : Bool) → (a || false) ≡ a
or_false true = refl
or_false false = refl

-- a part that is implied may be left out
absorbed : (a b : Bool) → (b ≡ true → a ≡ true) → (a || b) ≡ a
absorbed true b h = refl
absorbed false true h = sym (h refl)
absorbed false false h = refl

some_end_is : (passes : List ℕ → Bool) (bs : List ℕ) → some_end passes bs ≡ (passes bs || later passes bs)
some_end_is passes [] = sym (or_false (passes []))
some_end_is passes (b ∷ bs) = refl

or_cases : (a b : Bool) (P : Type 0) → (a || b) ≡ true → (a ≡ true → P) → (b ≡ true → P) → P
or_cases true b P h f g = f refl
or_cases false b P h f g = g h

or_right : (a b : Bool) → b ≡ true → (a || b) ≡ true
or_right a b h = ap (λ q. a || q) h ∙ or_true a

or_left : (a b : Bool) → a ≡ true → (a || b) ≡ true
or_left a b h = ap (λ q. q || b) h

later_passes : (passes : List ℕ → Bool) (bs : List ℕ) → later passes bs ≡ true → some_end passes bs ≡ true
later_passes passes bs h = some_end_is passes bs ∙ or_right (passes bs) (later passes bs) h

-- an end of an end is an end
some_end_twice : (passes : List ℕ → Bool) (bs : List ℕ) → some_end (some_end passes) bs ≡ true → some_end passes bs ≡ true
some_end_twice passes [] h = h
some_end_twice passes (b ∷ bs) h =
    or_cases (some_end passes (b ∷ bs)) (some_end (some_end passes) bs) (some_end passes (b ∷ bs) ≡ true) h
    (λ k. k)
    (λ k. or_right (passes (b ∷ bs)) (some_end passes bs) (some_end_twice passes bs k))

and_right : (p q : Bool) → (p && q) ≡ true → q ≡ true
and_right true q k = k
and_right false q k = cc

behind_of_ends : (c : ℕ) (passes : List ℕ → Bool) (bs : List ℕ) → some_end (begins c passes) bs ≡ true → some_end passes bs ≡ true
behind_of_ends c passes [] h = cc
behind_of_ends c passes (b ∷ bs) h =
    or_right (passes (b ∷ bs)) (some_end passes bs)
    (or_cases (b == c && passes bs) (some_end (begins c passes) bs) (some_end passes bs ≡ true) h
    (λ k. some_end_is passes bs ∙ or_left (passes bs) (later passes bs) (and_right (b == c) (passes bs) k))
    (λ k. behind_of_ends c passes bs k))

-- what is behind a character of an end is an end of what is behind the first character
some_end_behind : (c b : ℕ) (passes : List ℕ → Bool) (bs : List ℕ) → some_end (begins c passes) (b ∷ bs) ≡ true → some_end passes bs ≡ true
some_end_behind c b passes bs h =
    or_cases (b == c && passes bs) (some_end (begins c passes) bs) (some_end passes bs ≡ true) h
    (λ k. some_end_is passes bs ∙ or_left (passes bs) (later passes bs) (and_right (b == c) (passes bs) k))
    (λ k. behind_of_ends c passes bs k)

no_star : (c : ℕ) → c ≢ 42 → (c == 42) ≡ false
no_star c h = grind (arith, nat_tests)

same : (b c : ℕ) → b ≡ c → (b == c) ≡ true
same b c h = grind (arith, nat_tests)

other : (b c : ℕ) → b ≢ c → (b == c) ≡ false
other b c h = grind (arith, nat_tests)

glob_behind : (c : ℕ) (p : List ℕ) → c ≢ 42 → glob_matches (c ∷ p) ≡ begins c (glob_matches p)
glob_behind c p h = ap (λ q. λ text. if q then some_end (glob_matches p) text else begins c (glob_matches p) text) (no_star c h)

-- The steps of a pattern through a text.

pub at_star : (whole : Bool) (p behind bs left : List ℕ) → whole ≡ (glob_matches (42 ∷ p) bs || later (glob_matches behind) left)
    → (later (glob_matches behind) left ≡ true → some_end (glob_matches (42 ∷ p)) bs ≡ true)
    → whole ≡ (glob_matches p bs || later (glob_matches p) bs)
at_star whole p behind bs left e h =
    e ∙ absorbed (glob_matches (42 ∷ p) bs) (later (glob_matches behind) left) (λ k. some_end_twice (glob_matches p) bs (h k))
    ∙ some_end_is (glob_matches p) bs

pub at_star_last : (p bs : List ℕ) → later (glob_matches p) bs ≡ true → some_end (glob_matches p) bs ≡ true
at_star_last p bs h = later_passes (glob_matches p) bs h

pub at_char : (whole more : Bool) (c b : ℕ) (p bs : List ℕ) → c ≢ 42 → b ≡ c → whole ≡ (glob_matches (c ∷ p) (b ∷ bs) || more)
    → whole ≡ (glob_matches p bs || more)
at_char whole more c b p bs h k e =
    e ∙ ap (λ q. q (b ∷ bs) || more) (glob_behind c p h) ∙ ap (λ q. (q && glob_matches p bs) || more) (same b c k)

pub at_char_last : (c b : ℕ) (p bs : List ℕ) → c ≢ 42 → some_end (glob_matches (c ∷ p)) (b ∷ bs) ≡ true
    → some_end (glob_matches p) bs ≡ true
at_char_last c b p bs h k = some_end_behind c b (glob_matches p) bs (sym (ap (λ q. some_end q (b ∷ bs)) (glob_behind c p h)) ∙ k)

pub other_char : (c b : ℕ) (p bs : List ℕ) → c ≢ 42 → b ≢ c → glob_matches (c ∷ p) (b ∷ bs) ≡ false
other_char c b p bs h k = ap (λ q. q (b ∷ bs)) (glob_behind c p h) ∙ ap (λ q. q && glob_matches p bs) (other b c k)

pub no_char : (c : ℕ) (p : List ℕ) → c ≢ 42 → glob_matches (c ∷ p) [] ≡ false
no_char c p h = ap (λ q. q []) (glob_behind c p h)

pub missed : (whole : Bool) (b : ℕ) (p behind bs left : List ℕ) → glob_matches p bs ≡ false
    → whole ≡ (glob_matches p bs || later (glob_matches behind) (b ∷ left))
    → whole ≡ (glob_matches behind left || later (glob_matches behind) left)
missed whole b p behind bs left h e = e ∙ ap (λ q. q || some_end (glob_matches behind) left) h ∙ some_end_is (glob_matches behind) left

-- The measure of the steps.

product_falls : (s t u v : ℕ) → suc s ≤ t → u < v → s * v + u < t * v
product_falls s t u v h k =
    let e : suc s * v ≤ t * v = mul-le-mul_right v h in
    omega (arith, e)

pub star_falls : (behind rest left taken pattern text : ℕ) → suc rest ≤ behind → left ≤ text → rest ≤ pattern
    → rest * ((text + 1) * (pattern + 1)) + left * (pattern + 1) + rest < behind * ((text + 1) * (pattern + 1)) + taken *
    (pattern + 1) + suc rest
star_falls behind rest left taken pattern text h k l =
    let inner : left * (pattern + 1) + rest < (text + 1) * (pattern + 1) =
    product_falls left (text + 1) rest (pattern + 1) (omega arith) (omega arith) in
    let outer : rest * ((text + 1) * (pattern + 1)) + (left * (pattern + 1) + rest) < behind * ((text + 1) * (pattern + 1))
    = product_falls rest behind (left * (pattern + 1) + rest) ((text + 1) * (pattern + 1)) h inner in
    omega (arith, outer)
