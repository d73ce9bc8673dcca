-- Lemmas on runs of digits and of other characters.
use Rattle.std.proofs.Common.{◌≡◌, ℕ, zero, suc, ◌+◌, ◌*◌, ◌^◌, ◌<◌, ◌≤◌, Bool, true, false, cond, ◌&&◌, get_or, List, [], ◌∷◌, ◌++◌, length, take, drop, map, None, refl, sym, ap, subst, ◌∙◌, arith, length-take, drop-drop}
use Rattle.std.proofs.lemmas.Bool.{and_from, and_parts}
use Rattle.std.proofs.lemmas.Bool.Decides.{nat_tests}
use Rattle.std.proofs.lemmas.Grind.{pow_more}
use Rattle.std.proofs.lemmas.List.{take-append-drop}
use Rattle.std.specs.Prelude.{not}
use Rattle.std.proofs.Math.Seq.{drop-append_seam, drop-nil, take-append_seam}
use Rattle.std.proofs.Math.Nat.{pow-le-pow_right}
use Rattle.std.specs.Bool.{beq}
use Rattle.std.specs.Char.{is_ascii_digit}
use Rattle.std.specs.List.{list_all, prefix_len}
use Rattle.std.specs.Str.{all_ascii_digits}
use Rattle.conda_base.specs.Numbers.{is_digits}
use Rattle.conda_version.specs.Grammar.{HasShortRuns, HasValue, onto_runs, numeral_from, run_len, runs_of}
use Rattle.conda_version.specs.Versions.{as_dot, begins_with_digit, main_dots}

abbrev pub like : Bool → ℕ → Bool
like k c = beq k (is_ascii_digit c)

pub beq_self : (k : Bool) → beq k k ≡ true
beq_self true = refl
beq_self false = refl

pub run_some : (b : ℕ) (bs : List ℕ) → 0 < run_len (b ∷ bs)
run_some b bs = omega (arith, ap (λ k. cond k (1 + prefix_len (like (is_ascii_digit b)) bs) 0) (beq_self (is_ascii_digit b)))

all_step : (p : ℕ → Bool) (x : ℕ) (xs : List ℕ) (k : Bool) → p x ≡ k → list_all p (take (prefix_len p xs) xs) ≡ true
    → list_all p (take (prefix_len p (x ∷ xs)) (x ∷ xs)) ≡ true
all_step p x xs true e h =
    let len : prefix_len p (x ∷ xs) ≡ suc (prefix_len p xs) = ap (λ k. cond k (1 + prefix_len p xs) 0) e ∙ omega arith in
    ap (λ n. list_all p (take n (x ∷ xs))) len ∙ ap (λ k. k && list_all p (take (prefix_len p xs) xs)) e ∙ h
all_step p x xs false e h = ap (λ n. list_all p (take n (x ∷ xs))) (ap (λ k. cond k (1 + prefix_len p xs) 0) e)

pub all_of_prefix : (p : ℕ → Bool) (xs : List ℕ) → list_all p (take (prefix_len p xs) xs) ≡ true
all_of_prefix p [] = refl
all_of_prefix p (x ∷ xs) = all_step p x xs (p x) refl (all_of_prefix p xs)

pub kind_is : (k d : Bool) → beq k d ≡ true → d ≡ k
kind_is true true h = refl
kind_is true false h = absurd cc
kind_is false true h = absurd cc
kind_is false false h = refl

unlike : (k d : Bool) → d ≡ not k → beq k d ≡ false
unlike true d h = ap (beq true) h
unlike false d h = ap (beq false) h

-- what follows a run is of the other kind
abbrev pub OtherKind : Bool → List ℕ → Type 0
OtherKind k [] = Unit {0}
OtherKind k (b ∷ bs) = is_ascii_digit b ≡ not k

pub stops : (k : Bool) (xs : List ℕ) → OtherKind k (drop (prefix_len (like k) xs) xs)
stops k [] = tt
stops k (x ∷ xs) = by_kind (is_ascii_digit x) (like k x) refl refl (stops k xs)
  where
    by_kind : (d l : Bool) → is_ascii_digit x ≡ d → like k x ≡ l → OtherKind k (drop (prefix_len (like k) xs) xs)
        → OtherKind k (drop (prefix_len (like k) (x ∷ xs)) (x ∷ xs))
    by_kind d true e f more =
        let len : prefix_len (like k) (x ∷ xs) ≡ suc (prefix_len (like k) xs) =
        ap (λ l. cond l (1 + prefix_len (like k) xs) 0) f ∙ omega arith in
        subst (λ n. OtherKind k (drop n (x ∷ xs))) (sym len) more
    by_kind d false e f more =
        let len : prefix_len (like k) (x ∷ xs) ≡ 0 = ap (λ l. cond l (1 + prefix_len (like k) xs) 0) f in
        subst (λ n. OtherKind k (drop n (x ∷ xs))) (sym len) (other k (is_ascii_digit x) f)
      where
        other : (k d : Bool) → beq k d ≡ false → d ≡ not k
        other true true h = absurd cc
        other true false h = refl
        other false true h = refl
        other false false h = absurd cc

-- runs that a character joins begin with it
joined_front : (b : ℕ) (runs : List (List ℕ)) → (run : List ℕ) × (more : List (List ℕ)) × (onto_runs b runs ≡ (b ∷ run) ∷ more)
joined_front b [] = ([], [], refl)
joined_front b ([] ∷ runs) = ([], runs, refl)
joined_front b ((c ∷ run) ∷ runs) = by_kind (beq (is_ascii_digit b) (is_ascii_digit c))
  where
    by_kind : (k : Bool) → (front : List ℕ) × (more : List (List ℕ))
        × (cond k ((b ∷ c ∷ run) ∷ runs) ((b ∷ []) ∷ (c ∷ run) ∷ runs) ≡ (b ∷ front) ∷ more)
    by_kind true = (c ∷ run, runs, refl)
    by_kind false = ([], (c ∷ run) ∷ runs, refl)

pub run_front : (k : Bool) (run more : List ℕ) → 0 < length run → list_all (like k) run ≡ true → OtherKind k more
    → runs_of (run ++ more) ≡ run ∷ runs_of more
run_front k [] more some h o = absurd (omega arith)
run_front k (b ∷ []) [] some h o = refl
run_front k (b ∷ []) (c ∷ cs) some h o =
    let first = and_parts (like k b) true h in
    let apart : beq (is_ascii_digit b) (is_ascii_digit c) ≡ false =
    ap (λ d. beq d (is_ascii_digit c)) (kind_is k (is_ascii_digit b) first.0) ∙ unlike k (is_ascii_digit c) o in
    let next = joined_front c (runs_of cs) in
    ap (onto_runs b) next.2
    ∙ ap (λ q. cond q ((b ∷ c ∷ next.0) ∷ next.1) ((b ∷ []) ∷ (c ∷ next.0) ∷ next.1)) apart
    ∙ ap (λ runs. (b ∷ []) ∷ runs) (sym next.2)
run_front k (b ∷ c ∷ cs) more some h o =
    let first = and_parts (like k b) (list_all (like k) (c ∷ cs)) h in
    let second = and_parts (like k c) (list_all (like k) cs) first.1 in
    let alike : beq (is_ascii_digit b) (is_ascii_digit c) ≡ true =
    ap (λ d. beq d (is_ascii_digit c)) (kind_is k (is_ascii_digit b) first.0) ∙ second.0 in
    ap (onto_runs b) (run_front k (c ∷ cs) more (omega arith) first.1 o)
    ∙ ap (λ q. cond q ((b ∷ c ∷ cs) ∷ runs_of more) ((b ∷ []) ∷ (c ∷ cs) ∷ runs_of more)) alike

-- the first run, and the runs behind it
pub runs_first : (bs : List ℕ) → 0 < length bs → runs_of bs ≡ take (run_len bs) bs ∷ runs_of (drop (run_len bs) bs)
runs_first [] h = absurd (omega arith)
runs_first (b ∷ bs) h =
    let w : List ℕ = b ∷ bs in
    let k : Bool = is_ascii_digit b in
    let some : 0 < length (take (run_len w) w) = omega (arith, length-take (run_len w) w, run_some b bs) in
    ap runs_of (sym (take-append-drop (run_len w) w))
    ∙ run_front k (take (run_len w) w) (drop (run_len w) w) some (all_of_prefix (like k) w) (stops k w)

prefix_of_all : (p : ℕ → Bool) (n : ℕ) (xs : List ℕ) → list_all p (take n xs) ≡ true → n ≤ length xs → n ≤ prefix_len p xs
prefix_of_all p zero xs h k = omega arith
prefix_of_all p (suc n) [] h k = absurd (omega arith)
prefix_of_all p (suc n) (x ∷ xs) h k = grind (arith, prefix_of_all p n xs)

begins_of_take : (n : ℕ) (bs : List ℕ) → begins_with_digit (take n bs) ≡ true → begins_with_digit bs ≡ true
begins_of_take zero bs h = cc
begins_of_take (suc n) [] h = h
begins_of_take (suc n) (b ∷ bs) h = h

beq_true : (k : Bool) → beq true k ≡ k
beq_true true = refl
beq_true false = refl

run_of_digits : (bs : List ℕ) → begins_with_digit bs ≡ true → run_len bs ≡ prefix_len is_ascii_digit bs
run_of_digits bs h =
    ap (λ k. prefix_len (like k) bs) h ∙ ap (λ p. prefix_len p bs) (λ i c. beq_true (is_ascii_digit c) i)

-- the first run of a text without long runs has a number, where it begins with a digit
pub first_run_value : (bs : List ℕ) → HasShortRuns bs → HasValue (take (run_len bs) bs)
first_run_value bs short h =
    let e = run_of_digits bs (begins_of_take (run_len bs) bs h) in (
      ap (λ n. list_all is_ascii_digit (take n bs)) e
          ∙ all_of_prefix is_ascii_digit bs,
      omega (arith, e, short.each 0, length-take (run_len bs) bs),
    )

-- Texts without long runs.

-- a text in which none was found
pub short_from_none : (at : ℕ) (text : List ℕ) → numeral_from at text ≡ None → (i : ℕ) → prefix_len is_ascii_digit (drop i text) ≤ 38
short_from_none at [] h i = rw (drop-nil {A = ℕ} i) (omega arith)
short_from_none at (b ∷ bs) h zero = grind (arith, nat_tests)
short_from_none at (b ∷ bs) h (suc i) = short_from_none (at + 1) bs (grind (arith, nat_tests)) i

pub short_of_drop : (n : ℕ) (text : List ℕ) → HasShortRuns text → HasShortRuns (drop n text)
short_of_drop n text short = record { each = λ i. omega (arith, ap (prefix_len is_ascii_digit) (drop-drop i n text), short.each (n + i)) }

prefix_of_take : (p : ℕ → Bool) (n : ℕ) (xs : List ℕ) → prefix_len p (take n xs) ≤ prefix_len p xs
prefix_of_take p zero xs = omega arith
prefix_of_take p (suc n) [] = omega arith
prefix_of_take p (suc n) (x ∷ xs) = grind (arith, prefix_of_take p n xs)

prefix_of_part : (p : ℕ → Bool) (i n : ℕ) (xs : List ℕ) → prefix_len p (drop i (take n xs)) ≤ prefix_len p (drop i xs)
prefix_of_part p zero n xs = prefix_of_take p n xs
prefix_of_part p (suc i) zero xs = omega arith
prefix_of_part p (suc i) (suc n) [] = omega arith
prefix_of_part p (suc i) (suc n) (x ∷ xs) = prefix_of_part p i n xs

pub short_of_take : (n : ℕ) (text : List ℕ) → HasShortRuns text → HasShortRuns (take n text)
short_of_take n text short = record { each = λ i. omega (arith, prefix_of_part is_ascii_digit i n text, short.each i) }

digit_of_dot : (b : ℕ) → is_ascii_digit (as_dot b) ≡ is_ascii_digit b
digit_of_dot b = grind (arith, nat_tests)

pub prefix_of_dots : (i : ℕ) (xs : List ℕ) → prefix_len is_ascii_digit (drop i (map as_dot xs)) ≡ prefix_len is_ascii_digit (drop i xs)
prefix_of_dots zero [] = refl
prefix_of_dots zero (x ∷ xs) = rw (digit_of_dot x) (ap (λ n. cond (is_ascii_digit x) (1 + n) 0) (prefix_of_dots 0 xs))
prefix_of_dots (suc i) [] = refl
prefix_of_dots (suc i) (x ∷ xs) = prefix_of_dots i xs

pub short_of_dots : (text : List ℕ) → HasShortRuns text → HasShortRuns (map as_dot text)
short_of_dots text short = record { each = λ i. omega (arith, prefix_of_dots i text, short.each i) }

pub prefix_of_main_dots : (i : ℕ) (xs : List ℕ) → prefix_len is_ascii_digit (drop i (main_dots xs)) ≡ prefix_len is_ascii_digit (drop i xs)
prefix_of_main_dots i [] = refl
prefix_of_main_dots i (x ∷ []) = refl
prefix_of_main_dots zero (x ∷ y ∷ xs) = rw (digit_of_dot x) (ap (λ n. cond (is_ascii_digit x) (1 + n) 0) (prefix_of_main_dots 0 (y ∷ xs)))
prefix_of_main_dots (suc i) (x ∷ y ∷ xs) = prefix_of_main_dots i (y ∷ xs)

pub short_of_main_dots : (text : List ℕ) → HasShortRuns text → HasShortRuns (main_dots text)
short_of_main_dots text short = record { each = λ i. omega (arith, prefix_of_main_dots i text, short.each i) }

-- Numbers.

pub digits_fit : (n i : ℕ) → n < 10 ^ i → i < 38 → n * 10 + 10 ≤ 10 ^ 38
digits_fit n i h k =
    omega (arith, pow_more 10 i, pow-le-pow_right {n = 10} (omega arith) {i = i + 1} {j = 38} (omega arith))

-- a digit behind the front of a list of digits
pub digit_at : (xs : List ℕ) (i : ℕ) → list_all is_ascii_digit (drop i xs) ≡ true → i < length xs → get_or xs i 0 < 58
digit_at [] i h k = absurd (omega arith)
digit_at (x ∷ xs) zero h k = grind (arith, nat_tests)
digit_at (x ∷ xs) (suc i) h k = digit_at xs i h (omega arith)

-- how long digits are
digits_len : (ds : List ℕ) → all_ascii_digits ds ≡ true → prefix_len is_ascii_digit ds ≡ length ds
digits_len [] h = refl
digits_len (d ∷ ds) h =
    let parts = and_parts (is_ascii_digit d) (all_ascii_digits ds) h in
    ap (λ k. cond k (1 + prefix_len is_ascii_digit ds) 0) parts.0 ∙ omega (arith, digits_len ds parts.1)

pub all_digits : (ds : List ℕ) → all_ascii_digits ds ≡ true → list_all is_ascii_digit ds ≡ true
all_digits [] h = refl
all_digits (d ∷ ds) h =
    let parts = and_parts (is_ascii_digit d) (all_ascii_digits ds) h in
    and_from (is_ascii_digit d) (list_all is_ascii_digit ds) parts.0 (all_digits ds parts.1)

pub digits_are_all : (ds : List ℕ) → is_digits ds ≡ true → all_ascii_digits ds ≡ true
digits_are_all [] h = refl
digits_are_all (d ∷ ds) h = h

pub short_digits : (ds : List ℕ) → is_digits ds ≡ true → HasShortRuns ds → length ds ≤ 38
short_digits ds h short = omega (arith, digits_len ds (digits_are_all ds h), short.each 0)

-- the parts of a text without long runs

pub short_front : (xs ys : List ℕ) → HasShortRuns (xs ++ ys) → HasShortRuns xs
short_front xs ys short = subst HasShortRuns (take-append_seam xs ys) (short_of_take (length xs) (xs ++ ys) short)

pub short_back : (xs ys : List ℕ) → HasShortRuns (xs ++ ys) → HasShortRuns ys
short_back xs ys short = subst HasShortRuns (drop-append_seam xs ys) (short_of_drop (length xs) (xs ++ ys) short)
