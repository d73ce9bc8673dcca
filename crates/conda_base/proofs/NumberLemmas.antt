-- The number that digits mean, read one after another, and its decimal form.
use Rattle.std.proofs.Common.{◌≡◌, ◌≢◌, ◌↔◌, ℕ, ◌+◌, ◌-◌, ◌*◌, ◌^◌, ◌≤◌, ◌<◌, Bool, true, false, ◌&&◌, cond, List, [], ◌∷◌, length, get_or, suc, zero, Option, Some, None, refl, sym, ap, ◌∙◌, arith, ltb, leb, eqb, lit<}
use Rattle.std.specs.Prelude.{IfNone, IfSome, decimal}
use Rattle.std.specs.Cmp.{first_so, second_so}
use Rattle.std.specs.Char.{digit_value, is_ascii_digit}
use Rattle.std.specs.Str.{all_ascii_digits}
use Rattle.std.specs.Str.Parse.{digits_value, digits_value_after}
use Rattle.std.proofs.lemmas.Bool.{eq-eqb, eqb-true, leb-true, false≢true, le-ltb, lt-ltb, ltb-false, ltb-true, true≢false}
use Rattle.std.proofs.lemmas.Fmt.{decimal-digits_value, decimal_digit, decimal_nonempty, digits_decimal, digits_value-decimal, first_decimal}
use Rattle.std.proofs.lemmas.Str.{digit_value_digit}
use Rattle.std.proofs.lemmas.Str.Parse.{IsNumeralModel, numerals_by_value, tells_all_ascii_digits}
use Rattle.conda_base.specs.Numbers.{digits_below, has_leading_zero, is_digits, number_below}

own : IsNumeralModel (λ ds. all_ascii_digits ds ≡ true) (digits_value 10)
own = numerals_by_value (λ ds. all_ascii_digits ds ≡ true) tells_all_ascii_digits

-- the number, if it is below the limit
pub below : ℕ → Bool → ℕ → Option ℕ
below limit good n = cond (good && ltb n limit) (Some n) None

-- the number that goes on with these digits, if it stays below 2^64
abbrev pub number_from : ℕ → List ℕ → Option ℕ
number_from n [] = Some n
number_from n (d ∷ rest) =
    cond (is_ascii_digit d && ltb (n * 10 + (d - 48)) (2 ^ 64)) (number_from (n * 10 + (d - 48)) rest) None

digit_is : (d : ℕ) → is_ascii_digit d ≡ true → digit_value d ≡ d - 48
digit_is d h =
    let low : 48 ≤ d = leb-true 48 d (first_so (leb 48 d) (leb d 57) h) in
    let high : d ≤ 57 = leb-true d 57 (second_so (leb 48 d) (leb d 57) h) in
    omega (arith, digit_value_digit d (low, high))

grows : (n : ℕ) (ds : List ℕ) → n ≤ digits_value_after 10 n ds
grows n [] = omega arith
grows n (d ∷ ds) = omega (arith, grows (n * 10 + digit_value d) ds)

no_more : (a : Bool) → (a && false) ≡ false
no_more true = refl
no_more false = refl

from_is : (n : ℕ) (ds : List ℕ) → n < 2 ^ 64 → number_from n ds ≡ below (2 ^ 64) (all_ascii_digits ds) (digits_value_after 10 n ds)
unfolding below
from_is n [] low = rw (lt-ltb n (2 ^ 64) low) refl
from_is n (d ∷ ds) low = by (is_ascii_digit d) refl (λ small. from_is (n * 10 + (d - 48)) ds small)
  where
    fit : (v : Bool) → ltb (n * 10 + (d - 48)) (2 ^ 64) ≡ v → (n * 10 + (d - 48) < 2 ^ 64 → number_from (n * 10 + (d - 48)) ds ≡ below (2 ^ 64) (all_ascii_digits ds) (digits_value_after 10 (n * 10 + (d - 48)) ds)) → cond v (number_from (n * 10 + (d - 48)) ds) None ≡ below (2 ^ 64) (all_ascii_digits ds) (digits_value_after 10 (n * 10 + (d - 48)) ds)
    fit true e more = more (ltb-true _ _ e)
    fit false e more =
        let high : 2 ^ 64 ≤ digits_value_after 10 (n * 10 + (d - 48)) ds = omega (arith, grows (n * 10 + (d - 48)) ds, ltb-false _ _ e) in
        rw (le-ltb (digits_value_after 10 (n * 10 + (d - 48)) ds) (2 ^ 64) high, no_more (all_ascii_digits ds)) refl

    by : (v : Bool) → is_ascii_digit d ≡ v → (n * 10 + (d - 48) < 2 ^ 64 → number_from (n * 10 + (d - 48)) ds ≡ below (2 ^ 64) (all_ascii_digits ds) (digits_value_after 10 (n * 10 + (d - 48)) ds)) → number_from n (d ∷ ds) ≡ below (2 ^ 64) (all_ascii_digits (d ∷ ds)) (digits_value_after 10 n (d ∷ ds))
    by true e more = rw (e, digit_is d e) (fit (ltb (n * 10 + (d - 48)) (2 ^ 64)) refl more)
    by false e more = rw e refl

-- digits are read one after another
pub read_all : (text : List ℕ) → 0 < length text → number_from 0 text ≡ digits_below (2 ^ 64) text
unfolding below
read_all [] some = absurd (omega (arith, some))
read_all (d ∷ ds) some = from_is 0 (d ∷ ds) (lit< tt)

-- ---- limits

abbrev pub kept : ℕ → Option ℕ → Option ℕ
kept limit None = None
kept limit (Some n) = cond (ltb n limit) (Some n) None

kept_below : (limit most : ℕ) (good : Bool) (n : ℕ) → limit ≤ most → below limit good n ≡ kept limit (below most good n)
unfolding below
kept_below limit most false n h = refl
kept_below limit most true n h = by (ltb n most) refl
  where
    by : (v : Bool) → ltb n most ≡ v → cond (ltb n limit) (Some n) None ≡ kept limit (cond v (Some n) None)
    by true e = refl
    by false e = rw (le-ltb n limit (omega (arith, h, ltb-false n most e))) refl

-- below a smaller limit
pub kept_digits : (limit : ℕ) (text : List ℕ) → limit ≤ 2 ^ 64 → digits_below limit text ≡ kept limit (digits_below (2 ^ 64) text)
unfolding below
kept_digits limit text h = kept_below limit (2 ^ 64) (is_digits text) (digits_value 10 text) h

-- ---- what is read

some_same : (a b : ℕ) → Some a ≡ Some b → a ≡ b
some_same a b h = cc

below_law : (limit : ℕ) (good : Bool) (m n : ℕ) → (below limit good m ≡ Some n) ↔ ((good ≡ true) × (m ≡ n) × (n < limit))
unfolding below
below_law limit good m n = (to good, from)
  where
    at : (v : Bool) → ltb m limit ≡ v → cond v (Some m) None ≡ Some n → (m ≡ n) × (n < limit)
    at true e h = let same = some_same m n h in (same, omega (arith, same, ltb-true m limit e))
    at false e h = cc

    to : (v : Bool) → cond (v && ltb m limit) (Some m) None ≡ Some n → (v ≡ true) × (m ≡ n) × (n < limit)
    to true h = let r = at (ltb m limit) refl h in (refl, r.0, r.1)
    to false h = cc

    from : (good ≡ true) × (m ≡ n) × (n < limit) → cond (good && ltb m limit) (Some m) None ≡ Some n
    from h = rw (h.0, lt-ltb m limit (omega (arith, h.1, h.2))) (ap Some h.1)

pub digits_law : (limit : ℕ) (text : List ℕ) (n : ℕ) → (digits_below limit text ≡ Some n) ↔ ((is_digits text ≡ true) × (digits_value 10 text ≡ n) × (n < limit))
unfolding below
digits_law limit text n = below_law limit (is_digits text) (digits_value 10 text) n

digits_are : (text : List ℕ) → is_digits text ≡ true → (all_ascii_digits text ≡ true) × (0 < length text)
digits_are [] h = absurd (false≢true h)
digits_are (d ∷ rest) h = (h, omega arith)

are_digits : (text : List ℕ) → all_ascii_digits text ≡ true → 0 < length text → is_digits text ≡ true
are_digits [] h some = absurd (omega (arith, some))
are_digits (d ∷ rest) h some = h

front_zero : (text : List ℕ) → has_leading_zero text ≡ false → 0 < length text → get_or text 0 0 ≡ 48 → length text ≡ 1
front_zero [] h some e = absurd (omega (arith, some))
front_zero (d ∷ []) h some e = refl
front_zero (d ∷ e ∷ rest) h some z = absurd (true≢false (sym (eq-eqb d 48 z) ∙ h))

-- a number's decimal form has no 0 in front of more
plain_front : (n : ℕ) → n < 2 ^ 64 → has_leading_zero (decimal n) ≡ false
plain_front n low = by (decimal n) refl
  where
    zeros : (n d e : ℕ) (ds : List ℕ) → n < 2 ^ 64 → decimal n ≡ d ∷ e ∷ ds → d ≡ 48 → ⊥
    zeros zero d e ds low q z = let one : decimal 0 ≡ 48 ∷ [] = decimal_digit 0 (omega arith) in absurd (cc)
    zeros (suc n) d e ds low q z =
        let high = first_decimal (suc n) (omega arith) low in
        let high' : 48 < d = rw q at high in
        omega (arith, high', z)

    by : (ds : List ℕ) → decimal n ≡ ds → has_leading_zero ds ≡ false
    by [] q = refl
    by (d ∷ []) q = refl
    by (d ∷ e ∷ ds) q = at (eqb d 48) refl
      where
        at : (v : Bool) → eqb d 48 ≡ v → v ≡ false
        at true z = absurd (zeros n d e ds low q (eqb-true d 48 z))
        at false z = refl

pub number_law : (limit : ℕ) (text : List ℕ) (n : ℕ) → limit ≤ 2 ^ 64 → (number_below limit text ≡ Some n) ↔ ((text ≡ decimal n) × (n < limit))
number_law limit text n most = (λ h. to (has_leading_zero text) refl h, λ h. rw (h.0) (from h.1))
  where
    to : (v : Bool) → has_leading_zero text ≡ v → cond v None (digits_below limit text) ≡ Some n → (text ≡ decimal n) × (n < limit)
    to true z h = cc
    to false z h =
        let d = (digits_law limit text n).0 h in
        let a = digits_are text d.0 in
        let back = decimal-digits_value own text a.0 a.1 (front_zero text z a.1) (omega (arith, d.1, d.2, most)) in
        (sym back ∙ ap decimal d.1, d.2)

    from : n < limit → number_below limit (decimal n) ≡ Some n
    from low =
        let small : n < 2 ^ 64 = omega (arith, low, most) in
        rw (plain_front n small)
        ((digits_law limit (decimal n) n).1 (are_digits (decimal n) (digits_decimal own n small) (decimal_nonempty n small), digits_value-decimal own n small, low))

pub number_none : (limit : ℕ) (text : List ℕ) → limit ≤ 2 ^ 64 → has_leading_zero text ≡ true → (n : ℕ) → n < limit → text ≢ decimal n
number_none limit text most z n low = λ e.
    let small : n < 2 ^ 64 = omega (arith, low, most) in
    true≢false (sym z ∙ ap has_leading_zero e ∙ plain_front n small)

pub number_means : (limit : ℕ) (text : List ℕ) (o : Option ℕ) → limit ≤ 2 ^ 64 → has_leading_zero text ≡ false → digits_below limit text ≡ o → IfSome o (λ n. (text ≡ decimal n) × (n < limit)) × IfNone o ((n : ℕ) → n < limit → text ≢ decimal n)
number_means limit text (Some n) most z h = ((number_law limit text n most).0 (rw z h), tt)
number_means limit text None most z h =
    (tt, λ n low e. let s : number_below limit text ≡ Some n = (number_law limit text n most).1 (e, low) in let r = rw z at s in cc)
