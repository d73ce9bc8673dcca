-- The first empty word of a line.
use Rattle.std.proofs.Common.{◌≡◌, ℕ, zero, suc, ◌+◌, ◌<◌, ◌≤◌, Bool, true, false, cond, List, [], ◌∷◌, take, refl, sym, ap, ◌∙◌, arith, true≢false}
use Rattle.std.specs.Prelude.{Option, None, Some, nat_lt, position, slice_get, ◌||◌}
use Rattle.std.proofs.lemmas.Bool.Decides.{nat_tests}
use Rattle.std.specs.List.{list_any, position_from}
use Rattle.std.proofs.lemmas.Iterator.Adapters.{position_from-zero}
use Rattle.conda_base.specs.Texts.{is_empty}

empty_is : (word : List ℕ) → is_empty word ≡ true → word ≡ []
empty_is [] h = refl
empty_is (b ∷ bs) h = cc

pub record FoundEmpty (words : List (List ℕ)) (at : ℕ) : Type 0 where
  pub empty : slice_get words at ≡ Some []
  pub before : list_any is_empty (take at words) ≡ false

record FoundFrom (start : ℕ) (words : List (List ℕ)) (at : ℕ) : Type 0 where
  place : ℕ
  is : at ≡ start + place
  found : FoundEmpty words place

some_same : (x y : ℕ) → Some x ≡ Some y → y ≡ x
some_same x y e = cc

found_from : (start : ℕ) (words : List (List ℕ)) (at : ℕ) → position_from is_empty start words ≡ Some at → FoundFrom start words at
found_from start [] at h = cc
found_from start (word ∷ more) at h = by (is_empty word) refl h (found_from (start + 1) more at)
  where
    by : (k : Bool) → is_empty word ≡ k → cond k (Some start) (position_from is_empty (start + 1) more) ≡ Some at
        → (position_from is_empty (start + 1) more ≡ Some at → FoundFrom (start + 1) more at) → FoundFrom start (word ∷ more) at
    by true e f rest = record {
      place = 0;
      is = some_same start at f ∙ omega arith;
      found = record { empty = ap (λ w. Some w) (empty_is word e); before = refl };
    }
    by false e f rest =
        let later = rest f in
        let same : at ≡ start + 1 + later.place = later.is in
        record {
          place = suc later.place;
          is = omega arith;
          found = record {
            empty = later.found.empty;
            before = ap (λ b. b || list_any is_empty (take later.place more)) e
                ∙ later.found.before;
          };
        }

none_from : (start : ℕ) (words : List (List ℕ)) → position_from is_empty start words ≡ None → list_any is_empty words ≡ false
none_from start [] h = refl
none_from start (word ∷ more) h = by (is_empty word) refl h (none_from (start + 1) more)
  where
    by : (k : Bool) → is_empty word ≡ k → cond k (Some start) (position_from is_empty (start + 1) more) ≡ None
        → (position_from is_empty (start + 1) more ≡ None → list_any is_empty more ≡ false) → (k || list_any is_empty more) ≡ false
    by true e f rest = cc
    by false e f rest = rest f

pub found_empty : (words : List (List ℕ)) (at : ℕ) → position is_empty words ≡ Some at → FoundEmpty words at
found_empty words at h =
    let found = found_from 0 words at (sym (position_from-zero is_empty words) ∙ h) in
    let same : found.place ≡ at = omega (arith, found.is) in
    record {
      empty = ap (slice_get words) (sym same) ∙ found.found.empty;
      before = ap (λ n. list_any is_empty (take n words)) (sym same) ∙ found.found.before;
    }

pub none_empty : (words : List (List ℕ)) → position is_empty words ≡ None → list_any is_empty words ≡ false
none_empty words h = none_from 0 words (sym (position_from-zero is_empty words) ∙ h)

no_empty_from : (start : ℕ) (words : List (List ℕ)) → list_any is_empty words ≡ false → position_from is_empty start words ≡ None
no_empty_from start [] h = refl
no_empty_from start (word ∷ more) h = by (is_empty word) h (no_empty_from (start + 1) more)
  where
    by : (k : Bool) → (k || list_any is_empty more) ≡ false
        → (list_any is_empty more ≡ false → position_from is_empty (start + 1) more ≡ None)
        → cond k (Some start) (position_from is_empty (start + 1) more) ≡ None
    by true f rest = cc
    by false f rest = rest f

pub no_empty : (words : List (List ℕ)) → list_any is_empty words ≡ false → position is_empty words ≡ None
no_empty words h = position_from-zero is_empty words ∙ no_empty_from 0 words h

or_parts : (a b : Bool) → (a || b) ≡ false → (a ≡ false) × (b ≡ false)
or_parts true b h = cc
or_parts false b h = (refl, h)

-- among fewer words none is empty
pub fewer_empty : (n m : ℕ) (words : List (List ℕ)) → n ≤ m → list_any is_empty (take m words) ≡ false
    → list_any is_empty (take n words) ≡ false
fewer_empty zero m words l h = refl
fewer_empty (suc n) zero words l h = absurd (omega arith)
fewer_empty (suc n) (suc m) [] l h = refl
fewer_empty (suc n) (suc m) (word ∷ more) l h =
    let parts = or_parts (is_empty word) (list_any is_empty (take m more)) h in
    ap (λ b. b || list_any is_empty (take n more)) parts.0 ∙ fewer_empty n m more (omega arith) parts.1

pub some_fewer : (n : ℕ) (words : List (List ℕ)) → list_any is_empty words ≡ false → list_any is_empty (take n words) ≡ false
some_fewer zero words h = refl
some_fewer (suc n) [] h = refl
some_fewer (suc n) (word ∷ more) h =
    let parts = or_parts (is_empty word) (list_any is_empty more) h in
    ap (λ b. b || list_any is_empty (take n more)) parts.0 ∙ some_fewer n more parts.1

-- an empty word is among those up to it
pub empty_among : (n at : ℕ) (words : List (List ℕ)) → slice_get words at ≡ Some [] → at < n → list_any is_empty (take n words) ≡ true
empty_among zero at words h l = absurd (omega arith)
empty_among (suc n) at [] h l = cc
empty_among (suc n) zero (word ∷ more) h l = let none : word ≡ [] = cc in ap (λ w. is_empty w || list_any is_empty (take n more)) none
empty_among (suc n) (suc at) (word ∷ more) h l = by (is_empty word) (empty_among n at more h (omega arith))
  where
    by : (k : Bool) → list_any is_empty (take n more) ≡ true → (k || list_any is_empty (take n more)) ≡ true
    by true e = refl
    by false e = e

-- where a word is empty, one is found
pub empty_found : (words : List (List ℕ)) (at : ℕ) → slice_get words at ≡ Some []
    → (first : ℕ) × (position is_empty words ≡ Some first) × (first ≤ at)
empty_found words at h = by (position is_empty words) refl
  where
    by : (o : Option ℕ) → position is_empty words ≡ o → (first : ℕ) × (position is_empty words ≡ Some first) × (first ≤ at)
    by None e =
        absurd (true≢false (sym (empty_among (at + 1) at words h (omega arith)) ∙ some_fewer (at + 1) words (none_empty words e)))
    by (Some n) e = (n, e, up n (found_empty words n e).before)
      where
        up : (n : ℕ) → list_any is_empty (take n words) ≡ false → n ≤ at
        up n none = by_less (nat_lt at n) refl
          where
            by_less : (k : Bool) → nat_lt at n ≡ k → n ≤ at
            by_less true e =
                let less : at < n = grind (arith, nat_tests) in
                absurd (true≢false (sym (empty_among n at words h less) ∙ none))
            by_less false e = grind (arith, nat_tests)
