-- Lemmas on the components of a dotted text.
use Rattle.std.proofs.Common.{◌≡◌, ℕ, ◌+◌, ◌<◌, ◌≤◌, Bool, List, [], ◌∷◌, length, take, drop, None, Some, refl, ap, ◌∙◌, arith}
use Rattle.std.proofs.lemmas.Bool.Decides.{nat_tests}
use Rattle.std.proofs.lemmas.List.{length-take-le}
use Rattle.std.proofs.lemmas.List.Splits.{slice_split_first}
use Rattle.std.proofs.lemmas.List.Sums.{prefix_len-le-length}
use Rattle.std.specs.Prelude.{if◌then◌else◌, not, ◌==◌}
use Rattle.std.specs.List.{position, position_or_len, slice_split}
use Rattle.conda_base.specs.Signs.{dot}
use Rattle.conda_base.specs.Texts.{is_byte}
use Rattle.conda_version.specs.Grammar.{empty_from}

abbrev pub is_dot : ℕ → Bool
is_dot = is_byte dot

-- where a place was found it is the first
pub place_is : (xs : List ℕ) (at : ℕ) → Some at ≡ position is_dot xs → (at ≡ position_or_len is_dot xs) × (at < length xs)
place_is xs at h = grind (arith, nat_tests)

-- the first component ends at the first `.`
pub split_at_place : (xs : List ℕ) (at : ℕ) → Some at ≡ position is_dot xs
    → slice_split is_dot xs ≡ take at xs ∷ slice_split is_dot (drop (at + 1) xs)
split_at_place xs at h =
    let found = place_is xs at h in
    rw (found.0) (slice_split_first is_dot xs 0 (omega (arith, found.0, found.1)))

split_of_none : (xs : List ℕ) → position_or_len is_dot xs ≡ length xs → slice_split is_dot xs ≡ xs ∷ []
split_of_none [] h = refl
split_of_none (x ∷ xs) h = grind (arith, nat_tests, split_of_none xs)

no_place_is : (xs : List ℕ) → None ≡ position is_dot xs → position_or_len is_dot xs ≡ length xs
no_place_is xs h = grind (arith, nat_tests, prefix_len-le-length (λ x. not (is_dot x)) xs)

-- without a `.` there is one component
pub split_without : (xs : List ℕ) → None ≡ position is_dot xs → slice_split is_dot xs ≡ xs ∷ []
split_without xs h = split_of_none xs (no_place_is xs h)

pub empty_at_place : (start : ℕ) (xs : List ℕ) (at : ℕ) → Some at ≡ position is_dot xs
    → empty_from start (slice_split is_dot xs)
    ≡ (if at == 0 then Some start else empty_from (start + at + 1) (slice_split is_dot (drop (at + 1) xs)))
empty_at_place start xs at h =
    let found = place_is xs at h in
    let within : at ≤ length xs = omega (arith, found.1) in
    ap (empty_from start) (split_at_place xs at h)
    ∙ ap (λ n. if n == 0 then Some start else empty_from (start + n + 1) (slice_split is_dot (drop (at + 1) xs)))
    (length-take-le at xs within)

pub empty_without : (start : ℕ) (xs : List ℕ) → None ≡ position is_dot xs
    → empty_from start (slice_split is_dot xs) ≡ (if length xs == 0 then Some start else None)
empty_without start xs h = ap (empty_from start) (split_without xs h)
