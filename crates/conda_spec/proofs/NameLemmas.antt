-- The characters of a name.
use Rattle.std.proofs.Common.{◌≡◌, ◌≢◌, ◌≤◌, ◌<◌, ◌+◌, ℕ, Bool, true, false, not, length, List, [], ◌∷◌, map, take, get_or, refl, sym, ◌∙◌, subst, arith, true≢false, suc, zero}
use Rattle.std.specs.Char.{to_ascii_lowercase}
use Rattle.std.specs.List.{AllByRecursion, before_first, position_or_len}
use Rattle.std.specs.Str.{IsCharBoundary, IsUtf8}
use Rattle.std.proofs.Math.Dec.{ltb}
use Rattle.std.proofs.lemmas.Bool.{ltb-true, ltb-false}
use Rattle.std.proofs.lemmas.Bool.Decides.{nat_tests}
use Rattle.std.proofs.lemmas.List.Sums.{prefix_len-le-length, prefix_len_passes}
use Rattle.std.proofs.lemmas.Str.{IsCharBoundary-after_ascii, IsCharBoundary-start}
use Rattle.conda_spec.specs.declared.given.Given.{Given}
use Rattle.conda_spec.specs.Good.{IsGoodFront, IsGoodGiven, IsVersionAndBuild}
use Rattle.conda_spec.specs.Parts.{ends_name, is_name_char}
use Rattle.conda_spec.specs.Reading.{VersionAndBuild, with_wanted}

-- a character of a name is ASCII
above : (c : ℕ) → 128 ≤ c → is_name_char c ≡ false
above c h = grind (arith, nat_tests)

lower_above : (b : ℕ) → 128 ≤ b → 128 ≤ to_ascii_lowercase b
lower_above b h = grind (arith, nat_tests)

ends_above : (b : ℕ) → 128 ≤ b → not (ends_name b) ≡ false
ends_above b h = rw (above (to_ascii_lowercase b) (lower_above b h)) refl

ascii : (b : ℕ) → not (ends_name b) ≡ true → b < 128
ascii b h = by (ltb b 128) refl
  where
    by : (v : Bool) → ltb b 128 ≡ v → b < 128
    by true e = ltb-true b 128 e
    by false e = absurd (true≢false (sym h ∙ ends_above b (ltb-false b 128 e)))

-- the text may be cut behind the name
pub boundary : (s : List ℕ) (n : ℕ) → IsUtf8 s → n ≡ position_or_len ends_name s → IsCharBoundary s n
boundary s zero u e = IsCharBoundary-start s u
boundary s (suc k) u e =
    let inside : k < position_or_len ends_name s = omega (arith, e) in
    let within : k < length s = omega (arith, inside, prefix_len-le-length (λ b. not (ends_name b)) s) in
    let small : get_or s k 0 < 128 = ascii (get_or s k 0) (prefix_len_passes (λ b. not (ends_name b)) s k 0 inside) in
    let at : IsCharBoundary s (k + 1) = IsCharBoundary-after_ascii s k u within small in
    let P : ℕ → Type 0 = IsCharBoundary s in
    let step : k + 1 ≡ suc k = omega arith in
    subst P step at

-- a name is of such characters
pub name_chars : (s : List ℕ) → AllByRecursion (λ b. is_name_char b ≡ true) (map to_ascii_lowercase (before_first ends_name s))
name_chars [] = tt
name_chars (b ∷ bs) = by (is_name_char (to_ascii_lowercase b)) refl (name_chars bs)
  where
    Named : List ℕ → Type 0
    Named xs = AllByRecursion (λ b. is_name_char b ≡ true) (map to_ascii_lowercase xs)

    by : (v : Bool) → is_name_char (to_ascii_lowercase b) ≡ v
        → AllByRecursion (λ b. is_name_char b ≡ true) (map to_ascii_lowercase (before_first ends_name bs))
        → AllByRecursion (λ b. is_name_char b ≡ true) (map to_ascii_lowercase (before_first ends_name (b ∷ bs)))
    by true e more =
        let m : ℕ = position_or_len ends_name bs in
        let n : position_or_len ends_name (b ∷ bs) ≡ suc m = rw e (omega arith) in
        let P : ℕ → Type 0 = λ q. AllByRecursion (λ b. is_name_char b ≡ true) (map to_ascii_lowercase (take q (b ∷ bs))) in
        subst P (sym n) (e, more)
    by false e more =
        let n : position_or_len ends_name (b ∷ bs) ≡ 0 = rw e refl in
        let P : ℕ → Type 0 = λ q. AllByRecursion (λ b. is_name_char b ≡ true) (map to_ascii_lowercase (take q (b ∷ bs))) in
        subst P (sym n) tt

some_name : (name : List ℕ) → 0 < length name → map to_ascii_lowercase name ≢ []
some_name [] h = absurd (omega (arith, h))
some_name (b ∷ bs) h = λ e. cc

-- what stands before the brackets, by its parts
pub front_is : (given : Given) (wanted : VersionAndBuild) (s name lowered : List ℕ) (all : Given) → IsGoodGiven given
    → IsVersionAndBuild wanted → 0 < length name → name ≡ before_first ends_name s → lowered ≡ map to_ascii_lowercase name
    → all ≡ with_wanted given wanted → IsGoodFront (lowered, all)
front_is given wanted s name lowered all g w some n l a =
    let chars : AllByRecursion (λ b. is_name_char b ≡ true) lowered = rw (l, n) (name_chars s) in
    let more : lowered ≢ [] = rw l (some_name name some) in
    let P : Given → Type 0 = IsGoodGiven in
    let good : IsGoodGiven (with_wanted given wanted) = record {
      channel = g.channel;
      subdir = g.subdir;
      version = w.version;
      build = w.build;
      number = g.number;
    } in
    record { name = (more, chars); given = subst P (sym a) good }
