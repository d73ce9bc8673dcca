-- Which characters of a specification stay where spaces are dropped, said of their places in the text: conda's match_spec.py, in
-- this project's profile.
use Rattle.std.specs.Prelude.{◌≡◌, ◌≢◌, ◌↔◌, ◌⊎◌, ℕ, Bool, true, false, ◌==◌, ◌+◌, List, ◌∷◌, ◌++◌, codes, length, map, Contains, Some, slice_get}
use Rattle.std.specs.List.{list_all, list_any}
use Rattle.std.specs.List.Sorted.{IsStrictlyIncreasing}
use Rattle.conda_base.specs.Signs.{space}
use Rattle.conda_base.specs.Texts.{is_byte}

-- one of these characters
abbrev pub is_one_of : List ℕ → ℕ → Bool
is_one_of signs b = list_any (λ sign. sign == b) signs

-- at this place stands a character that is no space
abbrev pub IsSolid : List ℕ → ℕ → Type 0
IsSolid text at = (b : ℕ) × (slice_get text at ≡ Some b) × (b ≢ space)

-- At this place stands the last of the spaces between two other characters, of which neither drops them: the one before them
-- isn't `,` `|` `<` `>` or `=`, and the one behind them isn't `,` or `|`.
pub record IsGap (text : List ℕ) (at : ℕ) : Type 0 where
  pub front : List ℕ
  pub before : ℕ
  pub spaces : List ℕ
  pub behind : ℕ
  pub back : List ℕ
  pub whole : text ≡ front ++ before ∷ (spaces ++ space ∷ behind ∷ back)
  pub place : at ≡ length front + 1 + length spaces
  pub between : list_all (is_byte space) spaces ≡ true
  pub stays_behind : is_one_of (codes " ,|<>=") before ≡ false
  pub stays_before : is_one_of (codes " ,|") behind ≡ false

-- These characters stay, which stood at these places: all that are no spaces, and the spaces that part two of them.
pub record IsKept (text chars places : List ℕ) : Type 0 where
  pub stay : (at : ℕ) → Contains places at ↔ (IsSolid text at ⊎ IsGap text at)
  pub ascending : IsStrictlyIncreasing places
  pub same : map Some chars ≡ map (slice_get text) places
