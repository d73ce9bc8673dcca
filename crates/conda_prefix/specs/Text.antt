-- A placeholder replaced in a text, after conda's portability.py.
use Rattle.std.specs.Prelude.{◌≡◌, ℕ, List, [], ◌∷◌, ◌++◌, length, flat_map, Some, None}
use Rattle.memchr.specs.Find.{FindsNeedle}

-- the placeholder occurs nowhere in the bytes
abbrev pub IsPlain : List ℕ → List ℕ → Type 0
IsPlain placeholder bytes = FindsNeedle bytes placeholder 0 None

-- the bytes are a piece, the first placeholder that occurs in them, and a rest
pub record IsCut (placeholder bytes piece rest : List ℕ) : Type 0 where
  pub is : bytes ≡ piece ++ (placeholder ++ rest)
  pub first : FindsNeedle bytes placeholder 0 (Some (length piece))

-- The bytes are pieces with the placeholder behind each, and a last piece. From the left, each of these placeholders is
-- the first that occurs, and none occurs in the last piece.
abbrev pub CutsInto : List ℕ → List (List ℕ) → List ℕ → List ℕ → Type 0
CutsInto placeholder [] last bytes = (bytes ≡ last) × IsPlain placeholder bytes
CutsInto placeholder (piece ∷ pieces) last bytes =
    (rest : List ℕ) × IsCut placeholder bytes piece rest × CutsInto placeholder pieces last rest

-- pieces with the same bytes behind each, and a last piece
abbrev pub joined : List ℕ → List (List ℕ) → List ℕ → List ℕ
joined between pieces last = flat_map (λ piece. piece ++ between) pieces ++ last

-- the prefix stands where the placeholder stood, and all else stays
pub record IsReplaced (placeholder prefix bytes made : List ℕ) : Type 0 where
  pub pieces : List (List ℕ)
  pub last : List ℕ
  pub cut : CutsInto placeholder pieces last bytes
  pub is : made ≡ joined prefix pieces last
