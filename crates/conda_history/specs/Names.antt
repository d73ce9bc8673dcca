-- The dists that the lines of a block name.
use Rattle.std.specs.Prelude.{ℕ, Bool, List}

-- Behind `-` and behind `+` as each was named last, and without a sign, each list ascending; and whether some line has
-- a sign.
pub record Names : Type 0 where
  pub removed : List (List ℕ)
  pub added : List (List ℕ)
  pub plain : List (List ℕ)
  pub signed : Bool
