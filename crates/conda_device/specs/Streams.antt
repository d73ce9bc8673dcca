-- What an input has left and an output was given, each told or not. This project's own.
use Rattle.std.specs.Prelude.{ℕ, List, ◌++◌, Option, option_map}

-- what an output tells of itself: all that was put, where it tells it, and its count of faults
pub record OutState : Type 0 where
  pub told : Option (List ℕ)
  pub faults : ℕ

-- what is told, with these bytes at its end
abbrev pub appended : Option (List ℕ) → List ℕ → Option (List ℕ)
appended told bytes = option_map (λ before. before ++ bytes) told

-- what is told, with these bytes in front
abbrev pub led_by : List ℕ → Option (List ℕ) → Option (List ℕ)
led_by bytes told = option_map (λ rest. bytes ++ rest) told
