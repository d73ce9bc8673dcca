-- In which lane a path lies. This project's own.
use Rattle.std.specs.Prelude.{◌≡◌, ℕ, ◌^◌, ◌<◌, ◌%◌, nat_eq, if◌then◌else◌, List, ◌∷◌, ◌++◌, drop, codes, Option, Some, None, is_some, unwrap_or, sum, decimal}
use Rattle.std.specs.List.{starts_with}
use Rattle.conda_base.specs.Numbers.{number_below}
use Rattle.conda_base.specs.Signs.{dot}
use Rattle.conda_base.specs.Texts.{cut_first}

-- the path in the trash with the numbers n and k: `conda-meta/.trash/<n>.<k>`
abbrev pub trash_path : ℕ → ℕ → List ℕ
trash_path n k = codes "conda-meta/.trash/" ++ (decimal n ++ dot ∷ decimal k)

-- the path is that one, for numbers below 2^64
abbrev pub IsTrash : List ℕ → ℕ → ℕ → Type 0
IsTrash path n k = (n < 2 ^ 64) × (k < 2 ^ 64) × (path ≡ trash_path n k)

-- ---- the same as a function

-- the second of two texts, where both are numbers
abbrev pub second_number : Option (List ℕ × List ℕ) → Option ℕ
second_number None = None
second_number (Some texts) = if is_some (number_below (2 ^ 64) texts.0) then number_below (2 ^ 64) texts.1 else None

-- the k of `conda-meta/.trash/<n>.<k>`
abbrev pub trash_number : List ℕ → Option ℕ
trash_number path =
    if starts_with nat_eq path (codes "conda-meta/.trash/") then second_number (cut_first dot (drop 18 path)) else None

-- k in the trash, else the sum of the path's bytes, is counted round the lanes
abbrev pub lane_number : List ℕ → ℕ → ℕ
lane_number path lanes = unwrap_or (trash_number path) (sum path) % lanes
