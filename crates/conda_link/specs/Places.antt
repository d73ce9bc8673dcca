-- Where the files of a package of Python code go, after conda's `common/path.py` and `link.py`.
use Rattle.std.specs.Prelude.{◌≡◌, ℕ, ◌&&◌, if◌then◌else◌, List, ◌∷◌, ◌++◌, codes, Option, None, Some, option_and_then}
use Rattle.std.specs.Option.{option_map_or}
use Rattle.conda_base.specs.Numbers.{is_digits}
use Rattle.conda_base.specs.Signs.{dot, slash}
use Rattle.conda_base.specs.Texts.{cut_first, is_text}

-- where a path with this first part, and this behind its first slash, goes
abbrev pub placed_part : List ℕ → List ℕ → List ℕ × List ℕ → List ℕ
placed_part python path halves =
    if is_text halves.0 (codes "site-packages") then codes "lib/python" ++ python ++ codes "/" ++ path
    else if is_text halves.0 (codes "python-scripts") then codes "bin/" ++ halves.1
    else path

-- where a path of the package goes in an environment with the Python X.Y; a path without a slash stays
abbrev pub placed : List ℕ → List ℕ → List ℕ
placed python path = option_map_or (placed_part python path) (cut_first slash path) path

-- X.Y, where both are digits
abbrev pub digit_parts : List ℕ → List ℕ → Option (List ℕ)
digit_parts first second = if is_digits first && is_digits second then Some (first ++ dot ∷ second) else None

-- the second part is what stands before the next dot, or all
abbrev pub with_second : List ℕ → List ℕ → Option (List ℕ × List ℕ) → Option (List ℕ)
with_second first rest None = digit_parts first rest
with_second first rest (Some halves) = digit_parts first halves.0

-- the first two dotted parts of a version, where they are digits
abbrev pub python_parts : List ℕ → Option (List ℕ)
python_parts text = option_and_then (λ halves. with_second halves.0 halves.1 (cut_first dot halves.1)) (cut_first dot text)

-- the first two dotted parts of some version
abbrev pub IsPython : List ℕ → Type 0
IsPython python = (version : List ℕ) × (python_parts version ≡ Some python)
