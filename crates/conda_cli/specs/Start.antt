-- What stands in front of a command line. This project's own.
use Rattle.std.specs.Prelude.{ℕ, List, [], ◌∷◌, codes, Option, Some, None, if◌then◌else◌}
use Rattle.std.specs.Str.{bytes_eq}

-- the text, of the help and the version, that a first word asks for
abbrev pub asked : List ℕ → List ℕ → List (List ℕ) → Option (List ℕ)
asked help version [] = None
asked help version (word ∷ rest) =
    if bytes_eq word (codes "--help") then Some help
    else if bytes_eq word (codes "--version") then Some version
    else None

-- the folder that `--root DIR` in front names, or else the empty text; and the words that are left
abbrev pub rooted : List (List ℕ) → List ℕ × List (List ℕ)
rooted (option ∷ folder ∷ rest) =
    if bytes_eq option (codes "--root") then (folder, rest) else ([], option ∷ folder ∷ rest)
rooted words = ([], words)
