-- The file of a package: a text with one of two endings, as conda's package files have them.
use Rattle.std.specs.Prelude.{◌≡◌, ℕ, ◌-◌, ◌⊎◌, nat_eq, if◌then◌else◌, List, ◌++◌, length, take, codes, Option, None, Some}
use Rattle.std.specs.List.{ends_with}
use Rattle.std.specs.Option.{option_or}

-- the file's name is this, and an ending behind it
abbrev pub IsFileOf : List ℕ → List ℕ → Type 0
IsFileOf file stem = (file ≡ stem ++ codes ".tar.bz2") ⊎ (file ≡ stem ++ codes ".conda")

-- ---- the same as a function

-- what stands before an ending
abbrev pub before_end : List ℕ → List ℕ → Option (List ℕ)
before_end ending text = if ends_with nat_eq text ending then Some (take (length text - length ending) text) else None

-- what stands before the ending of a package file
abbrev pub cut_ending : List ℕ → Option (List ℕ)
cut_ending file = option_or (before_end (codes ".tar.bz2") file) (before_end (codes ".conda") file)
