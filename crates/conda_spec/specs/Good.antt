-- What holds of all that is read.
use Rattle.std.specs.Prelude.{◌≡◌, ◌≢◌, ℕ, ◌+◌, ◌<◌, true, List, [], Option, None, IfSome, unwrap_or, slice_get, map}
use Rattle.std.specs.Char.{to_ascii_lowercase}
use Rattle.std.specs.List.{AllByRecursion}
use Rattle.conda_clause.specs.Clause.{clause_fault}
use Rattle.conda_spec.specs.declared.given.Given.{Given}
use Rattle.conda_spec.specs.Parts.{IsFreeWord, bars_build, bars_channel, is_name_char}
use Rattle.conda_spec.specs.declared.places.Places.{Places}

-- where the i-th character that stays stood
abbrev pub stood : Places → ℕ → ℕ
stood places i = places.at + unwrap_or (slice_get places.places.items i) places.end

-- a version clause that is right, in lower case
abbrev pub IsGoodClause : List ℕ → Type 0
IsGoodClause clause = (clause_fault clause ≡ None) × (map to_ascii_lowercase clause ≡ clause)

-- a version clause that is right, and a build that is
pub record IsVersionAndBuild (wanted : Option (List ℕ) × Option (List ℕ)) : Type 0 where
  pub version : IfSome wanted.0 IsGoodClause
  pub build : IfSome wanted.1 (IsFreeWord bars_build)

pub record IsGoodGiven (given : Given) : Type 0 where
  pub channel : IfSome given.channel (IsFreeWord bars_channel)
  pub subdir : IfSome given.subdir (IsFreeWord bars_channel)
  pub version : IfSome given.version IsGoodClause
  pub build : IfSome given.build (IsFreeWord bars_build)
  pub number : IfSome given.number (λ n. n < 18446744073709551616)

-- a name, and what is given before the brackets
pub record IsGoodFront (front : List ℕ × Given) : Type 0 where
  pub name : (front.0 ≢ []) × AllByRecursion (λ b. is_name_char b ≡ true) front.0
  pub given : IsGoodGiven front.1
