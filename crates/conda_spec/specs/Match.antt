-- Which packages a specification names: conda's match_spec.py.
use Rattle.std.specs.Prelude.{ℕ, Bool, true, nat_eq, map, ◌==◌, ◌&&◌, List, Option, None, Some}
use Rattle.std.specs.Char.{to_ascii_lowercase}
use Rattle.std.specs.Cmp.Lexicographic.{pointwise}
use Rattle.conda_clause.specs.Glob.{glob_matches}
use Rattle.conda_clause.specs.Truth.{clause_holds}
use Rattle.conda_spec.specs.Parts.{Parts}

-- What a package is looked at by. The version is its text.
pub record Looks : Type 0 where
  pub name : List ℕ
  pub version : List ℕ
  pub build : List ℕ
  pub number : ℕ
  pub channel : List ℕ
  pub subdir : List ℕ

-- a part that isn't given allows all
abbrev pub allows : {A : Type 0} → (A → Bool) → Option A → Bool
allows test None = true
allows test (Some part) = test part

-- the specification names the package: every part that is given allows it
abbrev pub spec_matches : Parts → Looks → Bool
spec_matches spec seen =
    glob_matches spec.name (map to_ascii_lowercase seen.name)
    && (allows (λ clause. clause_holds clause seen.version) spec.version
    && (allows (λ build. glob_matches build seen.build) spec.build
    && (allows (λ number. number == seen.number) spec.number
    && (allows (λ channel. pointwise nat_eq channel seen.channel) spec.channel
    && allows (λ subdir. pointwise nat_eq subdir seen.subdir) spec.subdir))))
