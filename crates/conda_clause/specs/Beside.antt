-- How a version clause is written where a build follows: conda's match_spec.py, in this project's profile.
use Rattle.std.specs.Prelude.{◌≢◌, List, ◌∷◌, ◌++◌, codes, Contains, ℕ}
use Rattle.conda_clause.specs.Tests.{IsFaultless, starred}

-- the texts `=v`, `=v*` and `=v.*`
abbrev pub single_texts : List ℕ → List (List ℕ)
single_texts v = (codes "=" ++ v) ∷ starred (codes "=" ++ v)

-- it is none of these, nor `=*`
pub record IsNoSingle (text : List ℕ) : Type 0 where
  pub some : text ≢ codes "=*"
  pub version : (v : List ℕ) → IsFaultless v → Contains (single_texts v) text → ⊥

-- `=*` is written `*` there; the one test `=v`, `=v*` or `=v.*` is written `v.*`; and every other clause as it is.
pub data IsBesideBuild : List ℕ → List ℕ → Type 0 where
  always : IsBesideBuild (codes "=*") (codes "*")
  starts : (text v : List ℕ) → IsFaultless v → Contains (single_texts v) text → IsBesideBuild text (v ++ codes ".*")
  as_it_is : (text : List ℕ) → IsNoSingle text → IsBesideBuild text text
