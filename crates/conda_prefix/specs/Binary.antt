-- A placeholder replaced in a binary file, after conda's portability.py.
use Rattle.std.specs.Prelude.{◌≡◌, ◌≢◌, ℕ, ◌+◌, ◌-◌, ◌<◌, ◌≤◌, List, [], ◌∷◌, ◌++◌, length, replicate, slice_index, Some}
use Rattle.memchr.specs.Find.{FindsNeedle, OccursAt}
use Rattle.conda_base.specs.Signs.{nul}
use Rattle.conda_prefix.specs.Text.{IsReplaced}

-- a run begins here: the placeholder occurs, and behind it there is a NUL
abbrev pub BeginsRun : List ℕ → List ℕ → ℕ → Type 0
BeginsRun placeholder bytes at =
    OccursAt bytes placeholder at × (end : ℕ) × (at + length placeholder ≤ end) × (end < length bytes) × (slice_index bytes end ≡ nul)

-- a run begins somewhere
abbrev pub HasRun : List ℕ → List ℕ → Type 0
HasRun placeholder bytes = (at : ℕ) × BeginsRun placeholder bytes at

-- The first run of the bytes is this text, from the first placeholder up to the next NUL; so much stands before it, and
-- the rest follows the NUL.
pub record IsFirstRun (placeholder bytes before text rest : List ℕ) : Type 0 where
  pub is : bytes ≡ before ++ (text ++ nul ∷ rest)
  pub first : FindsNeedle bytes placeholder 0 (Some (length before))
  pub whole : length placeholder ≤ length text
  pub ends : (k : ℕ) → length placeholder ≤ k → k < length text → slice_index text k ≢ nul

-- a run: what stands before it, its text, and this with the prefix for each placeholder
pub record Run : Type 0 where
  pub before : List ℕ
  pub text : List ℕ
  pub made : List ℕ

-- what is made of a run, and behind it as many NULs as were saved
abbrev pub padded : Run → List ℕ
padded run = run.made ++ replicate (length run.text - length run.made) nul

-- the bytes have these runs, and what is made of the bytes has what is made of each in its place
abbrev pub Replaces : List ℕ → List ℕ → List Run → List ℕ → List ℕ → Type 0
Replaces placeholder prefix [] bytes made = (¬ HasRun placeholder bytes) × (made ≡ bytes)
Replaces placeholder prefix (run ∷ runs) bytes made =
    (rest : List ℕ) × (later : List ℕ) × IsFirstRun placeholder bytes run.before run.text rest
    × IsReplaced placeholder prefix run.text run.made × (made ≡ run.before ++ (padded run ++ nul ∷ later))
    × Replaces placeholder prefix runs rest later

-- in each run the prefix stands where a placeholder stood, with NULs for what that saves, and all else stays
abbrev pub IsReplacedBinary : List ℕ → List ℕ → List ℕ → List ℕ → Type 0
IsReplacedBinary placeholder prefix bytes made = (runs : List Run) × Replaces placeholder prefix runs bytes made
