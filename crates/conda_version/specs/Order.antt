-- The order of versions, and which version begins with which: conda's version.py.
use Rattle.std.specs.Prelude.{ℕ, Bool, true, ◌&&◌, if◌then◌else◌, List, [], ◌∷◌, nat_eq}
use Rattle.std.specs.Ordering.{ordering_then, nat_cmp, is_eq}
use Rattle.std.specs.Cmp.Lexicographic.{slice_cmp}
use Rattle.std.specs.List.{starts_with}
use Rattle.conda_base.specs.Texts.{is_empty}
use Rattle.std.specs.declared.cmp.Ordering.{Ordering}
use Rattle.std.specs.declared.cmp.Ordering.TheVariants.{Less, Equal, Greater}
use Rattle.conda_version.specs.declared.run.Run.{Run}
use Rattle.conda_version.specs.declared.run.Run.TheVariants.{Number, Post, Word}
use Rattle.conda_version.specs.Grammar.{meaning}
use Rattle.conda_version.specs.Versions.{Meaning}

-- A text is less than every number, and a number is less than `post`. Texts go by their bytes.
abbrev pub run_cmp : Run → Run → Ordering
run_cmp (Number m) (Number n) = nat_cmp m n
run_cmp (Number m) Post = Less
run_cmp (Number m) (Word y) = Greater
run_cmp Post (Number n) = Greater
run_cmp Post Post = Equal
run_cmp Post (Word y) = Greater
run_cmp (Word x) (Number n) = Less
run_cmp (Word x) Post = Less
run_cmp (Word x) (Word y) = slice_cmp nat_cmp x y

-- the order of two lists, the shorter one padded at its end
abbrev pub padded_cmp : {A : Type 0} → (A → A → Ordering) → A → List A → List A → Ordering
padded_cmp cmp pad [] [] = Equal
padded_cmp cmp pad [] (y ∷ ys) = ordering_then (cmp pad y) (padded_cmp cmp pad [] ys)
padded_cmp cmp pad (x ∷ xs) [] = ordering_then (cmp x pad) (padded_cmp cmp pad xs [])
padded_cmp cmp pad (x ∷ xs) (y ∷ ys) = ordering_then (cmp x y) (padded_cmp cmp pad xs ys)

-- a missing run counts as the number 0
abbrev pub runs_cmp : List Run → List Run → Ordering
runs_cmp = padded_cmp run_cmp (Number 0)

-- a missing component has no runs
abbrev pub components_cmp : List (List Run) → List (List Run) → Ordering
components_cmp = padded_cmp runs_cmp []

-- the components in front of the local part, of which the epoch is the first
abbrev pub epoch_and_main : Meaning → List (List Run)
epoch_and_main version = (Number version.epoch ∷ []) ∷ version.main

-- The order of versions: epoch and main part first. Local parts are compared where all else is equal.
abbrev pub meaning_cmp : Meaning → Meaning → Ordering
meaning_cmp v w = ordering_then (components_cmp (epoch_and_main v) (epoch_and_main w)) (components_cmp v.local w.local)

-- the order of two versions by their texts
abbrev pub version_cmp : List ℕ → List ℕ → Ordering
version_cmp v w = meaning_cmp (meaning v) (meaning w)

-- All elements of ys but the last are those of xs, which is padded at its end, and the last one begins that of xs.
abbrev pub all_begin : {A : Type 0} → (A → A → Bool) → (A → A → Bool) → A → List A → List A → Bool
all_begin same begins pad xs [] = true
all_begin same begins pad [] (y ∷ []) = begins pad y
all_begin same begins pad (x ∷ xs) (y ∷ []) = begins x y
all_begin same begins pad [] (y ∷ z ∷ ys) = same pad y && all_begin same begins pad [] (z ∷ ys)
all_begin same begins pad (x ∷ xs) (y ∷ z ∷ ys) = same x y && all_begin same begins pad xs (z ∷ ys)

-- equal runs, or two texts of which the first begins with the second
abbrev pub run_starts : Run → Run → Bool
run_starts (Word x) (Word y) = starts_with nat_eq x y
run_starts x y = is_eq (run_cmp x y)

abbrev pub runs_start : List Run → List Run → Bool
runs_start = all_begin (λ x y. is_eq (run_cmp x y)) run_starts (Number 0)

abbrev pub components_start : List (List Run) → List (List Run) → Bool
components_start = all_begin (λ x y. is_eq (runs_cmp x y)) runs_start []

-- Where y has a local part, epoch and main part are equal and the local parts decide. Else epoch and main part decide.
abbrev pub meaning_starts : Meaning → Meaning → Bool
meaning_starts x y =
    if is_empty y.local then components_start (epoch_and_main x) (epoch_and_main y)
    else is_eq (components_cmp (epoch_and_main x) (epoch_and_main y)) && components_start x.local y.local

-- the version x starts with y, by their texts
abbrev pub version_starts : List ℕ → List ℕ → Bool
version_starts x y = meaning_starts (meaning x) (meaning y)
