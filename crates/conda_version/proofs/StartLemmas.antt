-- Which list starts with which, by its first element and the rest.
use Rattle.std.proofs.Common.{◌≡◌, Bool, true, ◌&&◌, List, [], ◌∷◌, drop, refl, ap}
use Rattle.std.specs.Prelude.{slice_index_or}
use Rattle.std.specs.Ordering.{is_eq}
use Rattle.conda_version.specs.declared.run.Run.{Run}
use Rattle.conda_version.specs.declared.run.Run.TheVariants.{Number}
use Rattle.conda_version.specs.Order.{all_begin, components_start, run_cmp, run_starts, runs_cmp, runs_start}

abbrev begins_at : {A : Type 0} → (A → A → Bool) → (A → A → Bool) → A → List A → List A → Bool
begins_at same begins pad xs [] = true
begins_at same begins pad xs (y ∷ []) = begins (slice_index_or xs 0 pad) y
begins_at same begins pad xs (y ∷ z ∷ ys) = same (slice_index_or xs 0 pad) y && begins_at same begins pad (drop 1 xs) (z ∷ ys)

begins_is : {A : Type 0} (same begins : A → A → Bool) (pad : A) (xs ys : List A)
    → begins_at same begins pad xs ys ≡ all_begin same begins pad xs ys
begins_is same begins pad [] [] = refl
begins_is same begins pad (x ∷ xs) [] = refl
begins_is same begins pad [] (y ∷ []) = refl
begins_is same begins pad (x ∷ xs) (y ∷ []) = refl
begins_is same begins pad [] (y ∷ z ∷ ys) = ap (λ k. same pad y && k) (begins_is same begins pad [] (z ∷ ys))
begins_is same begins pad (x ∷ xs) (y ∷ z ∷ ys) = ap (λ k. same x y && k) (begins_is same begins pad xs (z ∷ ys))

abbrev pub runs_begin : List Run → List Run → Bool
runs_begin = begins_at (λ x y. is_eq (run_cmp x y)) run_starts (Number 0)

pub runs_begin_is : (xs ys : List Run) → runs_begin xs ys ≡ runs_start xs ys
runs_begin_is = begins_is (λ x y. is_eq (run_cmp x y)) run_starts (Number 0)

abbrev pub components_begin : List (List Run) → List (List Run) → Bool
components_begin = begins_at (λ x y. is_eq (runs_cmp x y)) runs_start []

pub components_begin_is : (xs ys : List (List Run)) → components_begin xs ys ≡ components_start xs ys
components_begin_is = begins_is (λ x y. is_eq (runs_cmp x y)) runs_start []
