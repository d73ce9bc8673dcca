-- Versions that are equal in order start with the same versions.
use Rattle.std.proofs.Common.{◌≡◌, ℕ, Bool, true, false, ◌&&◌, List, [], ◌∷◌, refl, ap, ◌∙◌}
use Rattle.std.specs.Prelude.{nat_eq, if◌then◌else◌}
use Rattle.std.specs.Cmp.Lexicographic.{bytes_decides, slice_cmp, texts_ties}
use Rattle.std.specs.List.{starts_with}
use Rattle.std.specs.Ordering.{is_eq, nat_cmp, ordering_then}
use Rattle.std.specs.declared.cmp.Ordering.{Ordering}
use Rattle.std.specs.declared.cmp.Ordering.TheVariants.{Less, Equal, Greater}
use Rattle.std.proofs.lemmas.Cmp.{nat_cmp_total}
use Rattle.conda_base.specs.Texts.{is_empty}
use Rattle.conda_version.specs.declared.run.Run.{Run}
use Rattle.conda_version.specs.declared.run.Run.TheVariants.{Number, Post, Word}
use Rattle.conda_version.specs.Grammar.{meaning}
use Rattle.conda_version.specs.Order.{all_begin, components_cmp, components_start, epoch_and_main, meaning_cmp, meaning_starts, padded_cmp, run_cmp, run_starts, runs_cmp, runs_start, version_cmp, version_starts}
use Rattle.conda_version.specs.Versions.{Meaning}
use Rattle.conda_version.proofs.OrderLemmas.{components_total, run_total, runs_total}

then_first : (o p : Ordering) → ordering_then o p ≡ Equal → o ≡ Equal
then_first Less p h = cc
then_first Equal p h = refl
then_first Greater p h = cc

then_second : (o p : Ordering) → ordering_then o p ≡ Equal → p ≡ Equal
then_second Less p h = cc
then_second Equal p h = h
then_second Greater p h = cc

both_same : (a b c d : Bool) → a ≡ b → c ≡ d → (a && c) ≡ (b && d)
both_same a b c d e f = ap (λ k. k && c) e ∙ ap (λ k. b && k) f

-- ---- lists of which the elements are equal in order

module _ {A : Type 0} (cmp : A → A → Ordering) (same begins : A → A → Bool) (pad : A) where
  -- the tests don't tell apart what is equal in order
  record IsBlind : Type 0 where
    on_equals : (x y z : A) → cmp x y ≡ Equal → same x z ≡ same y z
    on_begins : (x y z : A) → cmp x y ≡ Equal → begins x z ≡ begins y z

  begin_alike : IsBlind → (xs ys zs : List A) → padded_cmp cmp pad xs ys ≡ Equal
      → all_begin same begins pad xs zs ≡ all_begin same begins pad ys zs
  begin_alike b [] [] zs h = refl
  begin_alike b [] (y ∷ ys) [] h = refl
  begin_alike b [] (y ∷ ys) (z ∷ []) h = b.on_begins pad y z (then_first (cmp pad y) (padded_cmp cmp pad [] ys) h)
  begin_alike b [] (y ∷ ys) (z ∷ next ∷ zs) h =
      both_same (same pad z) (same y z) (all_begin same begins pad [] (next ∷ zs)) (all_begin same begins pad ys (next ∷ zs))
      (b.on_equals pad y z (then_first (cmp pad y) (padded_cmp cmp pad [] ys) h))
      (begin_alike b [] ys (next ∷ zs) (then_second (cmp pad y) (padded_cmp cmp pad [] ys) h))
  begin_alike b (x ∷ xs) [] [] h = refl
  begin_alike b (x ∷ xs) [] (z ∷ []) h = b.on_begins x pad z (then_first (cmp x pad) (padded_cmp cmp pad xs []) h)
  begin_alike b (x ∷ xs) [] (z ∷ next ∷ zs) h =
      both_same (same x z) (same pad z) (all_begin same begins pad xs (next ∷ zs)) (all_begin same begins pad [] (next ∷ zs))
      (b.on_equals x pad z (then_first (cmp x pad) (padded_cmp cmp pad xs []) h))
      (begin_alike b xs [] (next ∷ zs) (then_second (cmp x pad) (padded_cmp cmp pad xs []) h))
  begin_alike b (x ∷ xs) (y ∷ ys) [] h = refl
  begin_alike b (x ∷ xs) (y ∷ ys) (z ∷ []) h = b.on_begins x y z (then_first (cmp x y) (padded_cmp cmp pad xs ys) h)
  begin_alike b (x ∷ xs) (y ∷ ys) (z ∷ next ∷ zs) h =
      both_same (same x z) (same y z) (all_begin same begins pad xs (next ∷ zs)) (all_begin same begins pad ys (next ∷ zs))
      (b.on_equals x y z (then_first (cmp x y) (padded_cmp cmp pad xs ys) h))
      (begin_alike b xs ys (next ∷ zs) (then_second (cmp x y) (padded_cmp cmp pad xs ys) h))

-- ---- runs and components

same_text : (x y : List ℕ) → slice_cmp nat_cmp x y ≡ Equal → x ≡ y
same_text x y h = (bytes_decides x y).0 (texts_ties x y ∙ ap is_eq h)

run_begins : (x y z : Run) → run_cmp x y ≡ Equal → run_starts x z ≡ run_starts y z
run_begins (Word x) (Word y) (Word z) h = ap (λ t. starts_with nat_eq t z) (same_text x y h)
run_begins (Word x) (Word y) (Number n) h = refl
run_begins (Word x) (Word y) Post h = refl
run_begins (Word x) (Number n) z h = cc
run_begins (Word x) Post z h = cc
run_begins (Number m) (Number n) (Number k) h = ap is_eq (nat_cmp_total.congr m n k h)
run_begins (Number m) (Number n) Post h = refl
run_begins (Number m) (Number n) (Word z) h = refl
run_begins (Number m) Post z h = cc
run_begins (Number m) (Word y) z h = cc
run_begins Post Post z h = refl
run_begins Post (Number n) z h = cc
run_begins Post (Word y) z h = cc

runs_begin : (xs ys zs : List Run) → runs_cmp xs ys ≡ Equal → runs_start xs zs ≡ runs_start ys zs
runs_begin =
    begin_alike run_cmp (λ x y. is_eq (run_cmp x y)) run_starts (Number 0)
    (record { on_equals = λ x y z h. ap is_eq (run_total.congr x y z h); on_begins = run_begins })

components_begin : (xs ys zs : List (List Run)) → components_cmp xs ys ≡ Equal → components_start xs zs ≡ components_start ys zs
components_begin =
    begin_alike runs_cmp (λ x y. is_eq (runs_cmp x y)) runs_start []
    (record { on_equals = λ x y z h. ap is_eq (runs_total.congr x y z h); on_begins = runs_begin })

-- ---- versions

meaning_begins : (x y z : Meaning) → meaning_cmp x y ≡ Equal → meaning_starts x z ≡ meaning_starts y z
meaning_begins x y z h = by_local (is_empty z.local)
  where
    front : components_cmp (epoch_and_main x) (epoch_and_main y) ≡ Equal
    front = then_first (components_cmp (epoch_and_main x) (epoch_and_main y)) (components_cmp x.local y.local) h

    back : components_cmp x.local y.local ≡ Equal
    back = then_second (components_cmp (epoch_and_main x) (epoch_and_main y)) (components_cmp x.local y.local) h

    by_local : (none : Bool)
        → (if none then components_start (epoch_and_main x) (epoch_and_main z)
        else is_eq (components_cmp (epoch_and_main x) (epoch_and_main z)) && components_start x.local z.local)
        ≡ (if none then components_start (epoch_and_main y) (epoch_and_main z)
        else is_eq (components_cmp (epoch_and_main y) (epoch_and_main z)) && components_start y.local z.local)
    by_local true = components_begin (epoch_and_main x) (epoch_and_main y) (epoch_and_main z) front
    by_local false =
        both_same (is_eq (components_cmp (epoch_and_main x) (epoch_and_main z)))
        (is_eq (components_cmp (epoch_and_main y) (epoch_and_main z)))
        (components_start x.local z.local) (components_start y.local z.local)
        (ap is_eq (components_total.congr (epoch_and_main x) (epoch_and_main y) (epoch_and_main z) front))
        (components_begin x.local y.local z.local back)

pub version_begins : (x y z : List ℕ) → version_cmp x y ≡ Equal → version_starts x z ≡ version_starts y z
version_begins x y z h = meaning_begins (meaning x) (meaning y) (meaning z) h
