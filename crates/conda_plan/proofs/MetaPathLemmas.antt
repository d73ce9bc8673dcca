-- The paths of meta files: which of them are one, and that none lies in the trash.
use Rattle.std.specs.Prelude.{◌≡◌, ℕ, ◌<◌, ◌+◌, ◌^◌, Bool, true, false, ◌||◌, ◌==◌, List, [], ◌∷◌, ◌++◌, codes, decimal, length, slice_index_or}
use Rattle.std.proofs.Common.{refl, ap, sym, ◌∙◌, subst, arith, inl, inr}
use Rattle.std.proofs.lemmas.Bool.{false≢true}
use Rattle.std.proofs.lemmas.Fmt.{decimal_injective}
use Rattle.std.proofs.lemmas.List.{append_cancel_left, append_cancel_right}
use Rattle.std.specs.List.{AllByRecursion}
use Rattle.conda_base.specs.Texts.{IsFreeOf}
use Rattle.conda_path.specs.Dists.{IsDist, is_bad_byte}
use Rattle.conda_path.specs.Paths.{is_control_or_space}
use Rattle.conda_paths.specs.Listings.{is_meta}
use Rattle.conda_meta.specs.Shows.{IsAside, IsTrashed, history_path, pending_path, prefix_path, revision_path}

-- ---- below conda-meta

pub history_is_meta : is_meta history_path ≡ true
history_is_meta = refl

pub prefix_is_meta : (dist : List ℕ) → is_meta (prefix_path dist) ≡ true
prefix_is_meta dist = refl

pub revision_is_meta : (n : ℕ) → is_meta (revision_path n) ≡ true
revision_is_meta n = refl

pub aside_is_meta : (path : List ℕ) → IsAside path → is_meta path ≡ true
aside_is_meta path (inl t) = ap is_meta t.1
aside_is_meta path (inr e) = ap is_meta e

-- ---- which are one

pub same_dist : (a b : List ℕ) → prefix_path a ≡ prefix_path b → a ≡ b
same_dist a b e = append_cancel_right a b (codes ".json") (append_cancel_left (codes "conda-meta/") (a ++ codes ".json") (b ++ codes ".json") e)

pub same_number : (n m : ℕ) → n < 2 ^ 64 → m < 2 ^ 64 → revision_path n ≡ revision_path m → n ≡ m
same_number n m p q e = decimal_injective n m p q (append_cancel_right (decimal n) (decimal m) (codes ".json")
    (append_cancel_left (codes "conda-meta/revisions/") (decimal n ++ codes ".json") (decimal m ++ codes ".json") e))

ended : (dist : List ℕ) → slice_index_or (dist ++ codes ".json") (length dist) 0 ≡ 46
ended [] = refl
ended (b ∷ rest) = ended rest

long : (dist : List ℕ) → length (dist ++ codes ".json") ≡ length dist + 5
long [] = refl
long (b ∷ rest) = omega (arith, long rest)

-- the text without `.json` is as long as this
front_of : (dist text : List ℕ) (n : ℕ) → dist ++ codes ".json" ≡ text → length text ≡ n + 5 → slice_index_or text n 0 ≡ 46
front_of dist text n e l =
    let k : length dist ≡ n = omega (arith, long dist, ap (λ (x : List ℕ). length x) e, l) in
    subst (λ i. slice_index_or text i 0 ≡ 46) k (sym (ap (λ x. slice_index_or x (length dist) 0) e) ∙ ended dist)

pub prefix_no_history : (dist : List ℕ) → prefix_path dist ≡ history_path → ⊥
prefix_no_history dist e =
    omega (arith, front_of dist (codes "history") 2 (append_cancel_left (codes "conda-meta/") (dist ++ codes ".json") (codes "history") e) refl)

prefix_no_pending : (dist : List ℕ) → prefix_path dist ≡ pending_path → ⊥
prefix_no_pending dist e =
    omega (arith, front_of dist (codes ".pending") 3 (append_cancel_left (codes "conda-meta/") (dist ++ codes ".json") (codes ".pending") e) refl)

-- ---- no slash in a dist

slash_free : (b : ℕ) → is_bad_byte b ≡ false → (b == 47) ≡ false
slash_free b h = by (is_control_or_space b) (b == 47) (b == 58) h
  where
    by : (u v w : Bool) → (u || v || w) ≡ false → v ≡ false
    by u false w e = refl
    by false true w e = e
    by true true w e = e

free : (dist : List ℕ) → AllByRecursion (λ b. is_bad_byte b ≡ false) dist → IsFreeOf 47 (dist ++ codes ".json")
free [] h = (refl, (refl, (refl, (refl, (refl, tt)))))
free (b ∷ rest) h = (slash_free b h.0, free rest h.1)

pub prefix_no_revision : (dist : List ℕ) (n : ℕ) → IsDist dist → prefix_path dist ≡ revision_path n → ⊥
prefix_no_revision dist n d e =
    let rest = decimal n ++ codes ".json" in
    let f = subst (λ t. IsFreeOf 47 t)
    (append_cancel_left (codes "conda-meta/") (dist ++ codes ".json") (codes "revisions/" ++ rest) e) (free dist d.bytes) in
    false≢true (sym f.1.1.1.1.1.1.1.1.1.0)

prefix_no_trash : (dist : List ℕ) → IsDist dist → IsTrashed (prefix_path dist) → ⊥
prefix_no_trash dist d t =
    let f = subst (λ x. IsFreeOf 47 x)
    (append_cancel_left (codes "conda-meta/") (dist ++ codes ".json") (codes ".trash/" ++ t.0) t.1) (free dist d.bytes) in
    false≢true (sym f.1.1.1.1.1.1.0)

pub prefix_not_aside : (dist : List ℕ) → IsDist dist → IsAside (prefix_path dist) → ⊥
prefix_not_aside dist d (inl t) = prefix_no_trash dist d t
prefix_not_aside dist d (inr e) = prefix_no_pending dist e

-- ---- the others differ where `conda-meta/` ends

abbrev after_meta : List ℕ → ℕ
after_meta path = slice_index_or path 11 0

pub revision_no_history : (n : ℕ) → revision_path n ≡ history_path → ⊥
revision_no_history n e = let h : 114 ≡ 104 = ap after_meta e in omega (arith, h)

pub revision_not_aside : (n : ℕ) → IsAside (revision_path n) → ⊥
revision_not_aside n (inl t) = let h : 114 ≡ 46 = ap after_meta t.1 in omega (arith, h)
revision_not_aside n (inr e) = let h : 114 ≡ 46 = ap after_meta e in omega (arith, h)

pub history_not_aside : IsAside history_path → ⊥
history_not_aside (inl t) = let h : 104 ≡ 46 = ap after_meta t.1 in omega (arith, h)
history_not_aside (inr e) = let h : 104 ≡ 46 = ap after_meta e in omega (arith, h)

pub trash_not_pending : IsTrashed pending_path → ⊥
trash_not_pending t = let h : 112 ≡ 116 = ap (λ x. slice_index_or x 12 0) t.1 in omega (arith, h)
