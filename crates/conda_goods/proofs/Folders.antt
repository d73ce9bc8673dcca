-- Paths and those that they lie below.
use Rattle.std.specs.Prelude.{◌≡◌, ◌↔◌, ℕ, Bool, true, false, List, [], ◌∷◌, ◌++◌, None, Some}
use Rattle.std.proofs.Common.{refl, ap, sym, ◌∙◌, inl, inr, ◌⊎◌, append_assoc}
use Rattle.std.proofs.lemmas.Bool.{eq-eqb, true≢false}
use Rattle.std.proofs.lemmas.Cmp.{nat_cmp_total, tied_itself}
use Rattle.std.specs.Cmp.Lexicographic.{slice_cmp}
use Rattle.std.specs.Ordering.{nat_cmp, ordering_then}
use Rattle.std.specs.declared.cmp.Ordering.TheVariants.{Less}
use Rattle.conda_base.specs.Signs.{slash}
use Rattle.conda_base.specs.Texts.{IsFreeOf, cut_last}
use Rattle.conda_base.proofs.CutLemmas.{last_law, no_last_law}
use Rattle.conda_path.specs.Paths.{IsInside}

pub free_has_none : (c : ℕ) (text folder rest : List ℕ) → IsFreeOf c text → text ≡ folder ++ c ∷ rest → ⊥
free_has_none c [] [] rest h e = cc
free_has_none c [] (f ∷ folder) rest h e = cc
free_has_none c (b ∷ text) [] rest h e =
    let same : b ≡ c = cc in true≢false (sym (eq-eqb b c same) ∙ h.0)
free_has_none c (b ∷ text) (f ∷ folder) rest h e = free_has_none c text folder rest h.1 (cc)

-- a folder of a text that is cut at its last slash is the front half, or a folder of that
pub parent_cases : (c : ℕ) (before behind folder rest : List ℕ) → IsFreeOf c behind → before ++ c ∷ behind ≡ folder ++ c ∷ rest → (before ≡ folder) ⊎ ((more : List ℕ) × (before ≡ folder ++ c ∷ more))
parent_cases c [] behind [] rest h e = inl refl
parent_cases c [] behind (f ∷ folder) rest h e =
    let tail : behind ≡ folder ++ c ∷ rest = cc in absurd (free_has_none c behind folder rest h tail)
parent_cases c (b ∷ before) behind [] rest h e =
    let same : b ≡ c = cc in inr (before, ap (λ z. z ∷ before) same)
parent_cases c (b ∷ before) behind (f ∷ folder) rest h e =
    let head : b ≡ f = cc in
    let tail : before ++ c ∷ behind ≡ folder ++ c ∷ rest = cc in
    by head (parent_cases c before behind folder rest h tail)
  where
    by : b ≡ f → (before ≡ folder) ⊎ ((more : List ℕ) × (before ≡ folder ++ c ∷ more)) → (b ∷ before ≡ f ∷ folder) ⊎ ((more : List ℕ) × (b ∷ before ≡ f ∷ (folder ++ c ∷ more)))
    by same (inl g) = inl (cc)
    by same (inr g) = inr (g.0, let tail : before ≡ folder ++ c ∷ g.0 = g.1 in cc)

-- what lies below a path lies in the folders of that
pub below_folder : (path front folder behind : List ℕ) → path ≡ front ++ slash ∷ behind → IsInside front folder → IsInside path folder
below_folder path front folder behind e (inl same) = inr (behind, e ∙ ap (λ z. z ++ slash ∷ behind) same)
below_folder path front folder behind e (inr below) =
    inr (below.0 ++ slash ∷ behind, e ∙ ap (λ z. z ++ slash ∷ behind) below.1 ∙ append_assoc folder (slash ∷ below.0) (slash ∷ behind))

-- ---- a path with a test that passes, or one that it lies below

abbrev pub Meets : (List ℕ → Bool) → List ℕ → Type 0
Meets test path = (folder : List ℕ) × IsInside path folder × (test folder ≡ true)

pub meets_here : (test : List ℕ → Bool) (path : List ℕ) → test path ≡ true → (true ≡ true) ↔ Meets test path
meets_here test path h = (λ e. (path, inl refl, h), λ m. refl)

pub meets_none : (test : List ℕ → Bool) (path : List ℕ) → test path ≡ false → cut_last slash path ≡ None → (false ≡ true) ↔ Meets test path
meets_none test path h cut = (λ e. absurd (true≢false (sym e)), λ m. absurd (by m.0 m.2 m.1))
  where
    by : (folder : List ℕ) → test folder ≡ true → IsInside path folder → ⊥
    by folder t (inl same) = true≢false (sym t ∙ ap test (sym same) ∙ h)
    by folder t (inr below) = free_has_none slash path folder below.0 ((no_last_law slash path).0 cut) below.1

pub meets_folder : (test : List ℕ → Bool) (path front behind : List ℕ) (found : Bool) → test path ≡ false → cut_last slash path ≡ Some (front, behind) → (found ≡ true) ↔ Meets test front → (found ≡ true) ↔ Meets test path
meets_folder test path front behind found h cut says =
    (λ e. let m = says.0 e in (m.0, below_folder path front m.0 behind halves.0 m.1, m.2), λ m. by m.0 m.2 m.1)
  where
    halves : (path ≡ front ++ slash ∷ behind) × IsFreeOf slash behind
    halves = (last_law slash path front behind).0 cut

    up : (folder : List ℕ) → test folder ≡ true → (front ≡ folder) ⊎ ((more : List ℕ) × (front ≡ folder ++ slash ∷ more)) → found ≡ true
    up folder t (inl same) = says.1 (folder, inl same, t)
    up folder t (inr more) = says.1 (folder, inr more, t)

    by : (folder : List ℕ) → test folder ≡ true → IsInside path folder → found ≡ true
    by folder t (inl same) = absurd (true≢false (sym t ∙ ap test (sym same) ∙ h))
    by folder t (inr below) = up folder t (parent_cases slash front behind folder below.0 halves.1 (sym halves.0 ∙ below.1))

-- of two folders of one path one lies in the other
pub nested : (one more other rest : List ℕ) → one ++ slash ∷ more ≡ other ++ slash ∷ rest → IsInside one other ⊎ IsInside other one
nested [] more [] rest e = inl (inl refl)
nested [] more (y ∷ other) rest e =
    let same : slash ≡ y = cc in inr (inr (other, ap (λ z. z ∷ other) (sym same)))
nested (x ∷ one) more [] rest e =
    let same : x ≡ slash = cc in inl (inr (one, ap (λ z. z ∷ one) same))
nested (x ∷ one) more (y ∷ other) rest e =
    let head : x ≡ y = cc in
    let tail : one ++ slash ∷ more ≡ other ++ slash ∷ rest = cc in
    by head (nested one more other rest tail)
  where
    longer : (a b : ℕ) (xs ys : List ℕ) → a ≡ b → IsInside xs ys → IsInside (a ∷ xs) (b ∷ ys)
    longer a b xs ys s (inl g) = inl (cc)
    longer a b xs ys s (inr g) = inr (g.0, let tail : xs ≡ ys ++ slash ∷ g.0 = g.1 in cc)

    by : x ≡ y → IsInside one other ⊎ IsInside other one → IsInside (x ∷ one) (y ∷ other) ⊎ IsInside (y ∷ other) (x ∷ one)
    by s (inl g) = inl (longer x y one other s g)
    by s (inr g) = inr (longer y x other one (sym s) g)

-- a folder comes before what lies below it
pub folder_less : (folder rest : List ℕ) → slice_cmp nat_cmp folder (folder ++ slash ∷ rest) ≡ Less
folder_less [] rest = refl
folder_less (x ∷ folder) rest =
    ap (λ o. ordering_then o (slice_cmp nat_cmp folder (folder ++ slash ∷ rest))) (tied_itself nat_cmp_total x) ∙ folder_less folder rest
