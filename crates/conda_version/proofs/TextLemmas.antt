-- Lemmas on the text of a version.
use Rattle.std.proofs.Common.{◌≡◌, ◌≢◌, ◌==◌, ◌≤◌, ℕ, Bool, true, false, cond, length, List, [], ◌∷◌, ◌++◌, reverse, refl, sym, ap, ◌∙◌, arith}
use Rattle.std.proofs.lemmas.Bool.Decides.{nat_tests}
use Rattle.std.proofs.lemmas.Grind.{reverse_onto}
use Rattle.std.proofs.lemmas.List.{reverse-reverse, reverse-append}
use Rattle.std.proofs.Common.{true≢false}
use Rattle.std.proofs.lemmas.Bool.{and_from, and_parts}
use Rattle.std.proofs.lemmas.List.Folds.{list_all-append}
use Rattle.std.specs.Prelude.{◌&&◌, ◌-◌, ◌<◌, suc, slice_get}
use Rattle.std.specs.List.{list_all}
use Rattle.std.specs.Option.{option_map_or}
use Rattle.conda_base.specs.Signs.{space}
use Rattle.conda_base.specs.Texts.{begins_with, ends_with, is_byte}
use Rattle.conda_version.specs.Text.{without_front, trimmed}

-- ---- how texts end

pub ends_step : (c x y : ℕ) (xs : List ℕ) → ends_with c (x ∷ y ∷ xs) ≡ ends_with c (y ∷ xs)
ends_step c x y xs =
    let last : length (x ∷ y ∷ xs) - 1 ≡ suc (length (y ∷ xs) - 1) = omega arith in
    ap (λ i. option_map_or (λ b. b == c) (slice_get (x ∷ y ∷ xs) i) false) last

pub ends_back : (c : ℕ) (xs ys : List ℕ) → 0 < length ys → ends_with c (xs ++ ys) ≡ ends_with c ys
ends_back c [] ys h = refl
ends_back c (x ∷ []) [] h = absurd (omega arith)
ends_back c (x ∷ []) (y ∷ ys) h = ends_step c x y ys
ends_back c (x ∷ y ∷ xs) ys h = ends_step c x y (xs ++ ys) ∙ ends_back c (y ∷ xs) ys h

-- ---- spaces in front and at the end

front_at : (b : ℕ) (bs : List ℕ) → b ≢ 32 → without_front (b ∷ bs) ≡ b ∷ bs
front_at b bs h = grind (arith, nat_tests)

-- nothing is cut where no space stands in front
pub front_stops : (bs : List ℕ) → ((rest : List ℕ) → bs ≢ 32 ∷ rest) → without_front bs ≡ bs
front_stops [] h = refl
front_stops (b ∷ bs) h = front_at b bs (λ e. h bs (ap (λ c. c ∷ bs) e))

-- nothing is cut where no space stands at the end
pub back_stops : (bs : List ℕ) → ((front : List ℕ) → bs ≢ front ++ (32 ∷ [])) → without_front (reverse bs) ≡ reverse bs
back_stops bs h =
    front_stops (reverse bs) (λ rest e. h (reverse rest) (sym (reverse-reverse bs) ∙ ap reverse e ∙ reverse_onto rest 32 []))

-- ---- what is trimmed

shorter : (xs : List ℕ) → length (without_front xs) ≤ length xs
shorter [] = omega arith
shorter (x ∷ xs) = grind (arith, nat_tests, shorter xs)

-- what is cut are spaces
front_of_all : (xs : List ℕ) → (front : List ℕ) × (xs ≡ front ++ without_front xs) × (list_all (is_byte space) front ≡ true)
front_of_all [] = ([], refl, refl)
front_of_all (x ∷ xs) = front_of_more (x == space) refl (front_of_all xs)
  where
    front_of_more : (k : Bool) → (x == space) ≡ k
        → (front : List ℕ) × (xs ≡ front ++ without_front xs) × (list_all (is_byte space) front ≡ true)
        → (front : List ℕ) × (x ∷ xs ≡ front ++ without_front (x ∷ xs)) × (list_all (is_byte space) front ≡ true)
    front_of_more true e more = (
      x ∷ more.0,
      ap (λ ys. x ∷ ys) more.1 ∙ ap (λ k. x ∷ more.0 ++ cond k (without_front xs) (x ∷ xs)) (sym e),
      and_from (x == space) (list_all (is_byte space) more.0) e more.2,
    )
    front_of_more false e more = ([], ap (λ k. cond k (without_front xs) (x ∷ xs)) (sym e), refl)

cut_again : (xs : List ℕ) → without_front (without_front xs) ≡ without_front xs
cut_again [] = refl
cut_again (x ∷ xs) = cut_more x xs (x == 32) refl (cut_again xs)
  where
    cut_more : (x : ℕ) (xs : List ℕ) (k : Bool) → (x == 32) ≡ k → without_front (without_front xs) ≡ without_front xs
        → without_front (without_front (x ∷ xs)) ≡ without_front (x ∷ xs)
    cut_more x xs true e h =
        let cut : without_front (x ∷ xs) ≡ without_front xs = ap (λ k. cond k (without_front xs) (x ∷ xs)) e in
        ap without_front cut ∙ h ∙ sym cut
    cut_more x xs false e h = ap without_front (ap (λ k. cond k (without_front xs) (x ∷ xs)) e)

clean_front : (xs ys : List ℕ) → without_front (xs ++ ys) ≡ xs ++ ys → without_front xs ≡ xs
clean_front [] ys h = refl
clean_front (x ∷ xs) ys h = clean_more x xs ys (x == 32) refl h
  where
    clean_more : (x : ℕ) (xs ys : List ℕ) (k : Bool) → (x == 32) ≡ k → without_front (x ∷ xs ++ ys) ≡ x ∷ xs ++ ys
        → without_front (x ∷ xs) ≡ x ∷ xs
    clean_more x xs ys true e h =
        let cut : without_front (xs ++ ys) ≡ x ∷ (xs ++ ys) = sym (ap (λ k. cond k (without_front (xs ++ ys)) (x ∷ (xs ++ ys))) e) ∙ h in
        absurd (omega (arith, ap length cut, shorter (xs ++ ys)))
    clean_more x xs ys false e h = ap (λ k. cond k (without_front xs) (x ∷ xs)) e

pub trimmed_twice : (text : List ℕ) → trimmed (trimmed text) ≡ trimmed text
trimmed_twice text =
    let start : List ℕ = without_front text in
    let back : List ℕ = without_front (reverse start) in
    let cut = front_of_all (reverse start) in
    let whole : start ≡ reverse back ++ reverse cut.0 = sym (reverse-reverse start) ∙ ap reverse cut.1 ∙ reverse-append cut.0 back in
    let clean : without_front (reverse back ++ reverse cut.0) ≡ reverse back ++ reverse cut.0 =
    ap without_front (sym whole) ∙ cut_again text ∙ whole in
    ap (λ t. reverse (without_front (reverse t))) (clean_front (reverse back) (reverse cut.0) clean)
    ∙ ap (λ t. reverse (without_front t)) (reverse-reverse back)
    ∙ ap reverse (cut_again (reverse start))

all_reversed : (xs : List ℕ) → list_all (is_byte space) xs ≡ true → list_all (is_byte space) (reverse xs) ≡ true
all_reversed [] h = refl
all_reversed (x ∷ xs) h =
    let parts = and_parts (x == space) (list_all (is_byte space) xs) h in
    ap (list_all (is_byte space)) (reverse-append (x ∷ []) xs) ∙ list_all-append (is_byte space) (reverse xs) (x ∷ [])
    ∙ and_from (list_all (is_byte space) (reverse xs)) ((x == space) && true) (all_reversed xs parts.1)
    (and_from (x == space) true parts.0 refl)

-- a text is what is trimmed, with spaces around it
pub trimmed_whole : (text : List ℕ)
    → (front : List ℕ) × (back : List ℕ) × (text ≡ front ++ (trimmed text ++ back)) × (list_all (is_byte space) (front ++ back) ≡ true)
trimmed_whole text =
    let start : List ℕ = without_front text in
    let first = front_of_all text in
    let last = front_of_all (reverse start) in
    let whole : start ≡ trimmed text ++ reverse last.0 =
    sym (reverse-reverse start) ∙ ap reverse last.1 ∙ reverse-append last.0 (without_front (reverse start)) in
    let spaces = list_all-append (is_byte space) first.0 (reverse last.0)
    ∙ and_from (list_all (is_byte space) first.0) (list_all (is_byte space) (reverse last.0)) first.2 (all_reversed last.0 last.2) in
    (first.0, reverse last.0, first.1 ∙ ap (λ rest. first.0 ++ rest) whole, spaces)

-- nothing is trimmed of a text that neither begins nor ends with a space
pub trimmed_bare : (text : List ℕ) → begins_with space text ≡ false → ends_with space text ≡ false → trimmed text ≡ text
trimmed_bare text begins ends =
    let front = front_stops text (λ rest e. true≢false (sym (ap (begins_with space) e) ∙ begins)) in
    let back = back_stops text (λ front e. true≢false (sym (ap (ends_with space) e ∙ ends_push front) ∙ ends)) in
    ap (λ t. reverse (without_front (reverse t))) front ∙ ap reverse back ∙ reverse-reverse text
  where
    ends_push : (front : List ℕ) → ends_with space (front ++ space ∷ []) ≡ true
    ends_push front = ends_back space front (space ∷ []) (omega arith)
