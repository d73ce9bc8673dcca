-- One question after another, up to the first that has a model.
use Rattle.std.proofs.Common.{◌≡◌, ℕ, zero, suc, ◌+◌, ◌<◌, ◌≤◌, ℤ, Bool, true, List, [], ◌∷◌, ◌++◌, length, take, get_or, refl, sym, ap, ◌∙◌, subst, inl, inr, arith}
use Rattle.std.proofs.lemmas.Bool.{and_from, and_parts}
use Rattle.std.proofs.lemmas.List.{take_all, take_more}
use Rattle.std.specs.List.{Contains, list_all}
use Rattle.conda_refute.specs.Literals.{clause_true, literal_true}
use Rattle.conda_encode.specs.Clauses.{on}
use Rattle.conda_encode.specs.Sides.{side_of}
use Rattle.conda_encode.proofs.Literals.{on_from}
use Rattle.conda_encode.proofs.Members.{In, from_contains, in_either, to_contains}
use Rattle.conda_resolve.specs.Asking.{AreWithin, IsFound, IsModelWith, IsOpen, NoneOpen}
use Rattle.conda_resolve.specs.Choice.{IsFirst}

first_at : {A : Type 0} (P : A → Type 0) (xs : List A) (i : ℕ) (x : A) → i < length xs → get_or xs i x ≡ x → ((y : A) → In y (take i xs) → P y → ⊥) → P x → IsFirst P xs x
first_at P [] i x lt e none p = absurd (omega arith)
first_at P (y ∷ ys) zero x lt e none p = inl (e, p)
first_at P (y ∷ ys) (suc i) x lt e none p = inr (none y (inl refl), first_at P ys i x (omega arith) e (λ z j. none z (inr j)) p)

pub found_at : (vars : ℕ) (cs : List (List ℤ)) (before after : List ℤ) (sides : List Bool) (candidates : List ℕ) (i n : ℕ) → i < length candidates → get_or candidates i n ≡ n →
    NoneOpen cs before (take i candidates) → IsOpen cs before n → after ≡ before ++ on n ∷ [] → AreWithin vars after → IsModelWith vars cs after sides →
    IsFound vars cs before after sides candidates n
found_at vars cs before after sides candidates i n lt e none may more within model = record {
  first = first_at (IsOpen cs before) candidates i n lt e (λ m j. none m (to_contains (take i candidates) m j)) may;
  more = more;
  within = within;
  model = model;
}

pub none_yet : (cs : List (List ℤ)) (assumed : List ℤ) (candidates : List ℕ) → NoneOpen cs assumed (take 0 candidates)
none_yet cs assumed candidates n c may = absurd (from_contains [] n c)

pub none_more : (cs : List (List ℤ)) (assumed : List ℤ) (candidates : List ℕ) (i n : ℕ) → i < length candidates → get_or candidates i n ≡ n → NoneOpen cs assumed (take i candidates) →
    (IsOpen cs assumed n → ⊥) → NoneOpen cs assumed (take (i + 1) candidates)
none_more cs assumed candidates i n lt e none here m c may =
    let P : List ℕ → Type 0 = λ ns. In m ns in
    let Q : ℕ → Type 0 = λ k. IsOpen cs assumed k in
    elim (in_either (take i candidates) (get_or candidates i n ∷ []) m (subst P (take_more candidates i n lt) (from_contains (take (i + 1) candidates) m c))) [
      | inl j ↦ none m (to_contains (take i candidates) m j) may
      | inr (inl f) ↦ here (subst Q (sym f ∙ e) may)
      | inr (inr j) ↦ absurd j
    ]

pub none_all : (cs : List (List ℤ)) (assumed : List ℤ) (candidates : List ℕ) (i : ℕ) → length candidates ≤ i → NoneOpen cs assumed (take i candidates) → NoneOpen cs assumed candidates
none_all cs assumed candidates i le none =
    let P : List ℕ → Type 0 = λ ns. NoneOpen cs assumed ns in
    subst P (take_all i candidates le) none

first_among : (P : ℕ → Type 0) (ns : List ℕ) (n : ℕ) → IsFirst P ns n → In n ns
first_among P [] n first = absurd first
first_among P (m ∷ ns) n (inl f) = inl f.0
first_among P (m ∷ ns) n (inr f) = inr (first_among P ns n f.1)

-- the first of these is one of them
pub first_in : (P : ℕ → Type 0) (ns : List ℕ) (n : ℕ) → IsFirst P ns n → Contains ns n
first_in P ns n first = to_contains ns n (first_among P ns n first)

-- ---- one literal more

pub all_last : {A : Type 0} (p : A → Bool) (xs : List A) (x : A) → list_all p xs ≡ true → p x ≡ true → list_all p (xs ++ x ∷ []) ≡ true
all_last p [] x every here = and_from (p x) true here refl
all_last p (y ∷ ys) x every here =
    let parts = and_parts (p y) (list_all p ys) every in
    and_from (p y) (list_all p (ys ++ x ∷ [])) parts.0 (all_last p ys x parts.1 here)

pub model_more : (vars : ℕ) (cs : List (List ℤ)) (assumed after : List ℤ) (sides : List Bool) (n : ℕ) → 1 ≤ n → IsModelWith vars cs assumed sides → after ≡ assumed ++ on n ∷ [] →
    side_of sides n ≡ true → IsModelWith vars cs after sides
model_more vars cs assumed after sides n low model e h = record {
  count = model.count;
  clauses_true = model.clauses_true;
  assumed_true = ap (list_all (literal_true (side_of sides))) e
      ∙ all_last (literal_true (side_of sides)) assumed (on n) model.assumed_true (on_from (side_of sides) n low h);
}

pub model_open : (vars : ℕ) (cs : List (List ℤ)) (assumed after : List ℤ) (sides : List Bool) (n : ℕ) → IsModelWith vars cs after sides → after ≡ assumed ++ on n ∷ [] → IsOpen cs assumed n
model_open vars cs assumed after sides n model e = (side_of sides, model.clauses_true, sym (ap (list_all (literal_true (side_of sides))) e) ∙ model.assumed_true)

pub denied_open : (cs : List (List ℤ)) (assumed after : List ℤ) (n : ℕ) → after ≡ assumed ++ on n ∷ [] →
    ((v : ℕ → Bool) → list_all (clause_true v) cs ≡ true → list_all (literal_true v) after ≡ true → ⊥) → IsOpen cs assumed n → ⊥
denied_open cs assumed after n e denied (v, model, h) = denied v model (ap (list_all (literal_true v)) e ∙ h)

-- ---- the same where a loop has kept what was there

pub get_any : (xs : List ℕ) (i d e : ℕ) → i < length xs → get_or xs i d ≡ get_or xs i e
get_any [] i d e lt = absurd (omega arith)
get_any (x ∷ xs) zero d e lt = refl
get_any (x ∷ xs) (suc i) d e lt = get_any xs i d e (omega arith)

pub at_contains : (xs : List ℕ) (i : ℕ) → i < length xs → Contains xs (get_or xs i 0)
at_contains xs i lt = (i, lt, get_any xs i (get_or xs i 0) 0 lt)

pub open_so : (cs' cs : List (List ℤ)) (before' before : List ℤ) (n : ℕ) → cs' ≡ cs → before' ≡ before → IsOpen cs' before' n → IsOpen cs before n
open_so cs' cs before' before n e f may =
    let P : List (List ℤ) → Type 0 = λ c. IsOpen c before n in
    let Q : List ℤ → Type 0 = λ b. IsOpen cs' b n in
    subst P e (subst Q f may)

model_so : (vars' vars : ℕ) (cs' cs : List (List ℤ)) (after : List ℤ) (sides : List Bool) → vars' ≡ vars → cs' ≡ cs → IsModelWith vars' cs' after sides → IsModelWith vars cs after sides
model_so vars' vars cs' cs after sides e f model =
    let P : List (List ℤ) → Type 0 = λ c. list_all (clause_true (side_of sides)) c ≡ true in
    record { count = model.count ∙ e; clauses_true = subst P f model.clauses_true; assumed_true = model.assumed_true }

pub found_so : (vars' vars : ℕ) (cs' cs : List (List ℤ)) (before' before after : List ℤ) (sides : List Bool) (candidates : List ℕ) (i : ℕ) → vars' ≡ vars → cs' ≡ cs → before' ≡ before →
    i < length candidates → NoneOpen cs before (take i candidates) → IsOpen cs' before' (get_or candidates i 0) → after ≡ before' ++ on (get_or candidates i 0) ∷ [] → AreWithin vars' after →
    IsModelWith vars' cs' after sides → IsFound vars cs before after sides candidates (get_or candidates i 0)
found_so vars' vars cs' cs before' before after sides candidates i e f g lt none may more within model =
    let n = get_or candidates i 0 in
    let P : ℕ → Type 0 = λ v. AreWithin v after in
    found_at vars cs before after sides candidates i n lt (get_any candidates i n 0 lt) none (open_so cs' cs before' before n f g may)
    (more ∙ ap (λ ls. ls ++ on n ∷ []) g) (subst P e within) (model_so vars' vars cs' cs after sides e f model)

pub none_so : (cs' cs : List (List ℤ)) (before' before : List ℤ) (candidates : List ℕ) (i : ℕ) → cs' ≡ cs → before' ≡ before → i < length candidates → NoneOpen cs before (take i candidates) →
    (IsOpen cs' before' (get_or candidates i 0) → ⊥) → NoneOpen cs before (take (i + 1) candidates)
none_so cs' cs before' before candidates i e f lt none here =
    let n = get_or candidates i 0 in
    none_more cs before candidates i n lt (get_any candidates i n 0 lt) none (λ may. here (open_so cs cs' before before' n (sym e) (sym f) may))
