-- Both sides of each variable: what is decided, and the steps that deny it.
use Rattle.std.proofs.Common.{◌≡◌, ℕ, ◌+◌, ◌-◌, ◌≤◌, ◌<◌, ◌==◌, ℤ, pos, negsuc, neg_ℤ, nat_le, zero, suc, Bool, true, false, not, ◌||◌, ◌⊎◌, inl, inr, List, [], ◌∷◌, ◌++◌, length, map, slice_get, Option, Some, None, unwrap_or, refl, sym, ap, ◌∙◌, arith, true≢false, int_eq}
use Rattle.std.proofs.Math.IntN.{neg_ℤ-neg_ℤ}
use Rattle.std.specs.Option.{IfNone, is_some}
use Rattle.std.specs.List.{list_all, list_any}
use Rattle.std.proofs.lemmas.Bool.{and_parts, and_from, or_cases, or_parts, or_left, or_right, false_from_ne_true, not_from_false, not-false, ne_eqb, leb-true, le-leb}
use Rattle.std.proofs.lemmas.Bool.Decides.{Decides-int_eq}
use Rattle.std.proofs.lemmas.List.{length-append}
use Rattle.std.proofs.lemmas.List.Folds.{list_all-append, list_any-append}
use Rattle.std.proofs.lemmas.Option.{slice_get_within}
use Rattle.conda_refute.specs.Literals.{clause_true, has, literal_true}
use Rattle.conda_refute.specs.Refutation.{by_clause, by_left, clauses_of, follows, has_opposites, hints_end, named, not_false}
use Rattle.conda_refute.specs.declared.log.Log.{Log}
use Rattle.conda_refute.specs.declared.log.Step.{Step}
use Rattle.conda_sat.specs.Answers.{AreDecided, AreSidesOf, EndsWith, Extends, IsDenied, denies, is_within, literal_at, opposites, side_of}
use Rattle.conda_sat.proofs.SidesLemmas.{all_at, denied_by, get_true}

-- ---- lists of literals

pub has_here : (x : ℤ) (xs : List ℤ) → has (x ∷ xs) x ≡ true
has_here x xs = or_left (int_eq x x) (has xs x) ((Decides-int_eq x x).1 refl)

pub has_there : (x : ℤ) (xs : List ℤ) (l : ℤ) → has xs l ≡ true → has (x ∷ xs) l ≡ true
has_there x xs l h = or_right (int_eq l x) (has xs l) h

pub has-append : (xs ys : List ℤ) (l : ℤ) → has (xs ++ ys) l ≡ (has xs l || has ys l)
has-append xs ys l = list_any-append (λ q. int_eq l q) xs ys

same_bool : (a b : Bool) → (a ≡ true → b ≡ true) → (b ≡ true → a ≡ true) → a ≡ b
same_bool true b f g = sym (f refl)
same_bool false true f g = absurd (true≢false (sym (g refl)))
same_bool false false f g = refl

-- a literal is the opposite of another exactly where the other is its opposite
flipped : (l x : ℤ) → int_eq l (neg_ℤ x) ≡ int_eq (neg_ℤ l) x
flipped l x =
    same_bool (int_eq l (neg_ℤ x)) (int_eq (neg_ℤ l) x)
    (λ h. (Decides-int_eq (neg_ℤ l) x).1 (ap neg_ℤ ((Decides-int_eq l (neg_ℤ x)).0 h) ∙ neg_ℤ-neg_ℤ x))
    (λ h. (Decides-int_eq l (neg_ℤ x)).1 (sym (neg_ℤ-neg_ℤ l) ∙ ap neg_ℤ ((Decides-int_eq (neg_ℤ l) x).0 h)))

pub has-opposites : (xs : List ℤ) (l : ℤ) → has (opposites xs) l ≡ has xs (neg_ℤ l)
has-opposites [] l = refl
has-opposites (x ∷ xs) l = rw (flipped l x, has-opposites xs l)

-- a list on each of whose literals a test holds
all_from : (p : ℤ → Bool) (xs : List ℤ) → ((l : ℤ) → has xs l ≡ true → p l ≡ true) → list_all p xs ≡ true
all_from p [] f = refl
all_from p (x ∷ xs) f = and_from (p x) (list_all p xs) (f x (has_here x xs)) (all_from p xs (λ l h. f l (has_there x xs l h)))

none_of : (p : ℤ → Bool) (xs : List ℤ) → list_any p xs ≡ false → (l : ℤ) → has xs l ≡ true → p l ≡ false
none_of p [] e l h = absurd (true≢false (sym h))
none_of p (x ∷ xs) e l h =
    let parts = or_parts (p x) (list_any p xs) e in
    elim (or_cases (int_eq l x) (has xs l) h) [
      | inl k ↦ ap p ((Decides-int_eq l x).0 k) ∙ parts.0
      | inr k ↦ none_of p xs parts.1 l k
    ]

no_one : (p : ℤ → Bool) (xs : List ℤ) → ((l : ℤ) → has xs l ≡ true → p l ≡ false) → list_any p xs ≡ false
no_one p [] f = refl
no_one p (x ∷ xs) f = rw (f x (has_here x xs)) (no_one p xs (λ l h. f l (has_there x xs l h)))

-- ---- no two opposites

abbrev Apart : List ℤ → Type 0
Apart xs = (l : ℤ) → has xs l ≡ true → has xs (neg_ℤ l) ≡ false

apart_from : (xs : List ℤ) → has_opposites xs ≡ false → Apart xs
apart_from xs e l h = none_of (λ q. has xs (neg_ℤ q)) xs e l h

apart_to : (xs : List ℤ) → Apart xs → has_opposites xs ≡ false
apart_to xs f = no_one (λ q. has xs (neg_ℤ q)) xs f

opposites_apart : (xs : List ℤ) → has_opposites xs ≡ false → has_opposites (opposites xs) ≡ false
opposites_apart xs e =
    apart_to (opposites xs) (λ l h. has-opposites xs (neg_ℤ l) ∙ apart_from xs e (neg_ℤ l) (sym (has-opposites xs l) ∙ h))

-- a literal of a variable isn't its own opposite
not_own : (vars : ℕ) (l : ℤ) → is_within vars l ≡ true → neg_ℤ l ≡ l → ⊥
not_own vars (pos zero) w e = true≢false (sym w)
not_own vars (pos (suc n)) w e = cc
not_own vars (negsuc n) w e = cc

only_one : (l q : ℤ) → has (l ∷ []) q ≡ true → q ≡ l
only_one l q h = elim (or_cases (int_eq q l) false h) [ inl e ↦ (Decides-int_eq q l).0 e | inr e ↦ absurd (true≢false (sym e)) ]

not_one : (l q : ℤ) → (q ≡ l → ⊥) → has (l ∷ []) q ≡ false
not_one l q f = false_from_ne_true (has (l ∷ []) q) (λ h. f (only_one l q h))

or_false : (a b : Bool) → a ≡ false → b ≡ false → (a || b) ≡ false
or_false a b e f = rw (e, f) refl

apart-push : (vars : ℕ) (xs : List ℤ) (l : ℤ) → Apart xs → is_within vars l ≡ true → has xs (neg_ℤ l) ≡ false → Apart (xs ++ l ∷ [])
apart-push vars xs l apart w free q h =
    has-append xs (l ∷ []) (neg_ℤ q) ∙
    elim (or_cases (has xs q) (has (l ∷ []) q) (sym (has-append xs (l ∷ []) q) ∙ h)) [
      | inl k ↦ or_false (has xs (neg_ℤ q)) (has (l ∷ []) (neg_ℤ q)) (apart q k)
          (not_one l (neg_ℤ q) (λ e. true≢false (sym k ∙ ap (has xs) (sym (neg_ℤ-neg_ℤ q) ∙ ap neg_ℤ e) ∙ free)))
      | inr k ↦
          let same : q ≡ l = only_one l q k in
          or_false (has xs (neg_ℤ q)) (has (l ∷ []) (neg_ℤ q)) (ap (λ x. has xs (neg_ℤ x)) same ∙ free)
          (not_one l (neg_ℤ q) (λ e. not_own vars l w (sym (ap neg_ℤ same) ∙ e)))
    ]

-- ---- one more decided literal

below-push : (xs : List ℤ) (l : ℤ) (next : ℕ) → ((n : ℕ) → 1 ≤ n → n < next → (has xs (pos n) || has xs (neg_ℤ (pos n))) ≡ true) → (l ≡ pos next) ⊎ (l ≡ neg_ℤ (pos next)) →
    (n : ℕ) → 1 ≤ n → n < next + 1 → (n < next) ⊎ (n ≡ next) → (has (xs ++ l ∷ []) (pos n) || has (xs ++ l ∷ []) (neg_ℤ (pos n))) ≡ true
below-push xs l next below own n low high (inl k) =
    elim (or_cases (has xs (pos n)) (has xs (neg_ℤ (pos n))) (below n low k)) [
      | inl e ↦ or_left (has (xs ++ l ∷ []) (pos n)) (has (xs ++ l ∷ []) (neg_ℤ (pos n))) (has-append xs (l ∷ []) (pos n) ∙ or_left (has xs (pos n)) (has (l ∷ []) (pos n)) e)
      | inr e ↦ or_right (has (xs ++ l ∷ []) (pos n)) (has (xs ++ l ∷ []) (neg_ℤ (pos n)))
          (has-append xs (l ∷ []) (neg_ℤ (pos n)) ∙ or_left (has xs (neg_ℤ (pos n))) (has (l ∷ []) (neg_ℤ (pos n))) e)
    ]
below-push xs l next below (inl own) n low high (inr same) =
    let e : pos n ≡ l = ap pos same ∙ sym own in
    or_left (has (xs ++ l ∷ []) (pos n)) (has (xs ++ l ∷ []) (neg_ℤ (pos n)))
    (has-append xs (l ∷ []) (pos n) ∙ or_right (has xs (pos n)) (has (l ∷ []) (pos n)) (ap (has (l ∷ [])) e ∙ has_here l []))
below-push xs l next below (inr own) n low high (inr same) =
    let e : neg_ℤ (pos n) ≡ l = ap (λ k. neg_ℤ (pos k)) same ∙ sym own in
    or_right (has (xs ++ l ∷ []) (pos n)) (has (xs ++ l ∷ []) (neg_ℤ (pos n)))
    (has-append xs (l ∷ []) (neg_ℤ (pos n)) ∙ or_right (has xs (neg_ℤ (pos n))) (has (l ∷ []) (neg_ℤ (pos n))) (ap (has (l ∷ [])) e ∙ has_here l []))

less_or_same : (n next : ℕ) → n < next + 1 → (n < next) ⊎ (n ≡ next)
less_or_same n next h = grind arith

pub decided-push : (vars next : ℕ) (xs : List ℤ) (l : ℤ) → AreDecided vars next xs → is_within vars l ≡ true → has xs (neg_ℤ l) ≡ false → (l ≡ pos next) ⊎ (l ≡ neg_ℤ (pos next)) → AreDecided vars (next + 1) (xs ++ l ∷ [])
decided-push vars next xs l d w free own = record {
  within = list_all-append (is_within vars) xs (l ∷ []) ∙ and_from _ _ d.within (and_from (is_within vars l) true w refl);
  apart = apart_to (xs ++ l ∷ []) (apart-push vars xs l (apart_from xs d.apart) w free);
  below = λ n low high. below-push xs l next d.below own n low high (less_or_same n next high);
}

within_at : (vars n : ℕ) (side : Bool) → 1 ≤ n → n ≤ vars → is_within vars (literal_at n side) ≡ true
within_at vars zero side low high = absurd (omega arith)
within_at vars (suc n) true low high = and_from (nat_le 1 (suc n)) (nat_le (suc n) vars) (le-leb 1 (suc n) low) (le-leb (suc n) vars high)
within_at vars (suc n) false low high = and_from (nat_le 1 (n + 1)) (nat_le (n + 1) vars) (le-leb 1 (n + 1) (omega arith)) (le-leb (n + 1) vars (omega arith))

pub decided-side : (vars next : ℕ) (xs : List ℤ) (side : Bool) → 1 ≤ next → next ≤ vars → AreDecided vars next xs → has xs (literal_at next (not side)) ≡ false → AreDecided vars (next + 1) (xs ++ literal_at next side ∷ [])
decided-side vars next xs true low high d free = decided-push vars next xs (literal_at next true) d (within_at vars next true low high) free (inl refl)
decided-side vars next xs false low high d free =
    decided-push vars next xs (literal_at next false) d (within_at vars next false low high) (ap (has xs) (neg_ℤ-neg_ℤ (pos next)) ∙ free) (inr refl)

-- ---- places in lists

pub slice_get-front : {X : Type 0} (xs ys : List X) (i : ℕ) (x : X) → slice_get xs i ≡ Some x → slice_get (xs ++ ys) i ≡ Some x
slice_get-front [] ys i x e = cc
slice_get-front (y ∷ xs) ys zero x e = e
slice_get-front (y ∷ xs) ys (suc i) x e = slice_get-front xs ys i x e

pub slice_get-behind : {X : Type 0} (xs ys : List X) (i : ℕ) (y : X) → slice_get ys i ≡ Some y → slice_get (xs ++ ys) (length xs + i) ≡ Some y
slice_get-behind [] ys i y e = let same : 0 + i ≡ i = omega arith in ap (slice_get ys) same ∙ e
slice_get-behind (x ∷ xs) ys i y e =
    let same : length (x ∷ xs) + i ≡ suc (length xs + i) = omega arith in
    ap (slice_get (x ∷ xs ++ ys)) same ∙ slice_get-behind xs ys i y e

slice_get-map : {X Y : Type 0} (f : X → Y) (xs : List X) (i : ℕ) (x : X) → slice_get xs i ≡ Some x → slice_get (map f xs) i ≡ Some (f x)
slice_get-map f [] i x e = cc
slice_get-map f (y ∷ xs) zero x e = let same : y ≡ x = cc in ap (λ q. Some (f q)) same
slice_get-map f (y ∷ xs) (suc i) x e = slice_get-map f xs i x e

named_at : (clauses : List (List ℤ)) (at : ℕ) → named clauses (at + 1) ≡ slice_get clauses at
named_at clauses at =
    let some : (at + 1 == 0) ≡ false = ne_eqb (at + 1) 0 (λ e. absurd (omega arith)) in
    let back : at + 1 - 1 ≡ at = omega arith in
    rw (some, back)

pub ends_with_last : (steps : List Step) (step : Step) → EndsWith (steps ++ step ∷ []) step.clause
ends_with_last steps step =
    let place : length (steps ++ step ∷ []) - 1 ≡ length steps + 0 = omega (arith, length-append steps (step ∷ [])) in
    (step, ap (slice_get (steps ++ step ∷ [])) place ∙ slice_get-behind steps (step ∷ []) 0 step refl, refl)

pub ended_with : (before after : List Step) (step : Step) (clause : List ℤ) → after ≡ before ++ step ∷ [] → step.clause ≡ clause → EndsWith after clause
ended_with before after step clause more same = let ends = ends_with_last before step in rw more (ends.0, ends.1, ends.2 ∙ same)

pub none_left_of : {X P : Type 0} (found : Option X) → IfNone found P → is_some found ≡ false → P
none_left_of None h e = h
none_left_of (Some x) h e = absurd (true≢false e)

-- the number of the last step names its clause, also when more steps follow
pub last_named : (inputs : List (List ℤ)) (steps after : List Step) (clause : List ℤ) → EndsWith steps clause → Extends steps after → named (clauses_of inputs after) (length inputs + length steps) ≡ Some clause
last_named inputs steps after clause ends more =
    let within : length steps - 1 < length steps = slice_get_within steps (length steps - 1) ends.0 ends.1 in
    let number : length inputs + length steps ≡ length inputs + (length steps - 1) + 1 = omega arith in
    let here : slice_get after (length steps - 1) ≡ Some ends.0 = ap (λ ss. slice_get ss (length steps - 1)) more.1 ∙ slice_get-front steps more.0 (length steps - 1) ends.0 ends.1 in
    ap (named (clauses_of inputs after)) number ∙ named_at (clauses_of inputs after) (length inputs + (length steps - 1))
    ∙ slice_get-behind inputs (map (λ s. s.clause) after) (length steps - 1) ends.0.clause (slice_get-map (λ s. s.clause) after (length steps - 1) ends.0 here) ∙ ap Some ends.2

-- ---- steps that follow

none_left : (falses clause : List ℤ) → ((l : ℤ) → has clause l ≡ true → has falses l ≡ true) → not_false falses clause ≡ []
none_left falses [] f = refl
none_left falses (x ∷ clause) f = rw (f x (has_here x clause)) (none_left falses clause (λ l h. f l (has_there x clause l h)))

-- of a clause all literals are opposites of what is decided
pub end_follows : (inputs : List (List ℤ)) (steps : List Step) (decided clause : List ℤ) (at : ℕ) → has_opposites decided ≡ false → slice_get inputs at ≡ Some clause → ((l : ℤ) → has clause l ≡ true → has (opposites decided) l ≡ true) →
    follows (clauses_of inputs steps) (record { clause = opposites decided; hints = (at + 1) ∷ [] }) ≡ true
end_follows inputs steps decided clause at apart e f =
    let clauses = clauses_of inputs steps in
    let here : named clauses (at + 1) ≡ Some clause = named_at clauses at ∙ slice_get-front inputs (map (λ s. s.clause) steps) at clause e in
    and_from (not (has_opposites (opposites decided))) (hints_end clauses ((at + 1) ∷ []) (opposites decided)) (not_from_false _ (opposites_apart decided apart))
    (ap (by_clause (hints_end clauses []) (opposites decided)) here ∙ ap (by_left (hints_end clauses []) (opposites decided)) (none_left (opposites decided) clause f))

opposites-push : (xs : List ℤ) (l : ℤ) → opposites (xs ++ l ∷ []) ≡ opposites xs ++ neg_ℤ l ∷ []
opposites-push [] l = refl
opposites-push (x ∷ xs) l = ap (λ ys. neg_ℤ x ∷ ys) (opposites-push xs l)

one_left : (falses front : List ℤ) (l : ℤ) → ((q : ℤ) → has front q ≡ true → has falses q ≡ true) → has falses l ≡ false → not_false falses (front ++ l ∷ []) ≡ l ∷ []
one_left falses [] l f free = rw free refl
one_left falses (x ∷ front) l f free = rw (f x (has_here x front)) (one_left falses front l (λ q h. f q (has_there x front q h)) free)

-- one side is denied by the one clause and the other by the other
pub both_follow : (clauses : List (List ℤ)) (decided : List ℤ) (l : ℤ) (left right : ℕ) → has_opposites decided ≡ false → has decided l ≡ false → has decided (neg_ℤ l) ≡ false →
    named clauses left ≡ Some (opposites (decided ++ l ∷ [])) → named clauses right ≡ Some (opposites (decided ++ neg_ℤ l ∷ [])) →
    follows clauses (record { clause = opposites decided; hints = left ∷ right ∷ [] }) ≡ true
both_follow clauses decided l left right apart free free_opposite first second =
    let falses = opposites decided in
    let m = neg_ℤ l in
    let open_m : has falses m ≡ false = has-opposites decided m ∙ ap (has decided) (neg_ℤ-neg_ℤ l) ∙ free in
    let open_l : has falses (neg_ℤ m) ≡ false = has-opposites decided (neg_ℤ m) ∙ ap (has decided) (neg_ℤ-neg_ℤ m) ∙ free_opposite in
    let left_one : not_false falses (opposites (decided ++ l ∷ [])) ≡ m ∷ [] = ap (not_false falses) (opposites-push decided l) ∙ one_left falses falses m (λ q h. h) open_m in
    let right_none : not_false (neg_ℤ m ∷ falses) (opposites (decided ++ m ∷ [])) ≡ [] =
    ap (not_false (neg_ℤ m ∷ falses)) (opposites-push decided m)
    ∙ none_left (neg_ℤ m ∷ falses) (falses ++ neg_ℤ m ∷ []) (λ q h. elim (or_cases (has falses q) (has (neg_ℤ m ∷ []) q) (sym (has-append falses (neg_ℤ m ∷ []) q) ∙ h)) [
      | inl k ↦ has_there (neg_ℤ m) falses q k
      | inr k ↦ ap (has (neg_ℤ m ∷ falses)) (only_one (neg_ℤ m) q k) ∙ has_here (neg_ℤ m) falses
    ]) in
    let rest : hints_end clauses (right ∷ []) (neg_ℤ m ∷ falses) ≡ true =
    ap (by_clause (hints_end clauses []) (neg_ℤ m ∷ falses)) second ∙ ap (by_left (hints_end clauses []) (neg_ℤ m ∷ falses)) right_none in
    and_from (not (has_opposites falses)) (hints_end clauses (left ∷ right ∷ []) falses) (not_from_false _ (opposites_apart decided apart))
    (ap (by_clause (hints_end clauses (right ∷ [])) falses) first ∙ ap (by_left (hints_end clauses (right ∷ [])) falses) left_one
    ∙ and_from (not (has falses (neg_ℤ m))) (hints_end clauses (right ∷ []) (neg_ℤ m ∷ falses)) (not_from_false _ open_l) rest)

-- ---- all variables decided

decided_true : (vars : ℕ) (decided : List ℤ) (sides : List Bool) → AreDecided vars (vars + 1) decided → AreSidesOf vars decided sides → (l : ℤ) → has decided l ≡ true → is_within vars l ≡ true → literal_true (side_of sides) l ≡ true
decided_true vars decided sides d s (pos zero) h w = absurd (true≢false (sym w))
decided_true vars decided sides d s (pos (suc n)) h w = s.each (suc n) (omega arith) (leb-true (suc n) vars (and_parts (nat_le 1 (suc n)) (nat_le (suc n) vars) w).1) ∙ h
decided_true vars decided sides d s (negsuc n) h w =
    let side : side_of sides (suc n) ≡ has decided (pos (suc n)) = s.each (suc n) (omega arith) (omega (arith, leb-true (n + 1) vars (and_parts (nat_le 1 (n + 1)) (nat_le (n + 1) vars) w).1)) in
    ap not (side ∙ apart_from decided d.apart (negsuc n) h)

pub decided_satisfied : (vars : ℕ) (decided : List ℤ) (sides : List Bool) → AreDecided vars (vars + 1) decided → AreSidesOf vars decided sides → list_all (literal_true (side_of sides)) decided ≡ true
decided_satisfied vars decided sides d s =
    all_from (literal_true (side_of sides)) decided (λ l h. decided_true vars decided sides d s l h (all_at (is_within vars) decided l d.within h))

false_denied : (vars : ℕ) (decided : List ℤ) (sides : List Bool) → AreDecided vars (vars + 1) decided → AreSidesOf vars decided sides → (l : ℤ) → is_within vars l ≡ true → literal_true (side_of sides) l ≡ false → has (opposites decided) l ≡ true
false_denied vars decided sides d s (pos zero) w e = absurd (true≢false (sym w))
false_denied vars decided sides d s (pos (suc n)) w e =
    let small : suc n ≤ vars = leb-true (suc n) vars (and_parts (nat_le 1 (suc n)) (nat_le (suc n) vars) w).1 in
    let side : side_of sides (suc n) ≡ has decided (pos (suc n)) = s.each (suc n) (omega arith) small in
    has-opposites decided (pos (suc n)) ∙
    elim (or_cases (has decided (pos (suc n))) (has decided (neg_ℤ (pos (suc n)))) (d.below (suc n) (omega arith) (omega arith))) [
      | inl k ↦ absurd (true≢false (sym k ∙ sym side ∙ e))
      | inr k ↦ k
    ]
false_denied vars decided sides d s (negsuc n) w e =
    let side : side_of sides (suc n) ≡ has decided (pos (suc n)) = s.each (suc n) (omega arith) (omega (arith, leb-true (n + 1) vars (and_parts (nat_le 1 (n + 1)) (nat_le (n + 1) vars) w).1)) in
    has-opposites decided (negsuc n) ∙ sym side ∙ not-false (side_of sides (suc n)) e

-- the literals of a clause that is false are opposites of what is decided
pub clause_denied : (vars : ℕ) (decided : List ℤ) (sides : List Bool) (inputs : List (List ℤ)) (at : ℕ) (clause : List ℤ) → AreDecided vars (vars + 1) decided → AreSidesOf vars decided sides → list_all (list_all (is_within vars)) inputs ≡ true →
    slice_get inputs at ≡ Some clause → clause_true (side_of sides) clause ≡ false → (l : ℤ) → has clause l ≡ true → has (opposites decided) l ≡ true
clause_denied vars decided sides inputs at clause d s within e f l h =
    false_denied vars decided sides d s l (all_at (is_within vars) clause l (get_true (list_all (is_within vars)) inputs at clause within e) h)
    (none_of (literal_true (side_of sides)) clause f l h)

-- ---- one more side

side-push : (sides : List Bool) (b : Bool) (n : ℕ) → 1 ≤ n → n ≤ length sides → side_of (sides ++ b ∷ []) n ≡ side_of sides n
side-push [] b n low high = absurd (omega arith)
side-push (x ∷ sides) b zero low high = absurd (omega arith)
side-push (x ∷ sides) b (suc zero) low high = refl
side-push (x ∷ sides) b (suc (suc n)) low high =
    let back : suc (suc n) - 1 ≡ suc n = omega arith in
    let down : suc n - 1 ≡ n = omega arith in
    rw back (rw (← down) (side-push sides b (suc n) (omega arith) (omega arith)))

side_last : (sides : List Bool) (b : Bool) → side_of (sides ++ b ∷ []) (length sides + 1) ≡ b
side_last sides b =
    let place : length sides + 1 - 1 ≡ length sides + 0 = omega arith in
    ap (λ i. unwrap_or (slice_get (sides ++ b ∷ []) i) false) place ∙ ap (λ o. unwrap_or o false) (slice_get-behind sides (b ∷ []) 0 b refl)

each-push : (n : ℕ) (decided : List ℤ) (sides : List Bool) (b : Bool) → AreSidesOf n decided sides → b ≡ has decided (pos (n + 1)) → (k : ℕ) → 1 ≤ k → (k < n + 1) ⊎ (k ≡ n + 1) → side_of (sides ++ b ∷ []) k ≡ has decided (pos k)
each-push n decided sides b s e k low (inl h) = side-push sides b k low (omega (arith, s.all)) ∙ s.each k low (omega arith)
each-push n decided sides b s e k low (inr same) =
    let place : k ≡ length sides + 1 = omega (arith, s.all, same) in
    ap (side_of (sides ++ b ∷ [])) place ∙ side_last sides b ∙ e ∙ ap (λ q. has decided (pos q)) (sym same)

pub sides-push : (n : ℕ) (decided : List ℤ) (sides : List Bool) (b : Bool) → AreSidesOf n decided sides → b ≡ has decided (pos (n + 1)) → AreSidesOf (n + 1) decided (sides ++ b ∷ [])
sides-push n decided sides b s e = record {
  all = omega (arith, length-append sides (b ∷ []), s.all);
  each = λ k low high. each-push n decided sides b s e k low (less_or_same k (n + 1) (omega arith));
}

-- ---- what the last step denies

denies_own : (xs : List ℤ) → denies xs (opposites xs) ≡ true
denies_own xs = all_from (λ l. has xs (neg_ℤ l)) (opposites xs) (λ l h. sym (has-opposites xs l) ∙ h)

-- a last step of the opposites of assumed literals denies these
pub denied_at_end : (log : Log) (assumed : List ℤ) → ((v : ℕ → Bool) → list_all (clause_true v) log.inputs ≡ true → list_all (λ s. clause_true v s.clause) log.steps ≡ true) → EndsWith log.steps (opposites assumed) → IsDenied log.inputs assumed
denied_at_end log assumed hold ends = denied_by log.inputs log.steps (length log.steps - 1) ends.0 assumed hold ends.1 (ap (denies assumed) ends.2 ∙ denies_own assumed)
