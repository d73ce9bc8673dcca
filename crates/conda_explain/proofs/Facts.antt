-- What a report shows.
use Rattle.std.proofs.Common.{◌≡◌, ◌≢◌, ℕ, zero, suc, ◌+◌, ◌^◌, ◌<◌, ◌≤◌, ℤ, Bool, true, false, not, cond, nat_lt, ◌==◌, ◌-◌, ◌&&◌, List, [], ◌∷◌, ◌++◌, length, map, get_or, Option, None, Some, slice_get, unwrap_or, refl, sym, ap, ◌∙◌, subst, arith, inl, inr, append_assoc, append-nil, All, Contains, lt-ltb}
use Rattle.std.specs.List.{AllPairs, list_all, range_with_len}
use Rattle.std.proofs.lemmas.Bool.{and_from, and_parts, false≢true, not-true}
use Rattle.std.proofs.lemmas.List.{length-map}
use Rattle.std.proofs.lemmas.List.Elements.{All-append, All-contains, All-from_get_or, All-map, Contains-get_or}
use Rattle.std.proofs.lemmas.List.FromFn.{get_or-range_with_len, length-range_with_len}
use Rattle.std.proofs.lemmas.Option.{get_or_from_slice_get, slice_get_within}
use Rattle.conda_refute.specs.LogText.{is_hint, is_literal, is_log, is_step}
use Rattle.conda_refute.specs.Refutation.{refuted}
use Rattle.conda_refute.specs.declared.log.Log.{Log}
use Rattle.conda_refute.specs.declared.log.Step.{Step}
use Rattle.conda_encode.specs.Clauses.{Reason}
use Rattle.conda_encode.proofs.Members.{In, all_at, all_from, from_contains, in_left, in_map, in_right, of_map, to_contains}
use Rattle.conda_explain.specs.Renumbered.{new_hint, new_numbers, no_number, number_of, renumbered, shown_log}
use Rattle.conda_explain.specs.Shown.{StandsBefore, holds, is_clause, shown, used}
use Rattle.conda_explain.proofs.Firsts.{clauses_of, firsts, holds-shown, shown-firsts}
use Rattle.conda_explain.proofs.Holding.{Contains-from_holds, holds-from_Contains, holds-from_In}
use Rattle.conda_explain.proofs.Keys.{place_few}
use Rattle.conda_explain.proofs.Numbers.{refuted_same, used_again, used_in}

-- ---- the clauses that are shown are those that are used

shown_used : (rs : List Reason) (log : Log) (c : List ℤ) → holds (clauses_of (shown rs log)) c ≡ true → holds (used log) c ≡ true
shown_used rs log c h = (and_parts (holds (clauses_of rs) c) (holds (used log) c) (sym (holds-shown rs log c) ∙ h)).1

used_shown : (rs : List Reason) (log : Log) → All (Contains (clauses_of rs)) log.inputs → (c : List ℤ) → holds (used log) c ≡ true → holds (clauses_of (shown rs log)) c ≡ true
used_shown rs log all c h =
    holds-shown rs log c
    ∙ and_from (holds (clauses_of rs) c) (holds (used log) c)
    (holds-from_Contains (clauses_of rs) c (All-contains (Contains (clauses_of rs)) log.inputs c all (to_contains log.inputs c (used_in log c h)))) h

pub refuted_law : (rs : List Reason) (log : Log) → All (Contains (clauses_of rs)) log.inputs → refuted log ≡ true → refuted (shown_log rs log) ≡ true
refuted_law rs log all h = refuted_same (clauses_of (shown rs log)) log (used_shown rs log all) ∙ h

element : (xs : List (List ℤ)) (k : ℕ) (d : List ℤ) → k < length xs → holds xs (get_or xs k d) ≡ true
element xs k d lt = holds-from_Contains xs (get_or xs k d) (Contains-get_or xs k d lt)

pub covers_law : (rs : List Reason) (log : Log) → All (Contains (clauses_of rs)) log.inputs → All (Contains (shown_log rs log).inputs) (used log)
covers_law rs log all = λ k d lt.
    Contains-from_holds (clauses_of (shown rs log)) (get_or (used log) k d) (used_shown rs log all (get_or (used log) k d) (element (used log) k d lt))

pub only_law : (rs : List Reason) (log : Log) → All (Contains (used log)) (shown_log rs log).inputs
only_law rs log = λ k d lt.
    let c : List ℤ = get_or (clauses_of (shown rs log)) k d in
    Contains-from_holds (used log) c (shown_used rs log c (element (clauses_of (shown rs log)) k d lt))

pub named_law : (rs : List Reason) (log : Log) → All (Contains (used (shown_log rs log))) (shown_log rs log).inputs
named_law rs log = λ k d lt.
    let c : List ℤ = get_or (clauses_of (shown rs log)) k d in
    let kept : holds (clauses_of (shown rs log)) c ≡ true = element (clauses_of (shown rs log)) k d lt in
    Contains-from_holds (used (shown_log rs log)) c (used_again (clauses_of (shown rs log)) log c kept (shown_used rs log c kept))

-- ---- they stand in order, each where it stands first

-- the reason stands among these, and no one before it has its clause
abbrev IsFirst : List (List ℤ) → List Reason → Reason → Type 0
IsFirst seen rs r = (front back : List Reason) × (rs ≡ front ++ r ∷ back) × (holds (seen ++ clauses_of front) r.1 ≡ false)

later_first : (seen : List (List ℤ)) (x : Reason) (rs : List Reason) (r : Reason) → IsFirst (seen ++ x.1 ∷ []) rs r → IsFirst seen (x ∷ rs) r
later_first seen x rs r (front, back, e, h) =
    (x ∷ front, back, ap (λ (l : List Reason). x ∷ l) e, ap (λ (l : List (List ℤ)). holds l r.1) (sym (append_assoc seen (x.1 ∷ []) (clauses_of front))) ∙ h)

head_first : (seen : List (List ℤ)) (x : Reason) (rs : List Reason) → holds seen x.1 ≡ false → IsFirst seen (x ∷ rs) x
head_first seen x rs h = ([], rs, refl, ap (λ (l : List (List ℤ)). holds l x.1) (append-nil seen) ∙ h)

first_cases : (wanted : List ℤ → Bool) (seen : List (List ℤ)) (x : Reason) (rs : List Reason) (r : Reason) (b : Bool) → (wanted x.1 && not (holds seen x.1)) ≡ b →
    (In r (firsts wanted (seen ++ x.1 ∷ []) rs) → IsFirst (seen ++ x.1 ∷ []) rs r) →
    In r (cond b (x ∷ firsts wanted (seen ++ x.1 ∷ []) rs) (firsts wanted (seen ++ x.1 ∷ []) rs)) → IsFirst seen (x ∷ rs) r
first_cases wanted seen x rs r true e rest (inl same) =
    subst (IsFirst seen (x ∷ rs)) same (head_first seen x rs (not-true (holds seen x.1) (and_parts (wanted x.1) (not (holds seen x.1)) e).1))
first_cases wanted seen x rs r true e rest (inr i) = later_first seen x rs r (rest i)
first_cases wanted seen x rs r false e rest i = later_first seen x rs r (rest i)

first_at : (wanted : List ℤ → Bool) (seen : List (List ℤ)) (rs : List Reason) (r : Reason) → In r (firsts wanted seen rs) → IsFirst seen rs r
first_at wanted seen [] r i = absurd i
first_at wanted seen (x ∷ rs) r i =
    first_cases wanted seen x rs r (wanted x.1 && not (holds seen x.1)) refl (first_at wanted (seen ++ x.1 ∷ []) rs r) i

lift_before : (x : Reason) (rs : List Reason) (r s : Reason) → StandsBefore rs r s → StandsBefore (x ∷ rs) r s
lift_before x rs r s (front, middle, back, e) = (x ∷ front, middle, back, ap (λ (l : List Reason). x ∷ l) e)

first_before : (x : Reason) (rs : List Reason) (seen : List (List ℤ)) (s : Reason) → IsFirst seen rs s → StandsBefore (x ∷ rs) x s
first_before x rs seen s (front, back, e, h) = ([], front, back, ap (λ (l : List Reason). x ∷ l) e)

pairs_cond : (R : Reason → Reason → Type 0) (x : Reason) (fs : List Reason) (b : Bool) → ((s : Reason) → In s fs → R x s) → AllPairs R fs → AllPairs R (cond b (x ∷ fs) fs)
pairs_cond R x fs true each pairs zero zero d lt l = absurd (omega arith)
pairs_cond R x fs true each pairs zero (suc j) d lt l =
    each (get_or fs j d) (from_contains fs (get_or fs j d) (Contains-get_or fs j d (omega arith)))
pairs_cond R x fs true each pairs (suc i) zero d lt l = absurd (omega arith)
pairs_cond R x fs true each pairs (suc i) (suc j) d lt l = pairs i j d (omega arith) (omega arith)
pairs_cond R x fs false each pairs i j d lt l = pairs i j d lt l

firsts_order : (wanted : List ℤ → Bool) (seen : List (List ℤ)) (rs : List Reason) → AllPairs (StandsBefore rs) (firsts wanted seen rs)
firsts_order wanted seen [] = λ i j d lt l. absurd (omega arith)
firsts_order wanted seen (x ∷ rs) =
    let fs : List Reason = firsts wanted (seen ++ x.1 ∷ []) rs in
    pairs_cond (StandsBefore (x ∷ rs)) x fs (wanted x.1 && not (holds seen x.1))
    (λ s i. first_before x rs (seen ++ x.1 ∷ []) s (first_at wanted (seen ++ x.1 ∷ []) rs s i))
    (λ i j d lt l. lift_before x rs (get_or fs i d) (get_or fs j d) (firsts_order wanted (seen ++ x.1 ∷ []) rs i j d lt l))

-- a reason behind another one has another clause
first_differs : (x : Reason) (seen : List (List ℤ)) (rs : List Reason) (s : Reason) → IsFirst (seen ++ x.1 ∷ []) rs s → x.1 ≢ s.1
first_differs x seen rs s (front, back, e, h) same =
    false≢true (sym h ∙ holds-from_In ((seen ++ x.1 ∷ []) ++ clauses_of front) s.1 (in_left (seen ++ x.1 ∷ []) (clauses_of front) s.1 (in_right seen (x.1 ∷ []) s.1 (inl same))))

firsts_once : (wanted : List ℤ → Bool) (seen : List (List ℤ)) (rs : List Reason) → AllPairs (λ (r s : Reason). r.1 ≢ s.1) (firsts wanted seen rs)
firsts_once wanted seen [] = λ i j d lt l. absurd (omega arith)
firsts_once wanted seen (x ∷ rs) =
    pairs_cond (λ (r s : Reason). r.1 ≢ s.1) x (firsts wanted (seen ++ x.1 ∷ []) rs) (wanted x.1 && not (holds seen x.1))
    (λ s i. first_differs x seen rs s (first_at wanted (seen ++ x.1 ∷ []) rs s i))
    (firsts_once wanted (seen ++ x.1 ∷ []) rs)

pub once_law : (rs : List Reason) (log : Log) → AllPairs (λ (r s : Reason). r.1 ≢ s.1) (shown rs log)
once_law rs log = subst (AllPairs (λ (r s : Reason). r.1 ≢ s.1)) (sym (shown-firsts rs log)) (firsts_once (holds (used log)) [] rs)

pub order_law : (rs : List Reason) (log : Log) → AllPairs (StandsBefore rs) (shown rs log)
order_law rs log = subst (AllPairs (StandsBefore rs)) (sym (shown-firsts rs log)) (firsts_order (holds (used log)) [] rs)

others : (front : List Reason) (c : List ℤ) → holds (clauses_of front) c ≡ false → All (λ (s : Reason). s.1 ≢ c) front
others front c h = λ k d lt e.
    let there : In (get_or front k d).1 (clauses_of front)
    = in_map (λ (s : Reason). s.1) front (get_or front k d) (from_contains front (get_or front k d) (Contains-get_or front k d lt)) in
    false≢true (sym h ∙ ap (holds (clauses_of front)) (sym e) ∙ holds-from_In (clauses_of front) (get_or front k d).1 there)

pub first_law : (rs : List Reason) (log : Log) (r : Reason) → Contains (shown rs log) r →
    (front back : List Reason) × (rs ≡ front ++ r ∷ back) × All (λ (s : Reason). s.1 ≢ r.1) front
first_law rs log r there =
    let f : IsFirst [] rs r = first_at (holds (used log)) [] rs r (subst (In r) (shown-firsts rs log) (from_contains (shown rs log) r there)) in
    (f.0, f.1, f.2, others f.0 r.1 f.3)

-- ---- its numbers can be written

firsts_few : (wanted : List ℤ → Bool) (seen : List (List ℤ)) (rs : List Reason) → length (firsts wanted seen rs) ≤ length rs
firsts_few wanted seen [] = omega arith
firsts_few wanted seen (x ∷ rs) = by (wanted x.1 && not (holds seen x.1)) (firsts wanted (seen ++ x.1 ∷ []) rs) (firsts_few wanted (seen ++ x.1 ∷ []) rs)
  where
    by : (b : Bool) (fs : List Reason) → length fs ≤ length rs → length (cond b (x ∷ fs) fs) ≤ length (x ∷ rs)
    by true fs le = omega arith
    by false fs le = omega arith

shown_few : (rs : List Reason) (log : Log) → length (clauses_of (shown rs log)) ≤ length rs
shown_few rs log =
    let few : length (shown rs log) ≤ length rs = subst (λ (l : List Reason). length l ≤ length rs) (sym (shown-firsts rs log)) (firsts_few (holds (used log)) [] rs) in
    omega (arith, length-map (shown rs log) (λ (r : Reason). r.1))

module _ (cs : List (List ℤ)) (log : Log) where
  abbrev IsNumber : ℕ → Type 0
  IsNumber n = (0 < n) × (n ≤ no_number cs log)

  numbers_good : All IsNumber (new_numbers cs log)
  numbers_good =
      All-append IsNumber (map (number_of cs) log.inputs) (range_with_len (length cs + 1) (length log.steps))
      (All-map IsNumber (number_of cs) log.inputs (λ k d lt. (omega arith, omega (arith, place_few (is_clause (get_or log.inputs k d)) cs))))
      (All-from_get_or IsNumber (range_with_len (length cs + 1) (length log.steps)) 0
      (λ k lt.
      let short : k < length log.steps = omega (arith, length-range_with_len (length cs + 1) (length log.steps)) in
      let is = get_or-range_with_len (length cs + 1) (length log.steps) k 0 short in
      (omega (arith, is), omega (arith, is))))

  hint_good : (h : ℕ) → IsNumber (new_hint cs log h)
  hint_good h = by (h == 0) (slice_get (new_numbers cs log) (h - 1)) refl
    where
      by : (b : Bool) (o : Option ℕ) → slice_get (new_numbers cs log) (h - 1) ≡ o → IsNumber (unwrap_or (cond b None o) (no_number cs log))
      by true o e = (omega arith, omega arith)
      by false None e = (omega arith, omega arith)
      by false (Some n) e =
          let lt : h - 1 < length (new_numbers cs log) = slice_get_within (new_numbers cs log) (h - 1) n e in
          subst IsNumber (get_or_from_slice_get (new_numbers cs log) (h - 1) n n e) (numbers_good (h - 1) n lt)

  hints_good : no_number cs log < 2 ^ 64 → (hs : List ℕ) → list_all is_hint (map (new_hint cs log) hs) ≡ true
  hints_good small [] = refl
  hints_good small (h ∷ hs) =
      let g : IsNumber (new_hint cs log h) = hint_good h in
      and_from (is_hint (new_hint cs log h)) (list_all is_hint (map (new_hint cs log) hs))
      (and_from (nat_lt 0 (new_hint cs log h)) (nat_lt (new_hint cs log h) (2 ^ 64)) (lt-ltb 0 (new_hint cs log h) g.0) (lt-ltb (new_hint cs log h) (2 ^ 64) (omega arith)))
      (hints_good small hs)

  steps_good : no_number cs log < 2 ^ 64 → list_all is_step log.steps ≡ true → list_all is_step (map (renumbered cs log) log.steps) ≡ true
  steps_good small ok =
      all_from is_step (map (renumbered cs log) log.steps)
      (λ s i.
      let w : (t : Step) × In t log.steps × (renumbered cs log t ≡ s) = of_map (renumbered cs log) log.steps s i in
      subst (λ (u : Step). is_step u ≡ true) w.2
      (and_from (list_all is_literal w.0.clause) (list_all is_hint (map (new_hint cs log) w.0.hints))
      (and_parts (list_all is_literal w.0.clause) (list_all is_hint w.0.hints) (all_at is_step log.steps w.0 ok w.1)).0
      (hints_good small w.0.hints)))

pub numbers_law : (rs : List Reason) (log : Log) → length rs + length log.steps + 1 < 2 ^ 64 → is_log log ≡ true → is_log (shown_log rs log) ≡ true
numbers_law rs log small ok =
    let cs : List (List ℤ) = clauses_of (shown rs log) in
    let parts : (list_all (list_all is_literal) log.inputs ≡ true) × (list_all is_step log.steps ≡ true) = and_parts (list_all (list_all is_literal) log.inputs) (list_all is_step log.steps) ok in
    let few : no_number cs log < 2 ^ 64 = omega (arith, shown_few rs log) in
    and_from (list_all (list_all is_literal) cs) (list_all is_step (map (renumbered cs log) log.steps))
    (all_from (list_all is_literal) cs
    (λ c i. all_at (list_all is_literal) log.inputs c parts.0 (used_in log c (shown_used rs log c (holds-from_In cs c i)))))
    (steps_good cs log few parts.1)
