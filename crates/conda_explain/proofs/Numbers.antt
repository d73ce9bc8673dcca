-- What hints name by their new numbers.
use Rattle.std.proofs.Common.{◌≡◌, ℕ, zero, suc, ◌+◌, ◌-◌, ◌<◌, ◌≤◌, ℤ, Bool, true, false, not, cond, eqb, ◌&&◌, ◌||◌, List, [], ◌∷◌, ◌++◌, length, map, get_or, Option, None, Some, slice_get, unwrap_or, refl, sym, ap, ◌∙◌, subst, arith, inl, inr, append_assoc, append-nil, add-one, ne_eqb}
use Rattle.std.specs.List.{cons_option, filter_map, flat_map, position_or_len, range_with_len}
use Rattle.std.specs.Option.{option_map}
use Rattle.std.proofs.lemmas.Bool.{cases_lt, or_cases, or_left, or_right}
use Rattle.std.proofs.lemmas.List.{length-append, length-map, map-append}
use Rattle.std.proofs.lemmas.List.Elements.{filter_map-append}
use Rattle.std.proofs.lemmas.List.FromFn.{get_or-range_with_len, length-range_with_len}
use Rattle.std.proofs.lemmas.Option.{slice_get-get_or, slice_get-map, slice_get_past, slice_get_within}
use Rattle.conda_refute.specs.Refutation.{all_follow, by_clause, ends_empty, follows, has_opposites, hints_end, is_empty_step, named, refuted}
use Rattle.conda_refute.specs.declared.log.Log.{Log}
use Rattle.conda_refute.specs.declared.log.Step.{Step}
use Rattle.conda_encode.proofs.Members.{In}
use Rattle.conda_explain.specs.Renumbered.{hint_among, new_hint, new_numbers, no_number, number_of, over, renumbered}
use Rattle.conda_explain.specs.Shown.{holds, is_clause, used}
use Rattle.conda_explain.proofs.Holding.{holds-append, own_clause, same_clause}

-- ---- places in a list

get_left : {A : Type 0} (xs ys : List A) (i : ℕ) → i < length xs → slice_get (xs ++ ys) i ≡ slice_get xs i
get_left [] ys i lt = absurd (omega arith)
get_left (x ∷ xs) ys zero lt = refl
get_left (x ∷ xs) ys (suc i) lt = get_left xs ys i (omega arith)

get_after : {A : Type 0} (xs ys : List A) (j : ℕ) → slice_get (xs ++ ys) (length xs + j) ≡ slice_get ys j
get_after {A} [] ys j = let e : 0 + j ≡ j = omega arith in ap (λ (n : ℕ). slice_get ys n) e
get_after {A} (x ∷ xs) ys j =
    let e : suc (length xs) + j ≡ suc (length xs + j) = omega arith in
    ap (λ (n : ℕ). slice_get (x ∷ (xs ++ ys)) n) e ∙ get_after xs ys j

get_right : {A : Type 0} (xs ys : List A) (i j : ℕ) → i ≡ length xs + j → slice_get (xs ++ ys) i ≡ slice_get ys j
get_right xs ys i j e = ap (λ (n : ℕ). slice_get (xs ++ ys) n) e ∙ get_after xs ys j

one_on : (i : ℕ) → eqb (i + 1) 0 ≡ false
one_on i = ne_eqb (i + 1) 0 (λ e. omega arith)

named_next : (cs : List (List ℤ)) (i : ℕ) → named cs (i + 1) ≡ slice_get cs i
named_next cs i =
    let e : i + 1 - 1 ≡ i = omega arith in
    ap (λ (b : Bool). cond b None (slice_get cs (i + 1 - 1))) (one_on i) ∙ ap (λ (n : ℕ). slice_get cs n) e

hint_next : (numbers : List ℕ) (none i : ℕ) → hint_among numbers none (i + 1) ≡ unwrap_or (slice_get numbers i) none
hint_next numbers none i =
    let e : i + 1 - 1 ≡ i = omega arith in
    ap (λ (b : Bool). unwrap_or (cond b None (slice_get numbers (i + 1 - 1))) none) (one_on i) ∙ ap (λ (n : ℕ). unwrap_or (slice_get numbers n) none) e

named_past : (cs : List (List ℤ)) (i n : ℕ) → n ≡ i + 1 → length cs ≤ i → named cs n ≡ None
named_past cs i n e le = ap (named cs) e ∙ named_next cs i ∙ slice_get_past cs i le

-- where a clause stands first
place_of : (cs : List (List ℤ)) (c : List ℤ) → holds cs c ≡ true → slice_get cs (position_or_len (is_clause c) cs) ≡ Some c
place_of [] c h = cc
place_of (x ∷ xs) c h = by (is_clause c x) refl (λ more. place_of xs c more)
  where
    by : (b : Bool) → is_clause c x ≡ b → (holds xs c ≡ true → slice_get xs (position_or_len (is_clause c) xs) ≡ Some c) → slice_get (x ∷ xs) (position_or_len (is_clause c) (x ∷ xs)) ≡ Some c
    by true e rest =
        ap (λ (b : Bool). slice_get (x ∷ xs) (cond (not b) (1 + position_or_len (is_clause c) xs) 0)) e ∙ ap (λ (d : List ℤ). Some d) (sym (same_clause c x e))
    by false e rest =
        let one : 1 + position_or_len (is_clause c) xs ≡ suc (position_or_len (is_clause c) xs) = omega arith in
        ap (λ (b : Bool). slice_get (x ∷ xs) (cond (not b) (1 + position_or_len (is_clause c) xs) 0)) e
        ∙ ap (λ (n : ℕ). slice_get (x ∷ xs) n) one
        ∙ rest (sym (ap (λ (b : Bool). b || holds xs c) e) ∙ h)

-- ---- a hint and its new number name the same clause

module _ (cs : List (List ℤ)) (log : Log) (front : List (List ℤ)) where
  input_next : (i : ℕ) (c : List ℤ) → slice_get log.inputs i ≡ Some c → holds cs c ≡ true → named (cs ++ front) (new_hint cs log (i + 1)) ≡ Some c
  input_next i c e h =
      let lt : i < length log.inputs = slice_get_within log.inputs i c e in
      let number : slice_get (new_numbers cs log) i ≡ Some (number_of cs c)
      = get_left (map (number_of cs) log.inputs) (range_with_len (length cs + 1) (length log.steps)) i (omega (arith, length-map log.inputs (number_of cs)))
      ∙ slice_get-map (number_of cs) log.inputs i
      ∙ ap (option_map (number_of cs)) e in
      let at : slice_get cs (position_or_len (is_clause c) cs) ≡ Some c = place_of cs c h in
      ap (named (cs ++ front)) (hint_next (new_numbers cs log) (no_number cs log) i ∙ ap (λ (o : Option ℕ). unwrap_or o (no_number cs log)) number)
      ∙ named_next (cs ++ front) (position_or_len (is_clause c) cs)
      ∙ get_left cs front (position_or_len (is_clause c) cs) (slice_get_within cs _ c at)
      ∙ at

  step_next : length front ≤ length log.steps → (i j : ℕ) → i ≡ length log.inputs + j → named (cs ++ front) (new_hint cs log (i + 1)) ≡ slice_get front j
  step_next small i j e =
      let number : slice_get (new_numbers cs log) i ≡ slice_get (range_with_len (length cs + 1) (length log.steps)) j
      = get_right (map (number_of cs) log.inputs) (range_with_len (length cs + 1) (length log.steps)) i j (omega (arith, length-map log.inputs (number_of cs))) in
      let hint : new_hint cs log (i + 1) ≡ unwrap_or (slice_get (range_with_len (length cs + 1) (length log.steps)) j) (no_number cs log)
      = hint_next (new_numbers cs log) (no_number cs log) i ∙ ap (λ (o : Option ℕ). unwrap_or o (no_number cs log)) number in
      let all : length (range_with_len (length cs + 1) (length log.steps)) ≡ length log.steps = length-range_with_len (length cs + 1) (length log.steps) in
      elim (cases_lt j (length log.steps)) [
        | inl lt ↦
            let to : slice_get (range_with_len (length cs + 1) (length log.steps)) j ≡ Some (length cs + 1 + j)
            = slice_get-get_or (range_with_len (length cs + 1) (length log.steps)) j 0 (omega arith)
            ∙ ap (λ (n : ℕ). Some n) (get_or-range_with_len (length cs + 1) (length log.steps) j 0 lt) in
            let e2 : length cs + 1 + j ≡ length cs + j + 1 = omega arith in
            ap (named (cs ++ front)) (hint ∙ ap (λ (o : Option ℕ). unwrap_or o (no_number cs log)) to ∙ e2)
            ∙ named_next (cs ++ front) (length cs + j)
            ∙ get_after cs front j
        | inr ge ↦
            let none : slice_get (range_with_len (length cs + 1) (length log.steps)) j ≡ None = slice_get_past (range_with_len (length cs + 1) (length log.steps)) j (omega arith) in
            let past : length (cs ++ front) ≤ length cs + length log.steps = omega (arith, length-append cs front) in
            ap (named (cs ++ front)) (hint ∙ ap (λ (o : Option ℕ). unwrap_or o (no_number cs log)) none)
            ∙ named_past (cs ++ front) (length cs + length log.steps) (no_number cs log) refl past
            ∙ sym (slice_get_past front j (omega arith))
      ]

  same_next : length front ≤ length log.steps → (i : ℕ) → ((c : List ℤ) → slice_get log.inputs i ≡ Some c → holds cs c ≡ true) → named (log.inputs ++ front) (i + 1) ≡ named (cs ++ front) (new_hint cs log (i + 1))
  same_next small i covers =
      elim (cases_lt i (length log.inputs)) [
        | inl lt ↦
            let at : slice_get log.inputs i ≡ Some (get_or log.inputs i []) = slice_get-get_or log.inputs i [] lt in
            named_next (log.inputs ++ front) i ∙ get_left log.inputs front i lt ∙ at
            ∙ sym (input_next i (get_or log.inputs i []) at (covers (get_or log.inputs i []) at))
        | inr ge ↦
            let e : i ≡ length log.inputs + (i - length log.inputs) = omega arith in
            named_next (log.inputs ++ front) i ∙ get_right log.inputs front i (i - length log.inputs) e
            ∙ sym (step_next small i (i - length log.inputs) e)
      ]

  pub same_name : length front ≤ length log.steps → (h : ℕ) → ((c : List ℤ) → named log.inputs h ≡ Some c → holds cs c ≡ true) → named (log.inputs ++ front) h ≡ named (cs ++ front) (new_hint cs log h)
  same_name small zero covers =
      let past : length (cs ++ front) ≤ length cs + length log.steps = omega (arith, length-append cs front) in
      sym (named_past (cs ++ front) (length cs + length log.steps) (no_number cs log) refl past)
  same_name small (suc i) covers =
      let P : ℕ → Type 0 = λ n. named (log.inputs ++ front) n ≡ named (cs ++ front) (new_hint cs log n) in
      subst P (add-one i) (same_next small i (λ c e. covers c (ap (named log.inputs) (sym (add-one i)) ∙ named_next log.inputs i ∙ e)))

-- a hint that names an input that is kept
pub input_name : (cs : List (List ℤ)) (log : Log) (h : ℕ) (c : List ℤ) → named log.inputs h ≡ Some c → holds cs c ≡ true → named cs (new_hint cs log h) ≡ Some c
input_name cs log h c e kept =
    ap (λ (l : List (List ℤ)). named l (new_hint cs log h)) (sym (append-nil cs))
    ∙ sym (same_name cs log [] (omega arith) h (λ d f. let same : d ≡ c = cc in ap (holds cs) same ∙ kept))
    ∙ ap (λ (l : List (List ℤ)). named l h) (append-nil log.inputs)
    ∙ e

-- ---- so the steps follow from the clauses that are kept, where these are all that the hints name

abbrev pub Covers : List (List ℤ) → Log → List ℕ → Type 0
Covers cs log hints = (c : List ℤ) → holds (filter_map (named log.inputs) hints) c ≡ true → holds cs c ≡ true

pub holds_head : (o : Option (List ℤ)) (rest : List (List ℤ)) (c : List ℤ) → o ≡ Some c → holds (cons_option o rest) c ≡ true
holds_head o rest c e = ap (λ (u : Option (List ℤ)). holds (cons_option u rest) c) e ∙ or_left (is_clause c c) (holds rest c) (own_clause c c refl)

pub holds_tail : (o : Option (List ℤ)) (rest : List (List ℤ)) (c : List ℤ) → holds rest c ≡ true → holds (cons_option o rest) c ≡ true
holds_tail None rest c h = h
holds_tail (Some x) rest c h = or_right (is_clause c x) (holds rest c) h

by_clause_same : (r s : List ℤ → Bool) → ((f : List ℤ) → r f ≡ s f) → (falses : List ℤ) (o : Option (List ℤ)) → by_clause r falses o ≡ by_clause s falses o
by_clause_same r s e falses o = λ i. by_clause (λ f. e f i) falses o

module _ (cs : List (List ℤ)) (log : Log) where
  hints_same : (front : List (List ℤ)) → length front ≤ length log.steps → (hs : List ℕ) → Covers cs log hs → (falses : List ℤ) →
      hints_end (log.inputs ++ front) hs falses ≡ hints_end (cs ++ front) (map (new_hint cs log) hs) falses
  hints_same front small [] covers falses = refl
  hints_same front small (h ∷ hs) covers falses =
      ap (by_clause (hints_end (log.inputs ++ front) hs) falses) (same_name cs log front small h (λ c e. covers c (holds_head (named log.inputs h) (filter_map (named log.inputs) hs) c e)))
      ∙ by_clause_same (hints_end (log.inputs ++ front) hs) (hints_end (cs ++ front) (map (new_hint cs log) hs))
      (hints_same front small hs (λ c h'. covers c (holds_tail (named log.inputs h) (filter_map (named log.inputs) hs) c h'))) falses (named (cs ++ front) (new_hint cs log h))

  abbrev hints_of : List Step → List ℕ
  hints_of steps = flat_map (λ (s : Step). s.hints) steps

  covers_left : (xs ys : List ℕ) → Covers cs log (xs ++ ys) → Covers cs log xs
  covers_left xs ys covers c h =
      covers c (ap (λ (l : List (List ℤ)). holds l c) (filter_map-append (named log.inputs) xs ys)
      ∙ holds-append (filter_map (named log.inputs) xs) (filter_map (named log.inputs) ys) c
      ∙ or_left (holds (filter_map (named log.inputs) xs) c) (holds (filter_map (named log.inputs) ys) c) h)

  covers_right : (xs ys : List ℕ) → Covers cs log (xs ++ ys) → Covers cs log ys
  covers_right xs ys covers c h =
      covers c (ap (λ (l : List (List ℤ)). holds l c) (filter_map-append (named log.inputs) xs ys)
      ∙ holds-append (filter_map (named log.inputs) xs) (filter_map (named log.inputs) ys) c
      ∙ or_right (holds (filter_map (named log.inputs) xs) c) (holds (filter_map (named log.inputs) ys) c) h)

  all_same : (front : List (List ℤ)) (ss : List Step) → length front + length ss ≤ length log.steps → Covers cs log (hints_of ss) →
      all_follow (log.inputs ++ front) ss ≡ all_follow (cs ++ front) (map (renumbered cs log) ss)
  all_same front [] small covers = refl
  all_same front (s ∷ ss) small covers =
      let one : follows (log.inputs ++ front) s ≡ follows (cs ++ front) (renumbered cs log s)
      = ap (λ (b : Bool). not (has_opposites s.clause) && b) (hints_same front (omega arith) s.hints (covers_left s.hints (hints_of ss) covers) s.clause) in
      let more : length (front ++ s.clause ∷ []) + length ss ≤ length log.steps = omega (arith, length-append front (s.clause ∷ [])) in
      let rest : all_follow ((log.inputs ++ front) ++ s.clause ∷ []) ss ≡ all_follow ((cs ++ front) ++ s.clause ∷ []) (map (renumbered cs log) ss)
      = ap (λ (l : List (List ℤ)). all_follow l ss) (append_assoc log.inputs front (s.clause ∷ []))
      ∙ all_same (front ++ s.clause ∷ []) ss more (covers_right s.hints (hints_of ss) covers)
      ∙ ap (λ (l : List (List ℤ)). all_follow l (map (renumbered cs log) ss)) (sym (append_assoc cs front (s.clause ∷ []))) in
      ap (λ (b : Bool). b && all_follow ((log.inputs ++ front) ++ s.clause ∷ []) ss) one
      ∙ ap (λ (b : Bool). follows (cs ++ front) (renumbered cs log s) && b) rest

  empty_same : (o : Option Step) → is_empty_step (option_map (renumbered cs log) o) ≡ is_empty_step o
  empty_same None = refl
  empty_same (Some s) = refl

  ends_same : (ss : List Step) → ends_empty (map (renumbered cs log) ss) ≡ ends_empty ss
  ends_same ss =
      ap (λ (n : ℕ). is_empty_step (slice_get (map (renumbered cs log) ss) (n - 1))) (length-map ss (renumbered cs log))
      ∙ ap is_empty_step (slice_get-map (renumbered cs log) ss (length ss - 1))
      ∙ empty_same (slice_get ss (length ss - 1))

  pub refuted_same : Covers cs log (hints_of log.steps) → refuted (over cs log) ≡ refuted log
  refuted_same covers =
      let same : all_follow log.inputs log.steps ≡ all_follow cs (map (renumbered cs log) log.steps)
      = ap (λ (l : List (List ℤ)). all_follow l log.steps) (sym (append-nil log.inputs))
      ∙ all_same [] log.steps (omega arith) covers
      ∙ ap (λ (l : List (List ℤ)). all_follow l (map (renumbered cs log) log.steps)) (append-nil cs) in
      ap (λ (b : Bool). b && ends_empty (map (renumbered cs log) log.steps)) (sym same)
      ∙ ap (λ (b : Bool). all_follow log.inputs log.steps && b) (ends_same log.steps)

  -- ---- and they name each clause that is kept and that they named

  pub again : (hs : List ℕ) (c : List ℤ) → holds cs c ≡ true → holds (filter_map (named log.inputs) hs) c ≡ true → holds (filter_map (named cs) (map (new_hint cs log) hs)) c ≡ true
  again [] c kept h = h
  again (h ∷ hs) c kept held =
      by (named log.inputs h) refl held
      (λ more. holds_tail (named cs (new_hint cs log h)) (filter_map (named cs) (map (new_hint cs log) hs)) c (again hs c kept more))
    where
      by : (o : Option (List ℤ)) → named log.inputs h ≡ o → holds (cons_option o (filter_map (named log.inputs) hs)) c ≡ true →
          (holds (filter_map (named log.inputs) hs) c ≡ true → holds (filter_map (named cs) (map (new_hint cs log) (h ∷ hs))) c ≡ true) →
          holds (filter_map (named cs) (map (new_hint cs log) (h ∷ hs))) c ≡ true
      by None e held rest = rest held
      by (Some x) e held rest =
          elim (or_cases (is_clause c x) (holds (filter_map (named log.inputs) hs) c) held) [
            | inl is ↦
                holds_head (named cs (new_hint cs log h)) (filter_map (named cs) (map (new_hint cs log) hs)) c
                (input_name cs log h c (e ∙ ap (λ (d : List ℤ). Some d) (sym (same_clause c x is))) kept)
            | inr more ↦ rest more
          ]

  hints_map : (ss : List Step) → flat_map (λ (s : Step). s.hints) (map (renumbered cs log) ss) ≡ map (new_hint cs log) (flat_map (λ (s : Step). s.hints) ss)
  hints_map [] = refl
  hints_map (s ∷ ss) =
      ap (λ (l : List ℕ). map (new_hint cs log) s.hints ++ l) (hints_map ss)
      ∙ sym (map-append (new_hint cs log) s.hints (flat_map (λ (t : Step). t.hints) ss))

  pub used_again : (c : List ℤ) → holds cs c ≡ true → holds (used log) c ≡ true → holds (used (over cs log)) c ≡ true
  used_again c kept h =
      ap (λ (l : List ℕ). holds (filter_map (named cs) l) c) (hints_map log.steps)
      ∙ again (flat_map (λ (s : Step). s.hints) log.steps) c kept h

-- ---- what is used is an input

place_in : {A : Type 0} (xs : List A) (i : ℕ) (x : A) → slice_get xs i ≡ Some x → In x xs
place_in [] i x e = cc
place_in (y ∷ ys) zero x e = let same : y ≡ x = cc in inl same
place_in (y ∷ ys) (suc i) x e = inr (place_in ys i x e)

named_in : (cs : List (List ℤ)) (h : ℕ) (c : List ℤ) → named cs h ≡ Some c → In c cs
named_in cs zero c e = cc
named_in cs (suc i) c e = place_in cs i c (sym (named_next cs i) ∙ ap (named cs) (add-one i) ∙ e)

named_all : (cs : List (List ℤ)) (hs : List ℕ) (c : List ℤ) → holds (filter_map (named cs) hs) c ≡ true → In c cs
named_all cs [] c held = cc
named_all cs (h ∷ hs) c held = by (named cs h) refl held (λ more. named_all cs hs c more)
  where
    by : (o : Option (List ℤ)) → named cs h ≡ o → holds (cons_option o (filter_map (named cs) hs)) c ≡ true → (holds (filter_map (named cs) hs) c ≡ true → In c cs) → In c cs
    by None e held rest = rest held
    by (Some x) e held rest =
        elim (or_cases (is_clause c x) (holds (filter_map (named cs) hs) c) held) [
          | inl is ↦ named_in cs h c (e ∙ ap (λ (d : List ℤ). Some d) (sym (same_clause c x is)))
          | inr more ↦ rest more
        ]

pub used_in : (log : Log) (c : List ℤ) → holds (used log) c ≡ true → In c log.inputs
used_in log c h = named_all log.inputs (flat_map (λ (s : Step). s.hints) log.steps) c h
