-- A text without the spaces, and the other characters, at its ends.
use Rattle.std.proofs.Common.{◌≡◌, ◌≢◌, ℕ, ◌<◌, Bool, true, false, ◌||◌, ◌&&◌, cond, eqb, List, [], ◌∷◌, ◌++◌, length, reverse, refl, sym, ap, ◌∙◌, arith, eq-eqb}
use Rattle.std.specs.Prelude.{MatchOption, Option, Some, None, option_map}
use Rattle.std.specs.Borrow.{Bor}
use Rattle.std.specs.List.{list_all}
use Rattle.conda_base.specs.Texts.{is_byte}
use Rattle.std.proofs.lemmas.Bool.{and_from, and_parts, eqb-true}
use Rattle.std.proofs.lemmas.List.Folds.{list_all-append}
use Rattle.std.proofs.lemmas.Grind.{reverse_onto}
use Rattle.std.proofs.lemmas.List.{append-nil, length-append, reverse-reverse, reverse-append}
use Rattle.conda_history.specs.Lines.{before_one, behind_one, is_end, without_back, without_ends, without_front}

-- ---- one character

pub one_is : (c : ℕ) (text rest : List ℕ) → behind_one c text ≡ Some rest → text ≡ c ∷ rest
one_is c [] rest h = cc
one_is c (b ∷ bs) rest h = by (eqb b c) refl h
  where
    by : (v : Bool) → eqb b c ≡ v → cond v (Some bs) None ≡ Some rest → b ∷ bs ≡ c ∷ rest
    by true e g = let same : bs ≡ rest = cc in ap (λ n. n ∷ bs) (eqb-true b c e) ∙ ap (λ r. c ∷ r) same
    by false e g = cc

pub is_one : (c : ℕ) (text rest : List ℕ) → text ≡ c ∷ rest → behind_one c text ≡ Some rest
is_one c text rest e = ap (behind_one c) e ∙ ap (λ k. cond k (Some rest) None) (eq-eqb c c refl)

pub one_not : (c : ℕ) (text : List ℕ) → behind_one c text ≡ None → (rest : List ℕ) → text ≢ c ∷ rest
one_not c text h rest e = let f : None ≡ Some rest = sym h ∙ is_one c text rest e in cc

pub not_one : (c : ℕ) (text : List ℕ) → ((rest : List ℕ) → text ≢ c ∷ rest) → behind_one c text ≡ None
not_one c text h = by (behind_one c text) refl
  where
    by : (o : Option (List ℕ)) → behind_one c text ≡ o → o ≡ None
    by None e = refl
    by (Some rest) e = absurd (h rest (one_is c text rest e))

pub last_is : (c : ℕ) (text front : List ℕ) → before_one c text ≡ Some front → text ≡ front ++ (c ∷ [])
last_is c text front h = by (behind_one c (reverse text)) refl h
  where
    by : (o : Option (List ℕ)) → behind_one c (reverse text) ≡ o → option_map reverse o ≡ Some front → text ≡ front ++ (c ∷ [])
    by None e g = cc
    by (Some rest) e g =
        let same : reverse rest ≡ front = cc in
        sym (reverse-reverse text) ∙ ap reverse (one_is c (reverse text) rest e) ∙ reverse_onto rest c [] ∙ ap (λ f. f ++ (c ∷ [])) same

pub is_last : (c : ℕ) (text front : List ℕ) → text ≡ front ++ (c ∷ []) → before_one c text ≡ Some front
is_last c text front e =
    ap (option_map reverse) (is_one c (reverse text) (reverse front) (ap reverse e ∙ reverse-append front (c ∷ [])))
    ∙ ap Some (reverse-reverse front)

pub last_not : (c : ℕ) (text : List ℕ) → before_one c text ≡ None → (front : List ℕ) → text ≢ front ++ (c ∷ [])
last_not c text h front e = let f : None ≡ Some front = sym h ∙ is_last c text front e in cc

pub not_last : (c : ℕ) (text : List ℕ) → ((front : List ℕ) → text ≢ front ++ (c ∷ [])) → before_one c text ≡ None
not_last c text h = by (before_one c text) refl
  where
    by : (o : Option (List ℕ)) → before_one c text ≡ o → o ≡ None
    by None e = refl
    by (Some front) e = absurd (h front (last_is c text front e))

-- what the calls of std say of a character, by these
pub behind_cases : (c : ℕ) (text : List ℕ) (r : Option (Bor (List ℕ)))
    → MatchOption r ((rest : List ℕ) → text ≢ c ∷ rest) (λ x. text ≡ c ∷ x.now)
    → MatchOption r (behind_one c text ≡ None) (λ x. behind_one c text ≡ Some x.now)
behind_cases c text None h = not_one c text h
behind_cases c text (Some x) h = is_one c text x.now h

pub before_cases : (c : ℕ) (text : List ℕ) (r : Option (Bor (List ℕ)))
    → MatchOption r ((front : List ℕ) → text ≢ front ++ (c ∷ [])) (λ x. text ≡ x.now ++ (c ∷ []))
    → MatchOption r (before_one c text ≡ None) (λ x. before_one c text ≡ Some x.now)
before_cases c text None h = not_last c text h
before_cases c text (Some x) h = is_last c text x.now h

-- ---- at the front

end_self : (also : ℕ) → is_end also also ≡ true
end_self also = by (eqb also 32) (eqb also also) (eq-eqb also also refl)
  where
    by : (v w : Bool) → w ≡ true → v || w ≡ true
    by true w e = refl
    by false w e = e

front_of : (also b : ℕ) (text rest : List ℕ) → is_end also b ≡ true → text ≡ b ∷ rest → without_front also text ≡ without_front also rest
front_of also b text rest is e =
    ap (without_front also) e ∙ ap (λ k. cond k (without_front also rest) (b ∷ rest)) is

pub front_stops : (also : ℕ) (text : List ℕ) → ((rest : List ℕ) → text ≢ 32 ∷ rest) → ((rest : List ℕ) → text ≢ also ∷ rest)
    → without_front also text ≡ text
front_stops also [] h g = refl
front_stops also (b ∷ bs) h g = by (eqb b 32) refl (eqb b also) refl
  where
    by : (v : Bool) → eqb b 32 ≡ v → (w : Bool) → eqb b also ≡ w → cond (v || w) (without_front also bs) (b ∷ bs) ≡ b ∷ bs
    by true e w f = absurd (h bs (ap (λ c. c ∷ bs) (eqb-true b 32 e)))
    by false e true f = absurd (g bs (ap (λ c. c ∷ bs) (eqb-true b also f)))
    by false e false f = refl

pub front_space : (also : ℕ) (text rest : List ℕ) → behind_one 32 text ≡ Some rest
    → (without_front also text ≡ without_front also rest) × (length rest < length text)
front_space also text rest h = let e = one_is 32 text rest h in (front_of also 32 text rest refl e, omega (arith, ap length e))

front_also : (also : ℕ) (text rest : List ℕ) → text ≡ also ∷ rest
    → (without_front also text ≡ without_front also rest) × (length rest < length text)
front_also also text rest e = (front_of also also text rest (end_self also) e, omega (arith, ap length e))

pub front_cases : (also : ℕ) (text : List ℕ) (r : Option (Bor (List ℕ))) → behind_one 32 text ≡ None
    → MatchOption r (behind_one also text ≡ None) (λ x. behind_one also text ≡ Some x.now)
    → MatchOption r (without_front also text ≡ text)
    (λ x. (without_front also text ≡ without_front also x.now) × (length x.now < length text))
front_cases also text None none h = front_stops also text (one_not 32 text none) (one_not also text h)
front_cases also text (Some x) none h = front_also also text x.now (one_is also text x.now h)

-- ---- at the end

back_of : (also b : ℕ) (text front : List ℕ) → is_end also b ≡ true → text ≡ front ++ (b ∷ []) → without_back also text ≡ without_back also front
back_of also b text front is e =
    ap reverse (front_of also b (reverse text) (reverse front) is (ap reverse e ∙ reverse-append front (b ∷ [])))

back_stops : (also : ℕ) (text : List ℕ) → ((front : List ℕ) → text ≢ front ++ (32 ∷ [])) → ((front : List ℕ) → text ≢ front ++ (also ∷ []))
    → without_back also text ≡ text
back_stops also text h g =
    ap reverse (front_stops also (reverse text) (λ rest e. h (reverse rest) (turned 32 rest e)) (λ rest e. g (reverse rest) (turned also rest e)))
    ∙ reverse-reverse text
  where
    turned : (b : ℕ) (rest : List ℕ) → reverse text ≡ b ∷ rest → text ≡ reverse rest ++ (b ∷ [])
    turned b rest e = sym (reverse-reverse text) ∙ ap reverse e ∙ reverse_onto rest b []

pub back_space : (also : ℕ) (text front : List ℕ) → before_one 32 text ≡ Some front
    → (without_back also text ≡ without_back also front) × (length front < length text)
back_space also text front h = let e = last_is 32 text front h in (back_of also 32 text front refl e, omega (arith, ap length e, length-append front (32 ∷ [])))

back_also : (also : ℕ) (text front : List ℕ) → text ≡ front ++ (also ∷ [])
    → (without_back also text ≡ without_back also front) × (length front < length text)
back_also also text front e = (back_of also also text front (end_self also) e, omega (arith, ap length e, length-append front (also ∷ [])))

pub back_cases : (also : ℕ) (text : List ℕ) (r : Option (Bor (List ℕ))) → before_one 32 text ≡ None
    → MatchOption r (before_one also text ≡ None) (λ x. before_one also text ≡ Some x.now)
    → MatchOption r (without_back also text ≡ text)
    (λ x. (without_back also text ≡ without_back also x.now) × (length x.now < length text))
back_cases also text None none h = back_stops also text (last_not 32 text none) (last_not also text h)
back_cases also text (Some x) none h = back_also also text x.now (last_is also text x.now h)

-- ---- what is cut off

kept_first : (also b : ℕ) (rest : List ℕ) → is_end also b ≡ false → without_front also (b ∷ rest) ≡ b ∷ rest
kept_first also b rest e = ap (λ k. cond k (without_front also rest) (b ∷ rest)) e

-- nothing is cut off of what doesn't begin with an end
first_kept : (also : ℕ) (text : List ℕ) → ((b : ℕ) (rest : List ℕ) → text ≡ b ∷ rest → is_end also b ≡ false) → without_front also text ≡ text
first_kept also [] h = refl
first_kept also (b ∷ rest) h = kept_first also b rest (h b rest refl)

front_skip : (also : ℕ) (front text : List ℕ) → list_all (is_end also) front ≡ true → without_front also (front ++ text) ≡ without_front also text
front_skip also [] text h = refl
front_skip also (b ∷ front) text h =
    let parts = and_parts (is_end also b) (list_all (is_end also) front) h in
    ap (λ k. cond k (without_front also (front ++ text)) (b ∷ (front ++ text))) parts.0 ∙ front_skip also front text parts.1

all_gone : (also : ℕ) (ends : List ℕ) → list_all (is_end also) ends ≡ true → without_front also ends ≡ []
all_gone also ends h = ap (without_front also) (sym (append-nil ends)) ∙ front_skip also ends [] h

all_reversed : (p : ℕ → Bool) (xs : List ℕ) → list_all p xs ≡ true → list_all p (reverse xs) ≡ true
all_reversed p [] h = refl
all_reversed p (x ∷ xs) h =
    let parts = and_parts (p x) (list_all p xs) h in
    ap (list_all p) (reverse-append (x ∷ []) xs) ∙ list_all-append p (reverse xs) (x ∷ [])
    ∙ and_from (list_all p (reverse xs)) (p x && true) (all_reversed p xs parts.1) (and_from (p x) true parts.0 refl)

-- what begins and ends with no end, between ends
pub between : (also : ℕ) (front text back : List ℕ) → list_all (is_end also) front ≡ true → list_all (is_end also) back ≡ true
    → ((b : ℕ) (rest : List ℕ) → text ≡ b ∷ rest → is_end also b ≡ false)
    → ((b : ℕ) (rest : List ℕ) → reverse text ≡ b ∷ rest → is_end also b ≡ false)
    → without_ends also (front ++ (text ++ back)) ≡ text
between also front [] back f g h k =
    ap (without_back also) (front_skip also front back f ∙ all_gone also back g)
between also front (b ∷ text) back f g h k =
    let start : without_front also (front ++ ((b ∷ text) ++ back)) ≡ (b ∷ text) ++ back =
    front_skip also front ((b ∷ text) ++ back) f ∙ kept_first also b (text ++ back) (h b text refl) in
    ap (without_back also) start
    ∙ ap (λ r. reverse (without_front also r)) (reverse-append (b ∷ text) back)
    ∙ ap reverse (front_skip also (reverse back) (reverse (b ∷ text)) (all_reversed (is_end also) back g) ∙ first_kept also (reverse (b ∷ text)) k)
    ∙ reverse-reverse (b ∷ text)

-- what is cut off in front are ends
front_all : (also : ℕ) (xs : List ℕ) → (front : List ℕ) × (xs ≡ front ++ without_front also xs) × (list_all (is_end also) front ≡ true)
front_all also [] = ([], refl, refl)
front_all also (x ∷ xs) = by (is_end also x) refl (front_all also xs)
  where
    by : (k : Bool) → is_end also x ≡ k
        → (front : List ℕ) × (xs ≡ front ++ without_front also xs) × (list_all (is_end also) front ≡ true)
        → (front : List ℕ) × (x ∷ xs ≡ front ++ without_front also (x ∷ xs)) × (list_all (is_end also) front ≡ true)
    by true e more = (
      x ∷ more.0,
      ap (λ ys. x ∷ ys) more.1 ∙ ap (λ k. x ∷ more.0 ++ cond k (without_front also xs) (x ∷ xs)) (sym e),
      and_from (is_end also x) (list_all (is_end also) more.0) e more.2,
    )
    by false e more = ([], ap (λ k. cond k (without_front also xs) (x ∷ xs)) (sym e), refl)

-- what is left doesn't begin with an end
left_bare : (also : ℕ) (xs : List ℕ) (b : ℕ) (rest : List ℕ) → without_front also xs ≡ b ∷ rest → is_end also b ≡ false
left_bare also [] b rest h = cc
left_bare also (x ∷ xs) b rest h = by (is_end also x) refl h (left_bare also xs b rest)
  where
    by : (k : Bool) → is_end also x ≡ k → cond k (without_front also xs) (x ∷ xs) ≡ b ∷ rest
        → (without_front also xs ≡ b ∷ rest → is_end also b ≡ false) → is_end also b ≡ false
    by true e g f = f g
    by false e g f = let same : x ≡ b = cc in ap (is_end also) (sym same) ∙ e

-- a text is what is left of it with ends around
pub record Whole (also : ℕ) (text : List ℕ) : Type 0 where
  pub front : List ℕ
  pub back : List ℕ
  pub whole : text ≡ front ++ (without_ends also text ++ back)
  pub all_front : list_all (is_end also) front ≡ true
  pub all_back : list_all (is_end also) back ≡ true
  pub bare_front : (b : ℕ) (rest : List ℕ) → without_ends also text ≡ b ∷ rest → is_end also b ≡ false
  pub bare_back : (rest : List ℕ) (b : ℕ) → without_ends also text ≡ rest ++ b ∷ [] → is_end also b ≡ false

pub whole_of : (also : ℕ) (text : List ℕ) → Whole also text
whole_of also text =
    let start : List ℕ = without_front also text in
    let first = front_all also text in
    let last = front_all also (reverse start) in
    let whole : start ≡ without_ends also text ++ reverse last.0 =
    sym (reverse-reverse start) ∙ ap reverse last.1 ∙ reverse-append last.0 (without_front also (reverse start)) in
    record {
      front = first.0;
      back = reverse last.0;
      whole = first.1 ∙ ap (λ rest. first.0 ++ rest) whole;
      all_front = first.2;
      all_back = all_reversed (is_end also) last.0 last.2;
      bare_front = λ b rest e. left_bare also text b (rest ++ reverse last.0) (whole ∙ ap (λ t. t ++ reverse last.0) e);
      bare_back = λ rest b e. left_bare also (reverse start) b (reverse rest)
          (sym (reverse-reverse (without_front also (reverse start))) ∙ ap reverse e ∙ reverse-append rest (b ∷ []));
    }

-- spaces alone are such ends
or_same : (v : Bool) → v || v ≡ v
or_same true = refl
or_same false = refl

pub spaces_ends : (xs : List ℕ) → list_all (is_end 32) xs ≡ list_all (is_byte 32) xs
spaces_ends [] = refl
spaces_ends (x ∷ xs) = ap (λ v. v && list_all (is_end 32) xs) (or_same (eqb x 32)) ∙ ap (λ v. eqb x 32 && v) (spaces_ends xs)
