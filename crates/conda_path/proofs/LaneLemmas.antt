-- The number in a path of the trash.
use Rattle.std.proofs.Common.{◌≡◌, ◌↔◌, ℕ, ◌^◌, ◌<◌, Bool, true, false, cond, eqb, List, [], ◌∷◌, ◌++◌, length, ◌+◌, take, drop, MatchOption, Bor, Option, Some, None, refl, sym, ap, ◌∙◌, subst}
use Rattle.std.specs.Prelude.{codes, decimal, is_some, nat_eq, sum, unwrap_or}
use Rattle.std.specs.Char.{is_ascii_digit}
use Rattle.std.specs.Cmp.{first_so, second_so}
use Rattle.std.specs.Cmp.Lexicographic.{bytes_decides}
use Rattle.std.specs.List.{starts_with}
use Rattle.std.specs.Str.{all_ascii_digits}
use Rattle.std.proofs.lemmas.Bool.{eqb-true, false≢true}
use Rattle.std.proofs.lemmas.Fmt.{digits_decimal}
use Rattle.std.proofs.lemmas.List.{take-append-drop}
use Rattle.std.proofs.lemmas.Str.Pattern.{starts_text}
use Rattle.std.specs.Str.Pattern.{FindsTextPrefix}
use Rattle.std.proofs.lemmas.Str.Parse.{numerals_by_value, tells_all_ascii_digits}
use Rattle.conda_base.specs.Numbers.{number_below}
use Rattle.conda_base.specs.Signs.{dot}
use Rattle.conda_base.specs.Texts.{IsFreeOf, cut_first}
use Rattle.conda_path.specs.Lanes.{IsTrash, second_number, trash_number}

digits_free : (ds : List ℕ) → all_ascii_digits ds ≡ true → IsFreeOf dot ds
digits_free [] h = tt
digits_free (d ∷ ds) h =
    (by (eqb d dot) refl (first_so (is_ascii_digit d) (all_ascii_digits ds) h), digits_free ds (second_so (is_ascii_digit d) (all_ascii_digits ds) h))
  where
    by : (v : Bool) → eqb d dot ≡ v → is_ascii_digit d ≡ true → v ≡ false
    by true e g =
        let same : d ≡ dot = eqb-true d dot e in
        let no : is_ascii_digit dot ≡ true = ap is_ascii_digit (sym same) ∙ g in
        absurd (false≢true no)
    by false e g = refl

-- a number's decimal form has no dot
no_dot : (n : ℕ) → n < 2 ^ 64 → IsFreeOf dot (decimal n)
no_dot n low =
    digits_free (decimal n) (digits_decimal (numerals_by_value (λ ds. all_ascii_digits ds ≡ true) tells_all_ascii_digits) n low)

-- what the laws of numbers and of cuts say here
pub record Laws : Type 0 where
  pub number : (text : List ℕ) (n : ℕ) → (number_below (2 ^ 64) text ≡ Some n) ↔ ((text ≡ decimal n) × (n < 2 ^ 64))
  pub cut : (text before behind : List ℕ) → (cut_first dot text ≡ Some (before, behind)) ↔ ((text ≡ before ++ dot ∷ behind) × IsFreeOf dot before)

module _ (laws : Laws) where
  pub trash_is : (path : List ℕ) (n k : ℕ) → IsTrash path n k → trash_number path ≡ Some k
  trash_is path n k h = subst (λ p. trash_number p ≡ Some k) (sym h.2) second
    where
      second : second_number (cut_first dot (decimal n ++ dot ∷ decimal k)) ≡ Some k
      second =
          rw ((laws.cut (decimal n ++ dot ∷ decimal k) (decimal n) (decimal k)).1 (refl, no_dot n h.0), (laws.number (decimal n) n).1 (refl, h.0))
          ((laws.number (decimal k) k).1 (refl, h.1))

  second_back : (text : List ℕ) (k : ℕ) (cut : Option (List ℕ × List ℕ)) → cut_first dot text ≡ cut → second_number cut ≡ Some k → (n : ℕ) × (n < 2 ^ 64) × (k < 2 ^ 64) × (text ≡ decimal n ++ dot ∷ decimal k)
  second_back text k None e h = cc
  second_back text k (Some halves) e h = by (number_below (2 ^ 64) halves.0) refl h
    where
      by : (o : Option ℕ) → number_below (2 ^ 64) halves.0 ≡ o → cond (is_some o) (number_below (2 ^ 64) halves.1) None ≡ Some k → (n : ℕ) × (n < 2 ^ 64) × (k < 2 ^ 64) × (text ≡ decimal n ++ dot ∷ decimal k)
      by None f g = cc
      by (Some n) f g =
          let first = (laws.number halves.0 n).0 f in
          let second = (laws.number halves.1 k).0 g in
          let whole = ((laws.cut text halves.0 halves.1).0 e).0 in
          (n, first.1, second.1, whole ∙ ap (λ t. t ++ dot ∷ halves.1) first.0 ∙ ap (λ t. decimal n ++ dot ∷ t) second.0)

  pub trash_back : (path : List ℕ) (k : ℕ) → trash_number path ≡ Some k → (n : ℕ) × IsTrash path n k
  trash_back path k h = by (starts_with nat_eq path (codes "conda-meta/.trash/")) refl h
    where
      by : (v : Bool) → starts_with nat_eq path (codes "conda-meta/.trash/") ≡ v → cond v (second_number (cut_first dot (drop 18 path))) None ≡ Some k → (n : ℕ) × IsTrash path n k
      by true e g =
          let r = second_back (drop 18 path) k (cut_first dot (drop 18 path)) refl g in
          let front : codes "conda-meta/.trash/" ≡ take 18 path = (bytes_decides (codes "conda-meta/.trash/") (take 18 path)).0 e in
          let whole : path ≡ codes "conda-meta/.trash/" ++ drop 18 path = sym (take-append-drop 18 path) ∙ ap (λ f. f ++ drop 18 path) (sym front) in
          (r.0, (r.1, r.2, whole ∙ ap (λ d. codes "conda-meta/.trash/" ++ d) r.3))
      by false e g = cc

pub number_in_trash : (path : List ℕ) (k : ℕ) → trash_number path ≡ Some k → unwrap_or (trash_number path) (sum path) ≡ k
number_in_trash path k h = rw h refl

-- the sum, where the path is none of the trash
pub sum_elsewhere : (path : List ℕ) → ((k : ℕ) → trash_number path ≡ Some k → (n : ℕ) × IsTrash path n k) → ((n k : ℕ) → IsTrash path n k → ⊥) → unwrap_or (trash_number path) (sum path) ≡ sum path
sum_elsewhere path back h = by (trash_number path) refl
  where
    by : (o : Option ℕ) → trash_number path ≡ o → unwrap_or o (sum path) ≡ sum path
    by None e = refl
    by (Some k) e = let r = back k e in absurd (h r.0 k r.1)

-- what `strip_prefix` gives
pub behind_front : (front text : List ℕ) (r : Option (Bor (List ℕ))) → MatchOption r (FindsTextPrefix front text None) (λ x. (n : ℕ) × FindsTextPrefix front text (Some n) × (x.now ≡ drop n text) × (length x.now + n ≡ length text)) → MatchOption r (starts_with nat_eq text front ≡ false) (λ x. (starts_with nat_eq text front ≡ true) × (x.now ≡ drop (length front) text))
behind_front front text None h = sym (starts_text false front text h)
behind_front front text (Some x) h =
    let found = h.1 in
    (sym (starts_text true front text (h.0, found, rw found.0 (found.2))), h.2 ∙ ap (λ n. drop n text) found.0)
