-- Lemmas on texts that are put together from pieces, and on the places where these are taken apart again.
use Rattle.std.proofs.Common.{◌≡◌, ℕ, suc, subst, ◌+◌, Bool, true, false, length, List, [], ◌∷◌, ◌++◌, take, drop, reverse, refl, sym, ap, ◌∙◌, arith}
use Rattle.std.proofs.lemmas.List.{reverse-append}
use Rattle.conda_spec.specs.Parts.{NoneOf}
use Rattle.std.proofs.Math.Seq.{take-append_seam}
use Rattle.std.specs.List.{AllByRecursion, onto_first, prefix_len, position_or_len, before_first, after_first, slice_split}

-- each character of the text is of this kind
abbrev pub AllOf : (ℕ → Bool) → List ℕ → Type 0
AllOf kind text = AllByRecursion (λ b. kind b ≡ true) text

pub none_in_both : (p : ℕ → Bool) (xs ys : List ℕ) → NoneOf p xs → NoneOf p ys → NoneOf p (xs ++ ys)
none_in_both p [] ys h k = k
none_in_both p (x ∷ xs) ys h k = (h.0, none_in_both p xs ys h.1 k)

pub fewer : (p q : ℕ → Bool) → ((b : ℕ) → p b ≡ false → q b ≡ false) → (xs : List ℕ) → NoneOf p xs → NoneOf q xs
fewer p q less [] h = tt
fewer p q less (x ∷ xs) h = (less x h.0, fewer p q less xs h.1)

pub none_of_all : (p q : ℕ → Bool) → ((b : ℕ) → p b ≡ true → q b ≡ false) → (xs : List ℕ) → AllOf p xs → NoneOf q xs
none_of_all p q less [] h = tt
none_of_all p q less (x ∷ xs) h = (less x h.0, none_of_all p q less xs h.1)

-- the longest run in front
pub run_at_end : (p : ℕ → Bool) (xs : List ℕ) → AllOf p xs → prefix_len p xs ≡ length xs
run_at_end p [] h = refl
run_at_end p (x ∷ xs) h = rw (h.0) (grind (arith, run_at_end p xs h.1))

pub run_before : (p : ℕ → Bool) (xs : List ℕ) (y : ℕ) (ys : List ℕ) → AllOf p xs → p y ≡ false → prefix_len p (xs ++ (y ∷ ys)) ≡ length xs
run_before p [] y ys h e = rw e refl
run_before p (x ∷ xs) y ys h e = rw (h.0) (grind (arith, run_before p xs y ys h.1 e))

-- the first character of a kind
pub first_place : (p : ℕ → Bool) (xs : List ℕ) (y : ℕ) (ys : List ℕ) → NoneOf p xs → p y ≡ true
    → position_or_len p (xs ++ (y ∷ ys)) ≡ length xs
first_place p [] y ys h e = rw e refl
first_place p (x ∷ xs) y ys h e = rw (h.0) (grind (arith, first_place p xs y ys h.1 e))

pub no_place : (p : ℕ → Bool) (xs : List ℕ) → NoneOf p xs → position_or_len p xs ≡ length xs
no_place p [] h = refl
no_place p (x ∷ xs) h = rw (h.0) (grind (arith, no_place p xs h.1))

pub before_place : (p : ℕ → Bool) (xs : List ℕ) (y : ℕ) (ys : List ℕ) → NoneOf p xs → p y ≡ true → before_first p (xs ++ (y ∷ ys)) ≡ xs
before_place p xs y ys h e = ap (λ n. take n (xs ++ (y ∷ ys))) (first_place p xs y ys h e) ∙ take-append_seam xs (y ∷ ys)

drop_one_more : (xs : List ℕ) (y : ℕ) (ys : List ℕ) → drop (length xs + 1) (xs ++ (y ∷ ys)) ≡ ys
drop_one_more [] y ys = refl
drop_one_more (x ∷ xs) y ys =
    let e : length (x ∷ xs) + 1 ≡ suc (length xs + 1) = omega arith in
    rw e (drop_one_more xs y ys)

pub after_place : (p : ℕ → Bool) (xs : List ℕ) (y : ℕ) (ys : List ℕ) → NoneOf p xs → p y ≡ true → after_first p (xs ++ (y ∷ ys)) ≡ ys
after_place p xs y ys h e = ap (λ n. drop (n + 1) (xs ++ (y ∷ ys))) (first_place p xs y ys h e) ∙ drop_one_more xs y ys

-- the last character of a kind
pub none_reversed : (p : ℕ → Bool) (xs : List ℕ) → NoneOf p xs → NoneOf p (reverse xs)
none_reversed p [] h = tt
none_reversed p (x ∷ xs) h =
    subst (NoneOf p) (sym (reverse-append (x ∷ []) xs)) (none_in_both p (reverse xs) (x ∷ []) (none_reversed p xs h.1) (h.0, tt))

-- the parts of a text at the characters of a kind
pub one_part : (p : ℕ → Bool) (xs : List ℕ) → NoneOf p xs → slice_split p xs ≡ xs ∷ []
one_part p [] h = refl
one_part p (x ∷ xs) h = rw (h.0) (ap (onto_first x) (one_part p xs h.1))

pub first_part : (p : ℕ → Bool) (xs : List ℕ) (y : ℕ) (ys : List ℕ) → NoneOf p xs → p y ≡ true
    → slice_split p (xs ++ (y ∷ ys)) ≡ xs ∷ slice_split p ys
first_part p [] y ys h e = rw e refl
first_part p (x ∷ xs) y ys h e = rw (h.0) (ap (onto_first x) (first_part p xs y ys h.1 e))
