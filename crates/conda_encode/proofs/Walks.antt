-- Steps of loops that write clauses one after another.
use Rattle.std.proofs.Common.{◌≡◌, ℕ, ◌+◌, ◌≤◌, ◌<◌, Bool, true, false, cond, ◌||◌, List, [], ◌∷◌, ◌++◌, length, map, filter, take, get_or, refl, sym, ap, ◌∙◌, subst, inl, inr, arith, append_assoc}
use Rattle.std.proofs.lemmas.List.{length-take-le, map-append, take_all, take_more}
use Rattle.std.proofs.lemmas.List.Elements.{filter-append}
use Rattle.std.proofs.lemmas.Grind.{flat_map-append}
use Rattle.std.specs.List.{flat_map, list_any}
use Rattle.conda_encode.specs.Variables.{numbered}
use Rattle.conda_encode.proofs.Literals.{by_side}
use Rattle.conda_encode.proofs.Members.{In}
use Rattle.conda_encode.proofs.Ones.{numbered-append}

pub numbered_more : {A : Type 0} (n : ℕ) (xs : List A) (i m : ℕ) (d : A) → i < length xs → m ≡ n + i →
    numbered n (take (i + 1) xs) ≡ numbered n (take i xs) ++ (m, get_or xs i d) ∷ []
numbered_more {A} n xs i m d lt e =
    let short : n + length (take i xs) ≡ m = omega (arith, length-take-le i xs) in
    ap (numbered n) (take_more xs i d lt)
    ∙ numbered-append n (take i xs) (get_or xs i d ∷ [])
    ∙ ap (λ k. numbered n (take i xs) ++ (k, get_or xs i d) ∷ []) short

append_nil : {A : Type 0} (xs : List A) → xs ++ [] ≡ xs
append_nil [] = refl
append_nil (x ∷ xs) = ap (λ zs. x ∷ zs) (append_nil xs)

-- one more thing, of which f makes a list
pub flat_more : {A B : Type 0} (f : ℕ × A → List B) (n : ℕ) (xs : List A) (i m : ℕ) (x : A) (start before after : List B) → i < length xs → m ≡ n + i → get_or xs i x ≡ x →
    before ≡ start ++ flat_map f (numbered n (take i xs)) → after ≡ before ++ f (m, x) → after ≡ start ++ flat_map f (numbered n (take (i + 1) xs))
flat_more {A} {B} f n xs i m x start before after lt e at was now =
    let P : A → Type 0 = λ u. flat_map f (numbered n (take (i + 1) xs)) ≡ flat_map f (numbered n (take i xs)) ++ f (m, u) in
    let plain : flat_map f (numbered n (take (i + 1) xs)) ≡ flat_map f (numbered n (take i xs)) ++ f (m, get_or xs i x)
    = ap (flat_map f) (numbered_more n xs i m x lt e)
    ∙ flat_map-append f (numbered n (take i xs)) ((m, get_or xs i x) ∷ [])
    ∙ ap (λ zs. flat_map f (numbered n (take i xs)) ++ zs) (append_nil (f (m, get_or xs i x))) in
    let step : flat_map f (numbered n (take (i + 1) xs)) ≡ flat_map f (numbered n (take i xs)) ++ f (m, x) = subst P at plain in
    now ∙ ap (λ zs. zs ++ f (m, x)) was ∙ append_assoc start (flat_map f (numbered n (take i xs))) (f (m, x)) ∙ ap (λ zs. start ++ zs) (sym step)

-- at the end of the loop
pub flat_all : {A B : Type 0} (f : ℕ × A → List B) (n : ℕ) (xs : List A) (i : ℕ) (start after : List B) → length xs ≤ i →
    after ≡ start ++ flat_map f (numbered n (take i xs)) → after ≡ start ++ flat_map f (numbered n xs)
flat_all f n xs i start after le was = was ∙ ap (λ zs. start ++ flat_map f (numbered n zs)) (take_all i xs le)

-- at its start
pub flat_none : {A B : Type 0} (f : ℕ × A → List B) (n : ℕ) (xs : List A) (start : List B) → start ≡ start ++ flat_map f (numbered n (take 0 xs))
flat_none f n xs start = sym (append_nil start)

-- one more thing, of which f makes one
pub map_more_numbered : {A B : Type 0} (f : ℕ × A → B) (n : ℕ) (xs : List A) (i m : ℕ) (x : A) (start before after : List B) → i < length xs → m ≡ n + i → get_or xs i x ≡ x →
    before ≡ start ++ map f (numbered n (take i xs)) → after ≡ before ++ f (m, x) ∷ [] → after ≡ start ++ map f (numbered n (take (i + 1) xs))
map_more_numbered {A} {B} f n xs i m x start before after lt e at was now =
    let P : A → Type 0 = λ u. map f (numbered n (take (i + 1) xs)) ≡ map f (numbered n (take i xs)) ++ f (m, u) ∷ [] in
    let plain : map f (numbered n (take (i + 1) xs)) ≡ map f (numbered n (take i xs)) ++ f (m, get_or xs i x) ∷ []
    = ap (map f) (numbered_more n xs i m x lt e) ∙ map-append f (numbered n (take i xs)) ((m, get_or xs i x) ∷ []) in
    let step : map f (numbered n (take (i + 1) xs)) ≡ map f (numbered n (take i xs)) ++ f (m, x) ∷ [] = subst P at plain in
    now ∙ ap (λ zs. zs ++ f (m, x) ∷ []) was ∙ append_assoc start (map f (numbered n (take i xs))) (f (m, x) ∷ []) ∙ ap (λ zs. start ++ zs) (sym step)

pub map_all_numbered : {A B : Type 0} (f : ℕ × A → B) (n : ℕ) (xs : List A) (i : ℕ) (start after : List B) → length xs ≤ i →
    after ≡ start ++ map f (numbered n (take i xs)) → after ≡ start ++ map f (numbered n xs)
map_all_numbered f n xs i start after le was = was ∙ ap (λ zs. start ++ map f (numbered n zs)) (take_all i xs le)

-- a filter's next element
take_filter : {A : Type 0} (p : A → Bool) (xs : List A) (i : ℕ) (x : A) → i < length xs → get_or xs i x ≡ x → filter p (take (i + 1) xs) ≡ filter p (take i xs) ++ cond (p x) (x ∷ []) []
take_filter {A} p xs i x lt at =
    let P : A → Type 0 = λ u. filter p (take (i + 1) xs) ≡ filter p (take i xs) ++ cond (p u) (u ∷ []) [] in
    subst P at (ap (filter p) (take_more xs i x lt) ∙ filter-append p (take i xs) (get_or xs i x ∷ []))

pub filter_more : {A B : Type 0} (p : A → Bool) (f : A → B) (xs : List A) (i : ℕ) (x : A) (start before after : List B) → i < length xs → get_or xs i x ≡ x → p x ≡ true →
    before ≡ start ++ map f (filter p (take i xs)) → after ≡ before ++ f x ∷ [] → after ≡ start ++ map f (filter p (take (i + 1) xs))
filter_more p f xs i x start before after lt at h was now =
    let step : map f (filter p (take (i + 1) xs)) ≡ map f (filter p (take i xs)) ++ f x ∷ []
    = ap (map f) (take_filter p xs i x lt at ∙ ap (λ b. filter p (take i xs) ++ cond b (x ∷ []) []) h) ∙ map-append f (filter p (take i xs)) (x ∷ []) in
    now ∙ ap (λ zs. zs ++ f x ∷ []) was ∙ append_assoc start (map f (filter p (take i xs))) (f x ∷ []) ∙ ap (λ zs. start ++ zs) (sym step)

pub filter_skip : {A B : Type 0} (p : A → Bool) (f : A → B) (xs : List A) (i : ℕ) (x : A) (start before : List B) → i < length xs → get_or xs i x ≡ x → p x ≡ false →
    before ≡ start ++ map f (filter p (take i xs)) → before ≡ start ++ map f (filter p (take (i + 1) xs))
filter_skip p f xs i x start before lt at h was =
    let step : map f (filter p (take (i + 1) xs)) ≡ map f (filter p (take i xs))
    = ap (map f) (take_filter p xs i x lt at ∙ ap (λ b. filter p (take i xs) ++ cond b (x ∷ []) []) h ∙ append_nil (filter p (take i xs))) in
    was ∙ ap (λ zs. start ++ zs) (sym step)

pub filter_all : {A B : Type 0} (p : A → Bool) (f : A → B) (xs : List A) (i : ℕ) (start after : List B) → length xs ≤ i →
    after ≡ start ++ map f (filter p (take i xs)) → after ≡ start ++ map f (filter p xs)
filter_all p f xs i start after le was = was ∙ ap (λ zs. start ++ map f (filter p zs)) (take_all i xs le)

or_none : (a b : Bool) → a ≡ false → b ≡ false → (a || b) ≡ false
or_none a b e f = ap (λ c. c || b) e ∙ f

-- no element passes
pub any_none : {A : Type 0} (p : A → Bool) (xs : List A) → ((x : A) → In x xs → p x ≡ true → ⊥) → list_any p xs ≡ false
any_none p [] none = refl
any_none p (x ∷ xs) none =
    elim (by_side (p x)) [
      | inl e ↦ absurd (none x (inl refl) e)
      | inr e ↦ or_none (p x) (list_any p xs) e (any_none p xs (λ y i. none y (inr i)))
    ]

-- one more element, if it passes
pub filter_step : {A B : Type 0} (p : A → Bool) (f : A → B) (xs : List A) (i : ℕ) (x : A) (start before after : List B) → i < length xs → get_or xs i x ≡ x →
    before ≡ start ++ map f (filter p (take i xs)) → after ≡ before ++ map f (filter p (x ∷ [])) → after ≡ start ++ map f (filter p (take (i + 1) xs))
filter_step p f xs i x start before after lt at was now =
    let step : map f (filter p (take (i + 1) xs)) ≡ map f (filter p (take i xs)) ++ map f (filter p (x ∷ []))
    = ap (map f) (take_filter p xs i x lt at) ∙ map-append f (filter p (take i xs)) (filter p (x ∷ [])) in
    now ∙ ap (λ zs. zs ++ map f (filter p (x ∷ []))) was ∙ append_assoc start (map f (filter p (take i xs))) (map f (filter p (x ∷ []))) ∙ ap (λ zs. start ++ zs) (sym step)
