-- Lemmas on texts that have no spaces at their ends.
use Rattle.conda_spec.specs.Parts.{NoneOf}
use Rattle.std.proofs.Common.{◌≡◌, ◌≢◌, ℕ, subst, false, cond, List, [], ◌∷◌, ◌++◌, reverse, refl, sym, ap, ◌∙◌}
use Rattle.std.proofs.lemmas.List.{reverse-reverse, reverse-append}
use Rattle.conda_version.specs.Text.{without_front, trimmed}
use Rattle.conda_spec.proofs.PieceLemmas.{none_reversed}
use Rattle.conda_spec.proofs.KeptLemmas.{is_space}

-- no space stands in front
abbrev pub BeginsBare : List ℕ → Type 0
BeginsBare text = without_front text ≡ text

-- no space stands at the end
abbrev pub EndsBare : List ℕ → Type 0
EndsBare text = BeginsBare (reverse text)

pub front_of_word : (x : ℕ) (xs : List ℕ) → is_space x ≡ false → BeginsBare (x ∷ xs)
front_of_word x xs h = ap (λ k. cond k (without_front xs) (x ∷ xs)) h

word_begins : (xs : List ℕ) → NoneOf is_space xs → BeginsBare xs
word_begins [] h = refl
word_begins (x ∷ xs) h = front_of_word x xs (h.0)

pub word_ends : (xs : List ℕ) → NoneOf is_space xs → EndsBare xs
word_ends xs h = word_begins (reverse xs) (none_reversed is_space xs h)

-- a word at the end decides, and where there is none what stands before it
begins_by : (xs ys : List ℕ) → NoneOf is_space xs → BeginsBare ys → BeginsBare (xs ++ ys)
begins_by [] ys h k = k
begins_by (x ∷ xs) ys h k = front_of_word x (xs ++ ys) (h.0)

pub ends_by : (xs ys : List ℕ) → EndsBare xs → NoneOf is_space ys → EndsBare (xs ++ ys)
ends_by xs ys h k = subst BeginsBare (sym (reverse-append xs ys)) (begins_by (reverse ys) (reverse xs) (none_reversed is_space ys k) h)

pub begins_with_word : (xs ys : List ℕ) → NoneOf is_space xs → xs ≢ [] → BeginsBare (xs ++ ys)
begins_with_word [] ys h some = absurd (some refl)
begins_with_word (x ∷ xs) ys h some = front_of_word x (xs ++ ys) (h.0)

reverse_some : (xs : List ℕ) → xs ≢ [] → reverse xs ≢ []
reverse_some xs some e = some (sym (reverse-reverse xs) ∙ ap reverse e)

pub ends_by_word : (xs ys : List ℕ) → NoneOf is_space ys → ys ≢ [] → EndsBare (xs ++ ys)
ends_by_word xs ys h some =
    subst BeginsBare (sym (reverse-append xs ys))
    (begins_with_word (reverse ys) (reverse xs) (none_reversed is_space ys h) (reverse_some ys some))

-- nothing is trimmed of such a text
pub trimmed_same : (text : List ℕ) → BeginsBare text → EndsBare text → trimmed text ≡ text
trimmed_same text begins ends = ap (λ t. reverse (without_front (reverse t))) begins ∙ ap reverse ends ∙ reverse-reverse text
