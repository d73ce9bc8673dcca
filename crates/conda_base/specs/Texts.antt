-- Words on texts, which are lists of bytes.
use Rattle.std.specs.Prelude.{◌≡◌, ℕ, Bool, true, false, ◌==◌, nat_eq, if◌then◌else◌, List, [], ◌∷◌, Option, None, Some, slice_get, length, ◌-◌}
use Rattle.std.specs.Cmp.Lexicographic.{pointwise, slice_cmp}
use Rattle.std.specs.List.{AllByRecursion}
use Rattle.std.specs.Option.{option_map, option_map_or}
use Rattle.std.specs.Ordering.{nat_cmp}
use Rattle.std.specs.declared.cmp.Ordering.{Ordering}

-- the byte is this one
abbrev pub is_byte : ℕ → ℕ → Bool
is_byte c b = b == c

-- the two texts are one
abbrev pub is_text : List ℕ → List ℕ → Bool
is_text = pointwise nat_eq

-- the list has nothing in it
abbrev pub is_empty : {A : Type 0} → List A → Bool
is_empty [] = true
is_empty (x ∷ xs) = false

-- the text begins with this byte
abbrev pub begins_with : ℕ → List ℕ → Bool
begins_with c [] = false
begins_with c (b ∷ rest) = b == c

-- the text ends with this byte
abbrev pub ends_with : ℕ → List ℕ → Bool
ends_with c text = option_map_or (λ b. b == c) (slice_get text (length text - 1)) false

-- the byte stands nowhere in the text
abbrev pub IsFreeOf : ℕ → List ℕ → Type 0
IsFreeOf c text = AllByRecursion (λ b. (b == c) ≡ false) text

-- ---- a text cut in two

-- the two halves of a text, with one more byte in front of the first
abbrev pub in_front : ℕ → List ℕ × List ℕ → List ℕ × List ℕ
in_front b halves = (b ∷ halves.0, halves.1)

-- what stands before the first such byte, and behind it
abbrev pub cut_first : ℕ → List ℕ → Option (List ℕ × List ℕ)
cut_first c [] = None
cut_first c (b ∷ rest) = if b == c then Some ([], rest) else option_map (in_front b) (cut_first c rest)

-- a cut behind a byte, or else at the byte
abbrev pub cut_behind : ℕ → ℕ → List ℕ → Option (List ℕ × List ℕ) → Option (List ℕ × List ℕ)
cut_behind c b rest (Some halves) = Some (in_front b halves)
cut_behind c b rest None = if b == c then Some ([], rest) else None

-- what stands before the last such byte, and behind it
abbrev pub cut_last : ℕ → List ℕ → Option (List ℕ × List ℕ)
cut_last c [] = None
cut_last c (b ∷ rest) = cut_behind c b rest (cut_last c rest)

-- ---- texts in order

-- the text comes before the first of these by bytes, if there is one
abbrev pub IsBeforeFirst : List ℕ → List (List ℕ) → Type 0
IsBeforeFirst text [] = Unit {0}
IsBeforeFirst text (next ∷ rest) = slice_cmp nat_cmp text next ≡ Ordering.Less

-- texts ascending by their bytes, so that none stands twice
abbrev pub Ascending : List (List ℕ) → Type 0
Ascending [] = Unit {0}
Ascending (text ∷ rest) = IsBeforeFirst text rest × Ascending rest
