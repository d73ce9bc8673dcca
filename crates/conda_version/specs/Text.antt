-- The text of a version, before its grammar: conda's version.py.
use Rattle.std.specs.Prelude.{ℕ, Bool, not, ◌==◌, ◌&&◌, if◌then◌else◌, List, [], ◌∷◌, map, reverse}
use Rattle.std.specs.Char.{to_ascii_lowercase}
use Rattle.std.specs.List.{list_any}
use Rattle.conda_base.specs.Signs.{dash, space, underscore}
use Rattle.conda_base.specs.Texts.{is_byte}

-- the text from its first character that is no space
abbrev pub without_front : List ℕ → List ℕ
without_front [] = []
without_front (b ∷ bs) = if b == space then without_front bs else b ∷ bs

-- the text without the spaces at its ends
abbrev pub trimmed : List ℕ → List ℕ
trimmed text = reverse (without_front (reverse (without_front text)))

-- the text holds this character
abbrev pub holds : ℕ → List ℕ → Bool
holds c text = list_any (is_byte c) text

-- `-` read as `_`
abbrev pub underscored : ℕ → ℕ
underscored b = if b == dash then underscore else b

-- The text in lower case. Where it holds `-` and no `_`, each `-` is read as `_`.
abbrev pub plain : List ℕ → List ℕ
plain text =
    if holds dash text && not (holds underscore text) then map (λ b. underscored (to_ascii_lowercase b)) text
    else map to_ascii_lowercase text
