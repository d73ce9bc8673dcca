-- Sets of paths. This project's own.
use Rattle.std.specs.Prelude.{◌≡◌, ℕ, Bool, List}
use Rattle.std.specs.BTreeSet.{BTreeSet, contains_by}
use Rattle.std.specs.Cmp.Lexicographic.{slice_cmp}
use Rattle.std.specs.List.{list_any}
use Rattle.std.specs.Ordering.{nat_cmp}
use denote.Ref.{Bor}
use Rattle.conda_base.specs.Texts.{is_text}

-- a set of texts
abbrev pub Texts : Type 0
Texts = BTreeSet (Bor (List ℕ))

-- the set has the text
abbrev pub is_in : Texts → List ℕ → Bool
is_in set text = contains_by (λ k. slice_cmp nat_cmp text k.now) set

-- the set has just these texts
abbrev pub HasJust : Texts → List (List ℕ) → Type 0
HasJust set texts = (text : List ℕ) → is_in set text ≡ list_any (is_text text) texts
