-- The laws of the crates below, as lemmas cite them.
use Rattle.std.proofs.Common.{◌≡◌, ◌↔◌, ◌<◌, ◌≤◌, ◌^◌, ℕ, true, false, length, List, ◌∷◌, ◌++◌, Some, None}
use Rattle.std.specs.List.{list_all}
use Rattle.std.specs.Fmt.{decimal}
use Rattle.std.specs.Str.Parse.{digits_value}
use Rattle.conda_base.specs.Numbers.{digits_below, is_digits, number_below}
use Rattle.conda_base.specs.Signs.{bar, comma, equals, greater, less}
use Rattle.conda_base.specs.Texts.{IsFreeOf, cut_first, cut_last, ends_with}
use Rattle.conda_clause.specs.Beside.{IsBesideBuild}
use Rattle.conda_clause.specs.Clause.{beside_build, clause_fault, is_clause_char}
use Rattle.conda_clause.specs.Tree.{IsClause}

pub record Laws : Type 0 where
  pub first : (mark : ℕ) (text before behind : List ℕ)
      → (cut_first mark text ≡ Some (before, behind)) ↔ ((text ≡ before ++ mark ∷ behind) × IsFreeOf mark before)
  pub last : (mark : ℕ) (text before behind : List ℕ)
      → (cut_last mark text ≡ Some (before, behind)) ↔ ((text ≡ before ++ mark ∷ behind) × IsFreeOf mark behind)
  pub no_first : (mark : ℕ) (text : List ℕ) → (cut_first mark text ≡ None) ↔ IsFreeOf mark text
  pub no_last : (mark : ℕ) (text : List ℕ) → (cut_last mark text ≡ None) ↔ IsFreeOf mark text
  pub number : (limit : ℕ) (text : List ℕ) (n : ℕ) → limit ≤ 2 ^ 64
      → (number_below limit text ≡ Some n) ↔ ((text ≡ decimal n) × (n < limit))
  pub digits : (limit : ℕ) (text : List ℕ) (n : ℕ)
      → (digits_below limit text ≡ Some n) ↔ ((is_digits text ≡ true) × (digits_value 10 text ≡ n) × (n < limit))
  pub some : (text : List ℕ) → clause_fault text ≡ None → 0 < length text
  pub chars : (text : List ℕ) → clause_fault text ≡ None → list_all is_clause_char text ≡ true
  pub front : (text : List ℕ) → clause_fault text ≡ None → (bs : List ℕ) → (text ≡ comma ∷ bs → ⊥) × (text ≡ bar ∷ bs → ⊥)
  pub back : (text : List ℕ) → clause_fault text ≡ None
      → (ends_with comma text ≡ false) × (ends_with bar text ≡ false) × (ends_with less text ≡ false) × (ends_with greater text ≡ false)
      × (ends_with equals text ≡ false)
  pub clause : (text : List ℕ) → clause_fault text ≡ None → IsClause text
  pub right : (text : List ℕ) → IsClause text → clause_fault text ≡ None
  pub beside : (text written : List ℕ) → clause_fault text ≡ None → IsBesideBuild text written ↔ (written ≡ beside_build text)
