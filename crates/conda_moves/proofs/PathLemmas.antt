-- Sets of paths, and paths that stand among others.
use Rattle.std.proofs.Common.{◌≡◌, ◌||◌, ℕ, Bool, true, false, cond, List, [], ◌∷◌, ◌++◌, Bor, refl, ap, sym, ◌∙◌}
use Rattle.std.proofs.lemmas.Bool.{true≢false}
use Rattle.std.proofs.lemmas.Bool.Decides.{Decides-eqb}
use Rattle.std.proofs.lemmas.List.Folds.{list_any-append}
use Rattle.std.proofs.lemmas.Map.Views.{Contains-from_any, list_any-from_Contains}
use Rattle.std.proofs.lemmas.Slice.Eq.{slice_eq-Decides}
use Rattle.std.specs.BTreeSet.{Updates}
use Rattle.std.specs.Cmp.Lexicographic.{nat_list_eq_equiv, slice_cmp, texts_ties}
use Rattle.std.specs.List.{Contains, list_any}
use Rattle.std.specs.Ordering.{nat_cmp}
use Rattle.conda_base.specs.Texts.{is_text}
use Rattle.conda_changes.specs.Paths.{HasJust, Texts, is_in}

pub same_text : (a b : List ℕ) → is_text a b ≡ true → a ≡ b
same_text a b h = (slice_eq-Decides Decides-eqb a b (is_text a b) refl).0 h

pub text_itself : (a b : List ℕ) → a ≡ b → is_text a b ≡ true
text_itself a b same = (slice_eq-Decides Decides-eqb a b (is_text a b) refl).1 same

among : (b x y : Bool) → x ≡ y → cond b true x ≡ (y || (b || false))
among true x true same = refl
among true x false same = refl
among false x true same = same
among false x false same = same

-- a set of texts with one more
pub one_text : (old new : Texts) (key : Bor (List ℕ)) (before : List (List ℕ)) → HasJust old before
    → Updates (λ x y. slice_cmp nat_cmp x.now y.now) old new key true → HasJust new (before ++ key.now ∷ [])
one_text old new key before has updates = λ text.
    let query : Bor (List ℕ) = record { ref_ptr = (0, 0); now = text } in
    updates.0 query
    ∙ ap (λ b. cond b true (is_in old text)) (sym (texts_ties key.now text) ∙ nat_list_eq_equiv.symm key.now text)
    ∙ among (is_text text key.now) (is_in old text) (list_any (is_text text) before) (has text)
    ∙ sym (list_any-append (is_text text) before (key.now ∷ []))

-- what a set has is among its texts, and back
pub in_texts : (set : Texts) (texts : List (List ℕ)) (text : List ℕ) → HasJust set texts → is_in set text ≡ true → Contains texts text
in_texts set texts text has h = Contains-from_any same_text text texts (sym (has text) ∙ h)

pub in_set : (set : Texts) (texts : List (List ℕ)) (text : List ℕ) → HasJust set texts → Contains texts text → is_in set text ≡ true
in_set set texts text has h = has text ∙ list_any-from_Contains nat_list_eq_equiv text texts h

-- what a set hasn't is not among its texts, and back
pub not_in_texts : (set : Texts) (texts : List (List ℕ)) (text : List ℕ) → HasJust set texts → is_in set text ≡ false
    → ¬ Contains texts text
not_in_texts set texts text has h among = true≢false (sym (in_set set texts text has among) ∙ h)

pub not_in_set : (set : Texts) (texts : List (List ℕ)) (text : List ℕ) → HasJust set texts → ¬ Contains texts text
    → is_in set text ≡ false
not_in_set set texts text has h = by (is_in set text) refl
  where
    by : (b : Bool) → is_in set text ≡ b → b ≡ false
    by true e = absurd (h (in_texts set texts text has e))
    by false e = refl

-- a set with nothing in it
pub no_text : (set : Texts) → set.keys ≡ [] → HasJust set []
no_text set empty = λ text. rw empty refl
