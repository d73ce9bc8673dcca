-- Lemmas on the characters of a clause, and on how it begins and ends.
use Rattle.std.proofs.Common.{◌≡◌, ℕ, ◌<◌, Bool, true, false, List, [], ◌∷◌, ◌++◌, length, take, None, refl, sym, ap, ◌∙◌, arith, append_assoc}
use Rattle.std.proofs.lemmas.Bool.Decides.{nat_tests}
use Rattle.std.proofs.lemmas.List.{take-append-drop}
use Rattle.std.proofs.lemmas.List.Folds.{list_all-append}
use Rattle.std.specs.Prelude.{◌==◌, ◌||◌}
use Rattle.std.specs.List.{list_all}
use Rattle.conda_base.specs.Signs.{bar, close_paren, comma, equals, greater, less, open_paren}
use Rattle.conda_base.specs.Texts.{ends_with}
use Rattle.conda_clause.specs.Clause.{clause_fault, is_clause_char}
use Rattle.conda_clause.specs.Tests.{sign_len, sign_of, signed}
use Rattle.conda_clause.specs.Tree.{Rank, Tree, Writes}
use Rattle.conda_clause.specs.Tree.Tree.{both, either, parens, part, single, test}
use Rattle.conda_clause.proofs.FaultLemmas.{no_bar, no_comma}
use Rattle.conda_clause.proofs.FormLemmas.{ends_at, is_beside, is_test_char, table_read, test_body, test_chars}
use Rattle.conda_clause.proofs.GrammarLemmas.{clause_only}
use Rattle.conda_clause.proofs.TestLemmas.{NoDotEnd, all_more, and_both, and_left, and_right, unlike}

clause_char : (b : ℕ) → is_test_char b ≡ true → is_clause_char b ≡ true
clause_char b h = grind (arith, nat_tests)

joint_chars : (s : List ℕ) (m : ℕ) (t : List ℕ) → is_clause_char m ≡ true → list_all is_clause_char s ≡ true
    → list_all is_clause_char t ≡ true
    → list_all is_clause_char (s ++ m ∷ t) ≡ true
joint_chars s m t h f g =
    list_all-append is_clause_char s (m ∷ t)
    ∙ and_both (list_all is_clause_char s) (list_all is_clause_char (m ∷ t)) f (and_both (is_clause_char m) (list_all is_clause_char t) h g)

writes_chars : (law : NoDotEnd) {rank : Rank} (tree : Tree rank) (text : List ℕ) → Writes tree text → list_all is_clause_char text ≡ true
writes_chars law (part p) text h = writes_chars law p text h
writes_chars law (either p more) text h =
    ap (list_all is_clause_char) h.2 ∙ joint_chars h.0 bar h.1 refl (writes_chars law p h.0 h.3) (writes_chars law more h.1 h.4)
writes_chars law (single a) text h = writes_chars law a text h
writes_chars law (both a more) text h =
    ap (list_all is_clause_char) h.2 ∙ joint_chars h.0 comma h.1 refl (writes_chars law a h.0 h.3) (writes_chars law more h.1 h.4)
writes_chars law (test t) text h = all_more is_test_char is_clause_char clause_char text (test_chars text t (table_read law text t h))
writes_chars law (parens inside) text h =
    ap (list_all is_clause_char) h.1
    ∙ joint_chars [] open_paren (h.0 ++ close_paren ∷ []) refl refl
    (joint_chars h.0 close_paren [] refl (writes_chars law inside h.0 h.2) refl)

-- each character of a clause is one that a clause may hold
pub clause_chars : (law : NoDotEnd) (text : List ℕ) → clause_fault text ≡ None → list_all is_clause_char text ≡ true
clause_chars law text h = let is = clause_only text h in writes_chars law is.0 text is.1

-- a character at the end of a clause
abbrev is_last : ℕ → Bool
is_last b = is_beside b || b == close_paren

-- the text ends with such a character
abbrev EndsWell : List ℕ → Type 0
EndsWell text = (front : List ℕ) × (last : ℕ) × (text ≡ front ++ last ∷ []) × (is_last last ≡ true)

behind_ends : (text front back : List ℕ) → text ≡ front ++ back → EndsWell back → EndsWell text
behind_ends text front back e h =
    (front ++ h.0, h.1, e ∙ ap (λ r. front ++ r) h.2 ∙ sym (append_assoc front h.0 (h.1 ∷ [])), h.3)

body_ends : (w : List ℕ) → 0 < length w → list_all is_beside w ≡ true → EndsWell w
body_ends [] h k = absurd (omega arith)
body_ends (b ∷ []) h k = ([], b, refl, ap (λ q. q || b == close_paren) (and_left (is_beside b) true k))
body_ends (b ∷ c ∷ cs) h k =
    behind_ends (b ∷ c ∷ cs) (b ∷ []) (c ∷ cs) refl
    (body_ends (c ∷ cs) (omega arith) (and_right (is_beside b) (list_all is_beside (c ∷ cs)) k))

joint_ends : (text front : List ℕ) (joint : ℕ) (back : List ℕ) → text ≡ front ++ joint ∷ back → EndsWell back → EndsWell text
joint_ends text front joint back e h = behind_ends text (front ++ joint ∷ []) back (e ∙ sym (append_assoc front (joint ∷ []) back)) h

writes_ends : (law : NoDotEnd) {rank : Rank} (tree : Tree rank) (text : List ℕ) → Writes tree text → EndsWell text
writes_ends law (part p) text h = writes_ends law p text h
writes_ends law (either p more) text h = joint_ends text h.0 bar h.1 h.2 (writes_ends law more h.1 h.4)
writes_ends law (single a) text h = writes_ends law a text h
writes_ends law (both a more) text h = joint_ends text h.0 comma h.1 h.2 (writes_ends law more h.1 h.4)
writes_ends law (test t) text h =
    let body = test_body text t (table_read law text t h) in
    let n : ℕ = sign_len (sign_of text) in
    behind_ends text (take n text) (signed text) (sym (take-append-drop n text)) (body_ends (signed text) body.some body.chars)
writes_ends law (parens inside) text h = (open_paren ∷ h.0, close_paren, h.1, refl)

never_last : (k : ℕ) → is_last k ≡ false → (text : List ℕ) → EndsWell text → ends_with k text ≡ false
never_last k f text h = ap (ends_with k) h.2 ∙ ends_at h.0 k h.1 ∙ unlike is_last h.1 k h.3 f

-- no clause ends with `,`, `|`, `<`, `>` or `=`
pub ends_well : (law : NoDotEnd) (text : List ℕ) → clause_fault text ≡ None
    → (ends_with comma text ≡ false) × (ends_with bar text ≡ false) × (ends_with less text ≡ false) × (ends_with greater text ≡ false)
    × (ends_with equals text ≡ false)
ends_well law text h =
    let is = clause_only text h in
    let well = writes_ends law is.0 text is.1 in (
      never_last comma refl text well,
      never_last bar refl text well,
      never_last less refl text well,
      never_last greater refl text well,
      never_last equals refl text well,
    )

-- and none begins with a joint
pub begins_well : (text : List ℕ) → clause_fault text ≡ None → (bs : List ℕ) → (text ≡ comma ∷ bs → ⊥) × (text ≡ bar ∷ bs → ⊥)
begins_well text h bs = (λ e. no_comma bs (ap clause_fault (sym e) ∙ h), λ e. no_bar bs (ap clause_fault (sym e) ∙ h))
