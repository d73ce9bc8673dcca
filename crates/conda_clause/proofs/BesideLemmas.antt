-- Lemmas on the clause that stands beside a build.
use Rattle.std.proofs.Common.{◌≡◌, ℕ, Bool, true, false, List, [], ◌∷◌, ◌++◌, map, codes, None, Some, refl, sym, ap, subst, ◌∙◌, lit≤, arith, append-nil}
use Rattle.std.proofs.lemmas.Bool.Decides.{nat_tests}
use Rattle.std.proofs.lemmas.List.{map-append}
use Rattle.std.proofs.lemmas.List.Folds.{list_all-append}
use Rattle.std.specs.Prelude.{if◌then◌else◌, ◌==◌}
use Rattle.std.specs.Char.{to_ascii_lowercase}
use Rattle.std.specs.List.{list_all}
use Rattle.conda_clause.specs.declared.reading.Wanted.TheVariants.{Atom}
use Rattle.conda_clause.specs.declared.test.Sign.TheVariants.{Plain}
use Rattle.conda_clause.specs.declared.test.Test.{Test}
use Rattle.conda_clause.specs.declared.test.Test.TheVariants.{Any, Starts}
use Rattle.conda_clause.specs.declared.token.Token.{Token}
use Rattle.conda_clause.specs.declared.token.Token.TheVariants as token
use Rattle.conda_clause.specs.Clause.{beside_build, clause_fault, is_single, tokens_beside_build, test_beside_build}
use Rattle.conda_clause.specs.Pieces.{pieces, tokens}
use Rattle.conda_clause.specs.Tests.{IsFaultless, IsTest, sign_of, test_of, test_texts}
use Rattle.conda_clause.specs.Tree.Tree.{part, single, test as alone}
use Rattle.conda_clause.proofs.FaultLemmas.{left_none, tokens_all}
use Rattle.conda_clause.proofs.FormLemmas.{dot_star, ended_beside, form, of_all, plain_sign, read_table}
use Rattle.conda_clause.proofs.GrammarLemmas.{clause_all}
use Rattle.conda_clause.proofs.SpellLemmas.{Spells, test_means, text_spells}
use Rattle.conda_clause.proofs.TestLemmas.{NoDotEnd, and_both, and_left, and_right, test_equal}

-- what a text of one test is
record IsOneTest (text : List ℕ) (t : Test) : Type 0 where
  pub good : clause_fault text ≡ None
  pub token : tokens text ≡ token.Test t ∷ []

one_test : (law : NoDotEnd) (text : List ℕ) (t : Test) → test_of text ≡ Some t → IsOneTest text t
one_test law text t h =
    record { good = clause_all law text (part (single (alone t)), read_table text t h, lit≤ tt); token = (test_means text t h).tokens }

-- Lower case, a character at a time.

abbrev is_lower : ℕ → Bool
is_lower b = to_ascii_lowercase b == b

equal_test : (m n : ℕ) → m ≡ n → (m == n) ≡ true
equal_test m n h = grind (arith, nat_tests)

lower_all : (xs : List ℕ) → map to_ascii_lowercase xs ≡ xs → list_all is_lower xs ≡ true
lower_all [] h = refl
lower_all (x ∷ xs) h =
    let first : to_ascii_lowercase x ≡ x = cc in
    let rest : map to_ascii_lowercase xs ≡ xs = cc in
    and_both (is_lower x) (list_all is_lower xs) (equal_test (to_ascii_lowercase x) x first) (lower_all xs rest)

all_lower : (xs : List ℕ) → list_all is_lower xs ≡ true → map to_ascii_lowercase xs ≡ xs
all_lower [] h = refl
all_lower (x ∷ xs) h =
    ap (λ b. b ∷ map to_ascii_lowercase xs) (test_equal (to_ascii_lowercase x) x (and_left (is_lower x) (list_all is_lower xs) h))
    ∙ ap (λ bs. x ∷ bs) (all_lower xs (and_right (is_lower x) (list_all is_lower xs) h))

front_lower : (v w : List ℕ) → list_all is_lower (v ++ w) ≡ true → list_all is_lower v ≡ true
front_lower v w h = and_left (list_all is_lower v) (list_all is_lower w) (sym (list_all-append is_lower v w) ∙ h)

-- the version of a test by a prefix is in lower case where the test is
starts_lower : (text v : List ℕ) → IsTest text (Starts v) → list_all is_lower text ≡ true → list_all is_lower v ≡ true
starts_lower text v h =
    of_all (λ t. list_all is_lower t ≡ true → list_all is_lower v ≡ true) (test_texts (Starts v)) (
      (λ k. k),
      (
        front_lower v (codes "*"),
        (
          front_lower v (codes ".*"),
          (
            front_lower v (codes "*"),
            (
              front_lower v (codes ".*"),
              (front_lower v (codes "*"), (front_lower v (codes ".*"), tt)),
            ),
          ),
        ),
      ),
    )
    text h.1

-- a version that is the only test of a text
only_version : (text v : List ℕ) → clause_fault text ≡ None → map to_ascii_lowercase text ≡ text → tokens text ≡ token.Test (Starts v) ∷ []
    → IsFaultless v × (map to_ascii_lowercase v ≡ v)
only_version text v good lower e =
    let spelled : Spells (token.Test (Starts v) ∷ []) text =
    subst (λ ts. Spells ts text) e (text_spells text (tokens_all Atom 0 0 (pieces text) (left_none text good))) in
    let is : IsTest text (Starts v) =
    subst (λ t. IsTest t (Starts v)) (sym (spelled.2 ∙ ap (λ r. spelled.0 ++ r) spelled.4 ∙ append-nil spelled.0))
    (read_table spelled.0 (Starts v) spelled.3) in
    (is.0, all_lower v (starts_lower text v is (lower_all text lower)))

-- The clause beside a build is one, in lower case, of the same tokens, and stays what it is.
pub record IsSoundBeside (text : List ℕ) : Type 0 where
  pub good : clause_fault (beside_build text) ≡ None
  pub lower : map to_ascii_lowercase (beside_build text) ≡ beside_build text
  pub same : tokens (beside_build text) ≡ tokens text
  pub fixed : beside_build (beside_build text) ≡ beside_build text

stays : (text : List ℕ) → clause_fault text ≡ None → map to_ascii_lowercase text ≡ text → beside_build text ≡ text → IsSoundBeside text
stays text good lower e = record {
  good = ap clause_fault e ∙ good;
  lower = ap (map to_ascii_lowercase) e ∙ lower ∙ sym e;
  same = ap tokens e;
  fixed = ap beside_build e;
}

turns : (text to : List ℕ) (test : Test) → beside_build text ≡ to → IsOneTest to test → map to_ascii_lowercase to ≡ to
    → beside_build to ≡ to
    → tokens text ≡ token.Test test ∷ [] → IsSoundBeside text
turns text to test e one lower fixed is = record {
  good = ap clause_fault e ∙ one.good;
  lower = ap (map to_ascii_lowercase) e ∙ lower ∙ sym e;
  same = ap tokens e ∙ one.token ∙ sym is;
  fixed = ap beside_build e ∙ fixed ∙ sym e;
}

star_fixed : (v : List ℕ) → IsFaultless v → beside_build (v ++ codes ".*") ≡ v ++ codes ".*"
star_fixed v h =
    ap (λ s. if is_single s then tokens_beside_build (v ++ codes ".*") (tokens (v ++ codes ".*")) else v ++ codes ".*")
    (plain_sign (v ++ codes ".*") (ended_beside dot_star v h))

by_test : (law : NoDotEnd) (text : List ℕ) (test : Test) → clause_fault text ≡ None → map to_ascii_lowercase text ≡ text
    → beside_build text ≡ test_beside_build text test
    → tokens text ≡ token.Test test ∷ [] → IsSoundBeside text
by_test law text (Starts v) good lower e is =
    let version = only_version text v good lower is in
    turns text (v ++ codes ".*") (Starts v) e (one_test law (v ++ codes ".*") (Starts v) (form law Plain dot_star v version.0))
    (map-append to_ascii_lowercase v (codes ".*") ∙ ap (λ bs. bs ++ codes ".*") version.1) (star_fixed v version.0) is
by_test law text Any good lower e is = turns text (codes "*") Any e (one_test law (codes "*") Any refl) refl refl is
by_test law text test good lower e is = stays text good lower e

by_tokens : (law : NoDotEnd) (text : List ℕ) (ts : List Token) → clause_fault text ≡ None → map to_ascii_lowercase text ≡ text
    → beside_build text ≡ tokens_beside_build text ts → tokens text ≡ ts → IsSoundBeside text
by_tokens law text (token.Test test ∷ []) good lower e is = by_test law text test good lower e is
by_tokens law text ts good lower e is = stays text good lower e

pub is_beside_build : (law : NoDotEnd) (text : List ℕ) → clause_fault text ≡ None → map to_ascii_lowercase text ≡ text → IsSoundBeside text
is_beside_build law text good lower = by_single (is_single (sign_of text)) refl
  where
    by_single : (k : Bool) → is_single (sign_of text) ≡ k → IsSoundBeside text
    by_single false e = stays text good lower (ap (λ k. if k then tokens_beside_build text (tokens text) else text) e)
    by_single true e =
        by_tokens law text (tokens text) good lower (ap (λ k. if k then tokens_beside_build text (tokens text) else text) e) refl
