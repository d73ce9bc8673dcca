-- How a clause is written beside a build, and that it holds for the same versions there.
use Rattle.std.proofs.Common.{◌≡◌, ℕ, Bool, true, false, List, [], ◌∷◌, ◌++◌, codes, Contains, None, refl, sym, ap, subst, ◌∙◌, lit<, append-nil, true≢false}
use Rattle.std.specs.Prelude.{if◌then◌else◌}
use Rattle.conda_clause.specs.declared.reading.Wanted.TheVariants.{Atom}
use Rattle.conda_clause.specs.declared.test.Sign.TheVariants.{Plain, Single}
use Rattle.conda_clause.specs.declared.test.Test.{Test}
use Rattle.conda_clause.specs.declared.test.Test.TheVariants.{Any, Starts}
use Rattle.conda_clause.specs.declared.token.Token.{Token}
use Rattle.conda_clause.specs.declared.token.Token.TheVariants as token
use Rattle.conda_clause.specs.declared.truth.Pass.TheVariants.{Read}
use Rattle.conda_clause.specs.Beside.{IsBesideBuild, IsNoSingle, single_texts}
use Rattle.conda_clause.specs.Beside.IsBesideBuild.{always, as_it_is, starts}
use Rattle.conda_clause.specs.Clause.{beside_build, clause_fault, is_single, tokens_beside_build}
use Rattle.conda_clause.specs.Pieces.{pieces, tokens}
use Rattle.conda_clause.specs.Tests.{IsFaultless, IsTest, sign_of, test_texts}
use Rattle.conda_clause.specs.Truth.{clause_holds, tokens_true}
use Rattle.conda_clause.proofs.FaultLemmas.{left_none, tokens_all}
use Rattle.conda_clause.proofs.FormLemmas.{Ending, bare, behind_sign, dot_star, ended, ended_beside, form, of_all, plain_sign, read_table, sign_found, star_only}
use Rattle.conda_clause.proofs.SpellLemmas.{Spells, test_means, text_spells}
use Rattle.conda_clause.proofs.TestLemmas.{NoDotEnd}

-- the text is a test with the one sign `=`, and of this meaning
record IsSingle (text : List ℕ) (test : Test) : Type 0 where
  sign : is_single (sign_of text) ≡ true
  tokens : tokens text ≡ token.Test test ∷ []

single_form : (law : NoDotEnd) (ending : Ending) (v : List ℕ) → IsFaultless v → IsSingle (behind_sign Single (ended ending v)) (Starts v)
single_form law ending v h = record {
  sign = ap is_single (sign_found Single (ended ending v) (ended_beside ending v h));
  tokens = (test_means (behind_sign Single (ended ending v)) (Starts v) (form law Single ending v h)).tokens;
}

single_is : (law : NoDotEnd) (text v : List ℕ) → IsFaultless v → Contains (single_texts v) text → IsSingle text (Starts v)
single_is law text v h k =
    of_all (λ t. IsSingle t (Starts v)) (single_texts v)
    (single_form law bare v h, (single_form law star_only v h, (single_form law dot_star v h, tt))) text k

single_any : IsSingle (codes "=*") Any
single_any = record { sign = refl; tokens = refl }

-- ---- what else a text is

-- tokens that are written otherwise beside a build, behind the one sign `=`
abbrev turns : List Token → Bool
turns [] = false
turns (token.Open ∷ more) = false
turns (token.Close ∷ more) = false
turns (token.And ∷ more) = false
turns (token.Or ∷ more) = false
turns (token.Test Any ∷ []) = true
turns (token.Test (Starts v) ∷ []) = true
turns (token.Test test ∷ []) = false
turns (token.Test test ∷ next ∷ more) = false

stays : (text : List ℕ) (ts : List Token) → turns ts ≡ false → tokens_beside_build text ts ≡ text
stays text [] h = refl
stays text (token.Open ∷ more) h = refl
stays text (token.Close ∷ more) h = refl
stays text (token.And ∷ more) h = refl
stays text (token.Or ∷ more) h = refl
stays text (token.Test Any ∷ []) h = absurd (true≢false h)
stays text (token.Test (Starts v) ∷ []) h = absurd (true≢false h)
stays text (token.Test test ∷ []) h = refl
stays text (token.Test test ∷ next ∷ more) h = refl

module _ (law : NoDotEnd) where
  unsigned : (text : List ℕ) → is_single (sign_of text) ≡ false → IsNoSingle text
  unsigned text h = record {
    some = λ e. true≢false (sym (ap (λ t. is_single (sign_of t)) e) ∙ h);
    version = λ v good k. true≢false (sym (single_is law text v good k).sign ∙ h);
  }

  unturned : (text : List ℕ) → turns (tokens text) ≡ false → IsNoSingle text
  unturned text h = record {
    some = λ e. true≢false (sym (ap (λ t. turns (tokens t)) e) ∙ h);
    version = λ v good k. true≢false (sym (ap turns (single_is law text v good k).tokens) ∙ h);
  }

-- a text of one token is that test's
one_test : (text : List ℕ) (test : Test) → clause_fault text ≡ None → tokens text ≡ token.Test test ∷ [] → IsTest text test
one_test text test good e =
    let spelled : Spells (token.Test test ∷ []) text =
    subst (λ ts. Spells ts text) e (text_spells text (tokens_all Atom 0 0 (pieces text) (left_none text good))) in
    subst (λ t. IsTest t test) (sym (spelled.2 ∙ ap (λ r. spelled.0 ++ r) spelled.4 ∙ append-nil spelled.0))
    (read_table spelled.0 test spelled.3)

in_singles : (text v : List ℕ) → IsTest text (Starts v) → is_single (sign_of text) ≡ true → Contains (single_texts v) text
in_singles text v h sign =
    of_all (λ t. is_single (sign_of t) ≡ true → Contains (single_texts v) t) (test_texts (Starts v)) (
      (λ k. (0, lit< tt, refl)),
      (
        (λ k. (1, lit< tt, refl)),
        (
          (λ k. (2, lit< tt, refl)),
          (
            (λ k. absurd (true≢false (sym k))),
            (
              (λ k. absurd (true≢false (sym k))),
              (
                (λ k. absurd (true≢false (sym k ∙ ap is_single (plain_sign (v ++ codes "*") (ended_beside star_only v h.0))))),
                ((λ k. absurd (true≢false (sym k ∙ ap is_single (plain_sign (v ++ codes ".*") (ended_beside dot_star v h.0))))), tt),
              ),
            ),
          ),
        ),
      ),
    )
    text h.1 sign

is_always : (text : List ℕ) → IsTest text Any → is_single (sign_of text) ≡ true → text ≡ codes "=*"
is_always text h sign =
    of_all (λ t. is_single (sign_of t) ≡ true → t ≡ codes "=*") (test_texts Any)
    ((λ k. absurd (true≢false (sym k))), ((λ k. refl), ((λ k. absurd (true≢false (sym k))), tt))) text h.1 sign

-- ---- the clause beside a build

-- what a clause is, and how it is written
data Kind (text : List ℕ) : Type 0 where
  any : text ≡ codes "=*" → Kind text
  one : (v : List ℕ) → IsFaultless v → Contains (single_texts v) text → Kind text
  other : IsNoSingle text → beside_build text ≡ text → Kind text

module _ (law : NoDotEnd) where
  kind_of : (text : List ℕ) → clause_fault text ≡ None → Kind text
  kind_of text good = by_sign (is_single (sign_of text)) refl (turns (tokens text)) refl
    where
      found : is_single (sign_of text) ≡ true → (ts : List Token) → tokens text ≡ ts → turns ts ≡ true → Kind text
      found sign [] e h = absurd (true≢false (sym h))
      found sign (token.Open ∷ more) e h = absurd (true≢false (sym h))
      found sign (token.Close ∷ more) e h = absurd (true≢false (sym h))
      found sign (token.And ∷ more) e h = absurd (true≢false (sym h))
      found sign (token.Or ∷ more) e h = absurd (true≢false (sym h))
      found sign (token.Test Any ∷ []) e h = any (is_always text (one_test text Any good e) sign)
      found sign (token.Test (Starts v) ∷ []) e h =
          let is = one_test text (Starts v) good e in one v is.0 (in_singles text v is sign)
      found sign (token.Test test ∷ []) e h = absurd (true≢false (sym h))
      found sign (token.Test test ∷ next ∷ more) e h = absurd (true≢false (sym h))

      by_sign : (k : Bool) → is_single (sign_of text) ≡ k → (t : Bool) → turns (tokens text) ≡ t → Kind text
      by_sign false e t f = other (unsigned law text e) (ap (λ k. if k then tokens_beside_build text (tokens text) else text) e)
      by_sign true e false f =
          other (unturned law text f) (ap (λ k. if k then tokens_beside_build text (tokens text) else text) e ∙ stays text (tokens text) f)
      by_sign true e true f = found e (tokens text) refl f

  single_beside : (text v : List ℕ) → IsFaultless v → Contains (single_texts v) text → beside_build text ≡ v ++ codes ".*"
  single_beside text v h k =
      let is = single_is law text v h k in
      ap (λ s. if s then tokens_beside_build text (tokens text) else text) is.sign ∙ ap (tokens_beside_build text) is.tokens

  -- the clause beside a build is written so
  pub is_beside : (text : List ℕ) → clause_fault text ≡ None → IsBesideBuild text (beside_build text)
  is_beside text good = by_kind (kind_of text good)
    where
      by_kind : Kind text → IsBesideBuild text (beside_build text)
      by_kind (any e) = subst (λ t. IsBesideBuild t (beside_build t)) (sym e) always
      by_kind (one v h k) = subst (IsBesideBuild text) (sym (single_beside text v h k)) (starts text v h k)
      by_kind (other none e) = subst (IsBesideBuild text) (sym e) (as_it_is text none)

  -- and nothing else is
  pub only_beside : (text beside : List ℕ) → clause_fault text ≡ None → IsBesideBuild text beside → beside ≡ beside_build text
  only_beside text beside good always = refl
  only_beside text beside good (starts is v h k) = sym (single_beside text v h k)
  only_beside text beside good (as_it_is is none) = by_kind (kind_of text good)
    where
      by_kind : Kind text → text ≡ beside_build text
      by_kind (any e) = absurd (none.some e)
      by_kind (one v h k) = absurd (none.version v h k)
      by_kind (other same e) = sym e

  -- it holds for the same versions
  pub beside_holds : (text version : List ℕ) → clause_fault text ≡ None
      → clause_holds (beside_build text) version ≡ clause_holds text version
  beside_holds text version good = by_kind (kind_of text good)
    where
      by_kind : Kind text → clause_holds (beside_build text) version ≡ clause_holds text version
      by_kind (any e) = ap (λ t. clause_holds (beside_build t) version) e ∙ ap (λ t. clause_holds t version) (sym e)
      by_kind (one v h k) =
          ap (λ t. clause_holds t version) (single_beside text v h k)
          ∙ ap (tokens_true version false Read) (test_means (v ++ codes ".*") (Starts v) (form law Plain dot_star v h)).tokens
          ∙ sym (ap (tokens_true version false Read) (single_is law text v h k).tokens)
      by_kind (other none e) = ap (λ t. clause_holds t version) e
