-- A clause says the same of versions that are equal in order.
use Rattle.std.proofs.Common.{◌≡◌, ℕ, Bool, false, not, List, [], ◌∷◌, refl, ap, ◌∙◌}
use Rattle.std.specs.Prelude.{◌&&◌}
use Rattle.std.specs.Ordering.{is_eq, is_ge, is_gt, is_le, is_lt}
use Rattle.conda_version.specs.Order.{version_cmp, version_starts}
use Rattle.conda_clause.specs.declared.test.Test.{Test}
use Rattle.conda_clause.specs.declared.test.Test.TheVariants.{Any, Is, IsAbove, IsAtLeast, IsAtMost, IsBelow, IsNear, IsNot, Starts, StartsNot}
use Rattle.conda_clause.specs.declared.token.Token.{Token}
use Rattle.conda_clause.specs.declared.token.Token.TheVariants as token
use Rattle.conda_clause.specs.declared.truth.Pass.{Pass}
use Rattle.conda_clause.specs.declared.truth.Pass.TheVariants.{Over, Read}
use Rattle.conda_clause.specs.Pieces.{tokens}
use Rattle.conda_clause.specs.Tests.{test_holds}
use Rattle.conda_clause.specs.Truth.{clause_holds, read_token, tokens_true}

-- two versions that compare with every other as one, and start with the same
pub record AreAlike (x y : List ℕ) : Type 0 where
  pub order : (w : List ℕ) → version_cmp x w ≡ version_cmp y w
  pub begin : (w : List ℕ) → version_starts x w ≡ version_starts y w

module _ (x y : List ℕ) (h : AreAlike x y) where
  test_alike : (test : Test) → test_holds test x ≡ test_holds test y
  test_alike Any = refl
  test_alike (Is v) = ap is_eq (h.order v)
  test_alike (IsNot v) = ap (λ o. not (is_eq o)) (h.order v)
  test_alike (IsBelow v) = ap is_lt (h.order v)
  test_alike (IsAtMost v) = ap is_le (h.order v)
  test_alike (IsAbove v) = ap is_gt (h.order v)
  test_alike (IsAtLeast v) = ap is_ge (h.order v)
  test_alike (Starts v) = h.begin v
  test_alike (StartsNot v) = ap not (h.begin v)
  test_alike (IsNear v front) =
      ap (λ o. is_ge o && version_starts x front) (h.order v) ∙ ap (λ k. is_ge (version_cmp y v) && k) (h.begin front)

  token_alike : (value : Bool) (pass : Pass) (t : Token) → read_token x value pass t ≡ read_token y value pass t
  token_alike value Read (token.Test test) = ap (λ k. (k, Read)) (test_alike test)
  token_alike value Read token.Open = refl
  token_alike value Read token.Close = refl
  token_alike value Read token.And = refl
  token_alike value Read token.Or = refl
  token_alike value (Over depth) (token.Test test) = refl
  token_alike value (Over depth) token.Open = refl
  token_alike value (Over depth) token.Close = refl
  token_alike value (Over depth) token.And = refl
  token_alike value (Over depth) token.Or = refl

  tokens_alike : (value : Bool) (pass : Pass) (ts : List Token) → tokens_true x value pass ts ≡ tokens_true y value pass ts
  tokens_alike value pass [] = refl
  tokens_alike value pass (t ∷ ts) =
      tokens_alike (read_token x value pass t).0 (read_token x value pass t).1 ts
      ∙ ap (λ (next : Bool × Pass). tokens_true y next.0 next.1 ts) (token_alike value pass t)

  pub clause_alike : (text : List ℕ) → clause_holds text x ≡ clause_holds text y
  clause_alike text = tokens_alike false Read (tokens text)
