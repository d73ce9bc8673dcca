-- When the tokens of a version clause hold, read once from the left: this project's own.
use Rattle.std.specs.Prelude.{ℕ, Bool, false, not, ◌==◌, ◌&&◌, ◌+◌, ◌-◌, if◌then◌else◌, List, [], ◌∷◌}
use Rattle.conda_clause.specs.declared.token.Token.{Token}
use Rattle.conda_clause.specs.declared.token.Token.TheVariants.{And, Close, Open, Or, Test}
use Rattle.conda_clause.specs.declared.truth.Pass.{Pass}
use Rattle.conda_clause.specs.declared.truth.Pass.TheVariants.{Over, Read}
use Rattle.conda_clause.specs.Pieces.{tokens}
use Rattle.conda_clause.specs.Tests.{test_holds}

-- What is said so far, and what is done with the tokens behind this one. An atom that doesn't hold
-- decides up to the next `|`, and a part that holds decides up to the end of the parentheses:
-- tokens there are passed over.
abbrev pub read_token : List ℕ → Bool → Pass → Token → Bool × Pass
read_token version value Read (Test test) = (test_holds test version, Read)
read_token version value Read Open = (value, Read)
read_token version value Read Close = (value, Read)
read_token version value Read And = (value, if value then Read else Over 0)
read_token version value Read Or = (value, if value then Over 0 else Read)
read_token version value (Over depth) (Test test) = (value, Over depth)
read_token version value (Over depth) Open = (value, Over (depth + 1))
read_token version value (Over depth) Close = (value, if depth == 0 then Read else Over (depth - 1))
read_token version value (Over depth) And = (value, Over depth)
read_token version value (Over depth) Or =
    (value, if depth == 0 && not value then Read else Over depth)

-- how many parentheses are open in what is passed over
abbrev pub depth_of : Pass → ℕ
depth_of Read = 0
depth_of (Over depth) = depth

-- what tokens say in the end
abbrev pub tokens_true : List ℕ → Bool → Pass → List Token → Bool
tokens_true version value pass [] = value
tokens_true version value pass (token ∷ more) =
    let next : Bool × Pass = read_token version value pass token in
    tokens_true version next.0 next.1 more

-- the clause that a text writes holds for a version; the laws of truth say it by the clause's tree
abbrev pub clause_holds : List ℕ → List ℕ → Bool
clause_holds text version = tokens_true version false Read (tokens text)
