-- Which texts are version clauses, and the first fault of one that is none: conda's version.py, in
-- this project's profile.
use Rattle.std.specs.Prelude.{ℕ, Bool, true, false, codes, nat_lt, ◌==◌, ◌&&◌, ◌||◌, ◌+◌, ◌-◌, if◌then◌else◌, List, [], ◌∷◌, ◌++◌, length, Option, None, Some, Result, Ok, Err}
use Rattle.conda_base.specs.Signs.{close_paren, equals, greater, less, open_paren, star, tilde}
use Rattle.conda_clause.specs.declared.error.SpecWhy.{SpecWhy}
use Rattle.conda_clause.specs.declared.error.SpecWhy.TheVariants.{Paren, Version}
use Rattle.conda_clause.specs.declared.reading.Wanted.{Wanted}
use Rattle.conda_clause.specs.declared.reading.Wanted.TheVariants.{Atom, Joint}
use Rattle.conda_clause.specs.declared.test.Sign.{Sign}
use Rattle.conda_clause.specs.declared.test.Sign.TheVariants.{Above, AtLeast, AtMost, Below, Double, Near, Plain, Single, Unequal}
use Rattle.conda_clause.specs.declared.test.Test as test
use Rattle.conda_clause.specs.declared.test.Test.TheVariants.{Any, Is, IsAbove, IsAtLeast, IsAtMost, IsBelow, IsNear, IsNot, Starts, StartsNot}
use Rattle.conda_clause.specs.declared.token.Token.{Token}
use Rattle.conda_clause.specs.declared.token.Token.TheVariants.{And, Close, Open, Or, Test}
use Rattle.conda_clause.specs.Pieces.{is_mark, pieces, token_of, tokens}
use Rattle.conda_clause.specs.Tests.{is_version_char, sign_of}

-- Parentheses that are never closed.

-- how many `)` of a text close a `(` that stands before it
abbrev pub closers : List ℕ → ℕ
closers [] = 0
closers (b ∷ bs) =
    if b == open_paren then closers bs - 1
    else if b == close_paren then closers bs + 1
    else closers bs

-- the place of the first `(` that no `)` closes
abbrev pub unclosed : ℕ → List ℕ → Option ℕ
unclosed at [] = None
unclosed at (b ∷ bs) = if b == open_paren && closers bs == 0 then Some at else unclosed (at + 1) bs

-- Reading from the left: what may come next, and how many parentheses are open.

-- Where a test or a `(` is wanted, each takes its turn, and no more than 32 are open. Behind a test
-- and behind a `)` come `,`, `|` and `)`, the last only where a parenthesis is open. Of all else a
-- parenthesis is Paren, and the rest is Version; but a `)` that stands for a missing test in open
-- parentheses is Version too.
abbrev pub step : Wanted → ℕ → Option Token → Result (Wanted × ℕ) SpecWhy
step Atom depth (Some Open) = if nat_lt depth 32 then Ok (Atom, depth + 1) else Err Paren
step Atom depth (Some Close) = if nat_lt 0 depth then Err Version else Err Paren
step Atom depth (Some And) = Err Version
step Atom depth (Some Or) = Err Version
step Atom depth (Some (Test test)) = Ok (Joint, depth)
step Atom depth None = Err Version
step Joint depth (Some Open) = Err Paren
step Joint depth (Some Close) = if nat_lt 0 depth then Ok (Joint, depth - 1) else Err Paren
step Joint depth (Some And) = Ok (Atom, depth)
step Joint depth (Some Or) = Ok (Atom, depth)
step Joint depth (Some (Test test)) = Err Version
step Joint depth None = Err Version

-- what is made of a step, or of why there is none
abbrev pub after : {X : Type 0} → Result (Wanted × ℕ) SpecWhy → (Wanted → ℕ → X) → (SpecWhy → X) → X
after (Ok state) next refused = next state.0 state.1
after (Err why) next refused = refused why

-- at the end no test may be missing
abbrev pub end_fault : Wanted → ℕ → Option (ℕ × SpecWhy)
end_fault Atom at = Some (at, Version)
end_fault Joint at = None

-- the first fault of pieces, of which the first stands at a place
abbrev pub fault_from : Wanted → ℕ → ℕ → List (List ℕ) → Option (ℕ × SpecWhy)
fault_from wanted depth at [] = end_fault wanted at
fault_from wanted depth at (piece ∷ more) =
    after (step wanted depth (token_of piece))
    (λ next deep. fault_from next deep (at + length piece) more)
    (λ why. Some (at, why))

-- Of two faults the one at the lesser place.
abbrev pub lesser : Option ℕ → Option (ℕ × SpecWhy) → Option (ℕ × SpecWhy)
lesser None found = found
lesser (Some at) None = Some (at, Paren)
lesser (Some at) (Some found) = if nat_lt found.0 at then Some found else Some (at, Paren)

-- what is wrong with a clause, and where; the laws of its grammar say which texts have no fault
abbrev pub clause_fault : List ℕ → Option (ℕ × SpecWhy)
clause_fault text = lesser (unclosed 0 text) (fault_from Atom 0 0 (pieces text))

-- a character that a clause may hold: a letter, a digit, or one of `.`, `_`, `+`, `!`, `-`, `*`,
-- `=`, `<`, `>`, `~`, `,`, `|`, `(` and `)`
abbrev pub is_clause_char : ℕ → Bool
is_clause_char b =
    is_mark b
    || (is_version_char b || (b == star || b == equals || b == less || b == greater || b == tilde))

-- Beside a build.

-- the sign `=`
abbrev pub is_single : Sign → Bool
is_single Single = true
is_single Plain = false
is_single Double = false
is_single Unequal = false
is_single Below = false
is_single AtMost = false
is_single Above = false
is_single AtLeast = false
is_single Near = false

-- a test by a prefix as `v.*`, one that always holds as `*`, and every other one as it is written
abbrev pub test_beside_build : List ℕ → test.Test → List ℕ
test_beside_build text Any = codes "*"
test_beside_build text (Starts v) = v ++ codes ".*"
test_beside_build text (Is v) = text
test_beside_build text (IsNot v) = text
test_beside_build text (IsBelow v) = text
test_beside_build text (IsAtMost v) = text
test_beside_build text (IsAbove v) = text
test_beside_build text (IsAtLeast v) = text
test_beside_build text (StartsNot v) = text
test_beside_build text (IsNear v front) = text

-- the same where the test stands alone
abbrev pub tokens_beside_build : List ℕ → List Token → List ℕ
tokens_beside_build text [] = text
tokens_beside_build text (Open ∷ more) = text
tokens_beside_build text (Close ∷ more) = text
tokens_beside_build text (And ∷ more) = text
tokens_beside_build text (Or ∷ more) = text
tokens_beside_build text (Test test ∷ []) = test_beside_build text test
tokens_beside_build text (Test test ∷ token ∷ more) = text

-- The clause that stands beside a build: the one test `=v`, `=v*` or `=v.*` is `v.*` there, and
-- `=*` is `*`.
abbrev pub beside_build : List ℕ → List ℕ
beside_build text = if is_single (sign_of text) then tokens_beside_build text (tokens text) else text
