-- The pieces of a version clause: conda's version.py.
use Rattle.std.specs.Prelude.{ℕ, Bool, false, not, ◌==◌, ◌||◌, if◌then◌else◌, List, [], ◌∷◌, Option, None, Some}
use Rattle.std.specs.List.{filter_map, onto_first, prefix_len}
use Rattle.std.specs.Option.{option_map}
use Rattle.conda_base.specs.Signs.{bar, close_paren, comma, open_paren}
use Rattle.conda_clause.specs.declared.token.Token.{Token}
use Rattle.conda_clause.specs.declared.token.Token.TheVariants.{And, Close, Open, Or, Test}
use Rattle.conda_clause.specs.Tests.{test_of}

-- `,`, `|` or a parenthesis
abbrev pub is_mark : ℕ → Bool
is_mark b = b == comma || b == bar || b == open_paren || b == close_paren

-- the text begins with a character of a test
abbrev pub begins_test : List ℕ → Bool
begins_test [] = false
begins_test (b ∷ bs) = not (is_mark b)

-- Each mark is a piece, and so is each run of other characters, as long as it can be: the text of a
-- test.
abbrev pub pieces : List ℕ → List (List ℕ)
pieces [] = []
pieces (b ∷ bs) =
    if is_mark b then (b ∷ []) ∷ pieces bs
    else if begins_test bs then onto_first b (pieces bs)
    else (b ∷ []) ∷ pieces bs

-- how long the first piece is
abbrev pub piece_len : List ℕ → ℕ
piece_len text = if begins_test text then prefix_len (λ b. not (is_mark b)) text else 1

-- What a piece means, if it means something.
abbrev pub token_of : List ℕ → Option Token
token_of [] = None
token_of (b ∷ bs) =
    if b == open_paren then Some Open
    else if b == close_paren then Some Close
    else if b == comma then Some And
    else if b == bar then Some Or
    else option_map Test (test_of (b ∷ bs))

-- the tokens of a text
abbrev pub tokens : List ℕ → List Token
tokens text = filter_map token_of (pieces text)
