-- What a test of a version says: conda's version.py.
use Rattle.std.specs.Prelude.{◌≡◌, ℕ, Bool, true, false, not, ◌==◌, ◌&&◌, ◌-◌, if◌then◌else◌, List, [], ◌∷◌, ◌++◌, length, take, drop, codes, Contains, Option, None, Some, is_none, option_and_then}
use Rattle.std.specs.Char.{to_ascii_lowercase}
use Rattle.std.specs.Option.{option_map}
use Rattle.std.specs.Ordering.{is_eq, is_ge, is_gt, is_le, is_lt}
use Rattle.conda_base.specs.Signs.{dot, equals, exclamation, greater, less, star, tilde}
use Rattle.conda_base.specs.Texts.{begins_with, cut_last, ends_with, is_text}
use Rattle.conda_version.specs.Grammar.{is_plain, offence}
use Rattle.conda_version.specs.Order.{version_cmp, version_starts}
use Rattle.conda_version.specs.Text.{underscored}
use Rattle.conda_clause.specs.declared.test.Sign.{Sign}
use Rattle.conda_clause.specs.declared.test.Sign.TheVariants.{Above, AtLeast, AtMost, Below, Double, Near, Plain, Single, Unequal}
use Rattle.conda_clause.specs.declared.test.Test.{Test}
use Rattle.conda_clause.specs.declared.test.Test.TheVariants.{Any, Is, IsAbove, IsAtLeast, IsAtMost, IsBelow, IsNear, IsNot, Starts, StartsNot}

-- The sign in front, the longest one: `==`, `=`, `<=`, `<`, `>=`, `>`, `!=`, `~=`, or none.
abbrev pub sign_of : List ℕ → Sign
sign_of [] = Plain
sign_of (b ∷ bs) =
    if b == equals then (if begins_with equals bs then Double else Single)
    else if b == less then (if begins_with equals bs then AtMost else Below)
    else if b == greater then (if begins_with equals bs then AtLeast else Above)
    else if b == exclamation && begins_with equals bs then Unequal
    else if b == tilde && begins_with equals bs then Near
    else Plain

abbrev pub sign_len : Sign → ℕ
sign_len Plain = 0
sign_len Single = 1
sign_len Double = 2
sign_len Unequal = 2
sign_len Below = 1
sign_len AtMost = 2
sign_len Above = 1
sign_len AtLeast = 2
sign_len Near = 2

-- what stands behind the sign
abbrev pub signed : List ℕ → List ℕ
signed text = drop (sign_len (sign_of text)) text

-- a text without its last character
abbrev pub shortened : List ℕ → List ℕ
shortened text = take (length text - 1) text

-- a text without the star at its end, `.*` or `*`
abbrev pub without_star : List ℕ → List ℕ
without_star text =
    if ends_with star text
    then (if ends_with dot (shortened text) then shortened (shortened text) else shortened text)
    else text

-- a character that a version may hold: a letter, a digit, or one of `.`, `_`, `+`, `!` and `-`
abbrev pub is_version_char : ℕ → Bool
is_version_char b = is_plain (underscored (to_ascii_lowercase b))

-- a text that is a version
abbrev pub version_text : List ℕ → Option (List ℕ)
version_text text = if is_none (offence text) then Some text else None

-- a version without its last dotted part, where it has more than one
abbrev pub without_last_part : List ℕ → Option (List ℕ)
without_last_part v = option_and_then (λ halves. version_text halves.0) (cut_last dot v)

-- The test of a version behind a sign, with a star at its end or without.
abbrev pub test_with : Sign → Bool → List ℕ → Option Test
test_with Plain starred v = Some (if starred then Starts v else Is v)
test_with Double starred v = Some (if starred then Starts v else Is v)
test_with Single starred v = Some (Starts v)
test_with Unequal starred v = Some (if starred then StartsNot v else IsNot v)
test_with Below starred v = Some (IsBelow v)
test_with AtMost starred v = Some (IsAtMost v)
test_with Above starred v = Some (IsAbove v)
test_with AtLeast starred v = Some (IsAtLeast v)
test_with Near starred v =
    if starred then None else option_map (λ front. IsNear v front) (without_last_part v)

-- none, `=` or `==`
abbrev pub is_equal_sign : Sign → Bool
is_equal_sign Plain = true
is_equal_sign Single = true
is_equal_sign Double = true
is_equal_sign Unequal = false
is_equal_sign Below = false
is_equal_sign AtMost = false
is_equal_sign Above = false
is_equal_sign AtLeast = false
is_equal_sign Near = false

-- `*`, `=*` or `==*`
abbrev pub is_any : Sign → List ℕ → Bool
is_any sign behind = is_equal_sign sign && is_text behind (codes "*")

-- The test that a text writes: `*`, `=*` and `==*`, or a sign, a version and maybe a star.
abbrev pub test_of : List ℕ → Option Test
test_of text =
    if is_any (sign_of text) (signed text) then Some Any
    else option_and_then (test_with (sign_of text) (ends_with star (signed text)))
    (version_text (without_star (signed text)))

-- A test holds for a version.
abbrev pub test_holds : Test → List ℕ → Bool
test_holds Any x = true
test_holds (Is v) x = is_eq (version_cmp x v)
test_holds (IsNot v) x = not (is_eq (version_cmp x v))
test_holds (IsBelow v) x = is_lt (version_cmp x v)
test_holds (IsAtMost v) x = is_le (version_cmp x v)
test_holds (IsAbove v) x = is_gt (version_cmp x v)
test_holds (IsAtLeast v) x = is_ge (version_cmp x v)
test_holds (Starts v) x = version_starts x v
test_holds (StartsNot v) x = not (version_starts x v)
test_holds (IsNear v front) x = is_ge (version_cmp x v) && version_starts x front

-- How a test is written.

-- the text is a version
abbrev pub IsFaultless : List ℕ → Type 0
IsFaultless v = offence v ≡ None

-- the versions that a test names are versions; `~=` goes by a version without its last dotted part
abbrev pub HasVersions : Test → Type 0
HasVersions Any = Unit {0}
HasVersions (Is v) = IsFaultless v
HasVersions (IsNot v) = IsFaultless v
HasVersions (IsBelow v) = IsFaultless v
HasVersions (IsAtMost v) = IsFaultless v
HasVersions (IsAbove v) = IsFaultless v
HasVersions (IsAtLeast v) = IsFaultless v
HasVersions (Starts v) = IsFaultless v
HasVersions (StartsNot v) = IsFaultless v
HasVersions (IsNear v front) =
    IsFaultless v × IsFaultless front × (last : List ℕ) × (cut_last dot v ≡ Some (front, last))

-- a text with a star at its end
abbrev pub starred : List ℕ → List (List ℕ)
starred text = (text ++ codes "*") ∷ (text ++ codes ".*") ∷ []

-- The texts that write a test. Behind `<`, `<=`, `>` and `>=` a star at the end says nothing.
abbrev pub test_texts : Test → List (List ℕ)
test_texts Any = codes "*" ∷ codes "=*" ∷ codes "==*" ∷ []
test_texts (Is v) = v ∷ (codes "==" ++ v) ∷ []
test_texts (IsNot v) = (codes "!=" ++ v) ∷ []
test_texts (IsBelow v) = (codes "<" ++ v) ∷ starred (codes "<" ++ v)
test_texts (IsAtMost v) = (codes "<=" ++ v) ∷ starred (codes "<=" ++ v)
test_texts (IsAbove v) = (codes ">" ++ v) ∷ starred (codes ">" ++ v)
test_texts (IsAtLeast v) = (codes ">=" ++ v) ∷ starred (codes ">=" ++ v)
test_texts (Starts v) =
    (codes "=" ++ v) ∷ (starred (codes "=" ++ v) ++ starred (codes "==" ++ v) ++ starred v)
test_texts (StartsNot v) = starred (codes "!=" ++ v)
test_texts (IsNear v front) = (codes "~=" ++ v) ∷ []

-- The text writes the test.
abbrev pub IsTest : List ℕ → Test → Type 0
IsTest text test = HasVersions test × Contains (test_texts test) text
