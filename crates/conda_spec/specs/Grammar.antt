-- Which texts are specifications, and which parts each of them gives: conda's match_spec.py, in this project's profile. Nothing here
-- knows of places or of an order in which a text is read.
use Rattle.std.specs.Prelude.{◌≡◌, ◌≢◌, ℕ, Bool, true, false, List, [], ◌∷◌, ◌++◌, codes, map, Option, None, Some, IsSome}
use Rattle.std.specs.Char.{to_ascii_lowercase}
use Rattle.conda_base.specs.Numbers.{digits_below}
use Rattle.conda_base.specs.Signs.{close_bracket, comma, equals, open_bracket, slash, space}
use Rattle.conda_base.specs.Texts.{begins_with, is_byte}
use Rattle.conda_clause.specs.Beside.{IsBesideBuild}
use Rattle.conda_clause.specs.Kept.{kept}
use Rattle.conda_clause.specs.Tree.{IsClause}
use Rattle.conda_spec.specs.declared.given.Given.{Given}
use Rattle.conda_spec.specs.Parts.{bars_bare, bars_build, bars_channel, ends_name, Front, is_comparison, is_quote, is_sign, is_sign_or_equals, IsFreeWord, NoneOf, nothing, Parts}

-- The text writes this version clause: it is the clause but for the case of its letters.
abbrev pub IsClauseOf : List ℕ → List ℕ → Type 0
IsClauseOf text clause = (clause ≡ map to_ascii_lowercase text) × IsClause clause

-- "Equal to V", where V stands between two `=`, is written so: as V itself where it ends with a star, else as `==V`.
pub data IsEqualTo : List ℕ → List ℕ → Type 0 where
  starred : (front : List ℕ) → IsEqualTo (front ++ codes "*") (front ++ codes "*")
  bare : (v : List ℕ) → ((front : List ℕ) → v ≢ front ++ codes "*") → IsEqualTo v (codes "==" ++ v)

-- the version clause that says it
abbrev pub IsEqualClause : List ℕ → List ℕ → Type 0
IsEqualClause v clause = (text : List ℕ) × IsEqualTo v text × IsClauseOf text clause

-- ---- what follows a name

-- V of the forms that begin with `=`: it holds no `=`, no space and none of `,` `|` `<` `>` `!` `~` `(`
abbrev pub IsPlainVersion : List ℕ → Type 0
IsPlainVersion v = NoneOf is_sign_or_equals v × NoneOf (is_byte space) v

-- A version clause alone, or a version clause, a space and a build. The first text is the clause as it is written.
pub data IsWords : List ℕ → List ℕ → Option (List ℕ) → Option (List ℕ) → Type 0 where
  alone : (word clause : List ℕ) → IsClauseOf word clause → IsWords word word (Some clause) None
  with_build : (word clause build : List ℕ) → IsClauseOf word clause → IsFreeWord bars_build build
      → IsWords word (word ++ space ∷ build) (Some clause) (Some build)

-- A version clause that begins directly behind a name: with `<`, `>`, `!` or `~`, or with `=` or `==` where one of the signs that
-- V doesn't hold comes before a further `=`.
pub data BeginsClause : List ℕ → Type 0 where
  compares : (sign : ℕ) (rest : List ℕ) → is_comparison sign ≡ true → BeginsClause (sign ∷ rest)
  behind_one : (v : List ℕ) (sign : ℕ) (rest : List ℕ) → NoneOf (is_byte equals) v → is_sign sign ≡ true
      → BeginsClause (equals ∷ (v ++ sign ∷ rest))
  behind_two : (v : List ℕ) (sign : ℕ) (rest : List ℕ) → NoneOf (is_byte equals) v → is_sign sign ≡ true
      → BeginsClause (equals ∷ equals ∷ (v ++ sign ∷ rest))

-- What follows a name, without the spaces that are dropped, by whether a space parts it from the name: the version clause and the
-- build that it gives.
pub data Follows : Bool → List ℕ → Option (List ℕ) → Option (List ℕ) → Type 0 where
  -- nothing
  end : (spaced : Bool) → Follows spaced [] None None
  -- `=V`
  starts : (v clause : List ℕ) → IsPlainVersion v → IsClauseOf (equals ∷ v) clause → Follows false (equals ∷ v) (Some clause) None
  -- `==V`
  equal : (v clause : List ℕ) → IsPlainVersion v → IsClauseOf (equals ∷ equals ∷ v) clause
      → Follows false (equals ∷ equals ∷ v) (Some clause) None
  -- `=V=B`
  starts_build : (v clause build : List ℕ) → IsPlainVersion v → IsEqualClause v clause → IsFreeWord bars_build build
      → Follows false (equals ∷ (v ++ equals ∷ build)) (Some clause) (Some build)
  -- `==V=B`
  equal_build : (v clause build : List ℕ) → IsPlainVersion v → IsClauseOf (equals ∷ equals ∷ v) clause → IsFreeWord bars_build build
      → Follows false (equals ∷ equals ∷ (v ++ equals ∷ build)) (Some clause) (Some build)
  -- a space and `=V B`
  spaced_equal : (v clause build : List ℕ) → IsPlainVersion v → IsEqualClause v clause → IsFreeWord bars_build build
      → Follows true ((equals ∷ v) ++ space ∷ build) (Some clause) (Some build)
  -- a space and `V`, or a space and `V B` where V is none of the form above
  spaced : (word text : List ℕ) (version build : Option (List ℕ)) → IsWords word text version build
      → (IsSome build → (v : List ℕ) → NoneOf is_sign_or_equals v → word ≢ equals ∷ v) → Follows true text version build
  -- a version clause with its signs, and a space and a build, if there is one
  signs : (word text : List ℕ) (version build : Option (List ℕ)) → IsWords word text version build → BeginsClause word
      → Follows false text version build

-- ---- the name and the channel

-- the text is empty, or begins with a character that is of no name
abbrev pub ends_here : List ℕ → Bool
ends_here [] = true
ends_here (b ∷ rest) = ends_name b

-- The name, as long as it can be, in either case, and what follows it.
pub data IsNamed : List ℕ → List ℕ → Option (List ℕ) → Option (List ℕ) → Type 0 where
  named : (written rest : List ℕ) (version build : Option (List ℕ)) → written ≢ [] → NoneOf ends_name written → ends_here rest ≡ true
      → Follows (begins_with space rest) (kept rest) version build
      → IsNamed (written ++ rest) (map to_ascii_lowercase written) version build

-- What stands before the brackets: `name..`, `channel::name..` or `channel/subdir::name..`.
pub data IsFront : List ℕ → Front → Type 0 where
  alone : (text name : List ℕ) (version build : Option (List ℕ)) → ((before rest : List ℕ) → text ≢ before ++ (codes "::" ++ rest))
      → IsNamed text name version build → IsFront text (name, record nothing { version = version; build = build })
  in_channel : (channel text name : List ℕ) (version build : Option (List ℕ)) → IsFreeWord bars_channel channel
      → IsNamed text name version build
      → IsFront (channel ++ (codes "::" ++ text)) (name, record nothing { channel = Some channel; version = version; build = build })
  in_subdir : (channel subdir text name : List ℕ) (version build : Option (List ℕ)) → IsFreeWord bars_channel channel
      → IsFreeWord bars_channel subdir
      → IsNamed text name version build
      → IsFront ((channel ++ slash ∷ subdir) ++ (codes "::" ++ text))
      (name, record nothing { channel = Some channel; subdir = Some subdir; version = version; build = build })

-- ---- the brackets

-- A value as it is written: bare, without `,`, `]` and quotes, or in quotes of one kind, without these.
pub data IsValue : List ℕ → List ℕ → Type 0 where
  bare : (value : List ℕ) → NoneOf bars_bare value → IsValue value value
  quoted : (mark : ℕ) (value : List ℕ) → is_quote mark ≡ true → NoneOf (is_byte mark) value → IsValue (mark ∷ (value ++ mark ∷ [])) value

-- An item `key=value`, behind what the items before it give: no item of its key stands before it.
pub data IsItem : Given → List ℕ → Given → Type 0 where
  version : (given : Given) (written value clause : List ℕ) → given.version ≡ None → IsValue written value → IsClauseOf (kept value) clause
      → IsItem given (codes "version=" ++ written) (record given { version = Some clause })
  build : (given : Given) (written value : List ℕ) → given.build ≡ None → IsValue written value → IsFreeWord bars_build value
      → IsItem given (codes "build=" ++ written) (record given { build = Some value })
  build_number : (given : Given) (written value : List ℕ) (number : ℕ) → given.number ≡ None → IsValue written value
      → digits_below 18446744073709551616 value ≡ Some number
      → IsItem given (codes "build_number=" ++ written) (record given { number = Some number })
  channel : (given : Given) (written value : List ℕ) → given.channel ≡ None → IsValue written value → IsFreeWord bars_channel value
      → IsItem given (codes "channel=" ++ written) (record given { channel = Some value })
  subdir : (given : Given) (written value : List ℕ) → given.subdir ≡ None → IsValue written value → IsFreeWord bars_channel value
      → IsItem given (codes "subdir=" ++ written) (record given { subdir = Some value })

-- Items with `,` between each two.
pub data IsItems : Given → List ℕ → Given → Type 0 where
  last : (before behind : Given) (item : List ℕ) → IsItem before item behind → IsItems before item behind
  more : (before next behind : Given) (item rest : List ℕ) → IsItem before item next → IsItems next rest behind
      → IsItems before (item ++ comma ∷ rest) behind

-- ---- the whole

-- what the brackets give wins over what stands before them
pub data Wins {A : Type 0} : Option A → Option A → Option A → Type 0 where
  inside : (x : A) (before : Option A) → Wins (Some x) before (Some x)
  before : (before : Option A) → Wins None before before

-- The version clause where this build is given, or none: where a build is given and no version, it is `*`.
pub data IsBeside : Option (List ℕ) → Option (List ℕ) → Option (List ℕ) → Type 0 where
  no_build : (version : Option (List ℕ)) → IsBeside None version version
  any : (build : List ℕ) → IsBeside (Some build) None (Some (codes "*"))
  beside : (build clause written : List ℕ) → IsBesideBuild clause written → IsBeside (Some build) (Some clause) (Some written)

-- the parts that a name, what stands before the brackets, and what stands in them give
pub record AreParts (front : Front) (given : Given) (parts : Parts) : Type 0 where
  pub channel : Wins given.channel front.1.channel parts.channel
  pub subdir : Wins given.subdir front.1.subdir parts.subdir
  pub name : parts.name ≡ front.0
  pub clause : Option (List ℕ)
  pub version : Wins given.version front.1.version clause
  pub build : Wins given.build front.1.build parts.build
  pub beside : IsBeside parts.build clause parts.version
  pub number : parts.number ≡ given.number

-- A text without spaces at its ends is a specification of these parts. The brackets begin at its last `[`, where it ends with `]`.
pub data IsSpecText : List ℕ → Parts → Type 0 where
  plain : (text : List ℕ) (front : Front) (parts : Parts)
      → ((before inside : List ℕ) → text ≢ (before ++ open_bracket ∷ inside) ++ close_bracket ∷ [])
      → IsFront text front → AreParts front nothing parts → IsSpecText text parts
  bracketed : (before inside : List ℕ) (front : Front) (given : Given) (parts : Parts) → NoneOf (is_byte open_bracket) inside
      → IsFront before front → IsItems nothing inside given → AreParts front given parts
      → IsSpecText ((before ++ open_bracket ∷ inside) ++ close_bracket ∷ []) parts
