-- What a match specification gives: conda's match_spec.py, in this project's profile.
use Rattle.std.specs.Prelude.{◌≡◌, ◌≢◌, ◌<◌, ◌||◌, ◌==◌, ℕ, Bool, true, false, not, List, [], codes, map, Option, None, IfSome, IsSome, refl}
use Rattle.std.specs.Char.{is_ascii_digit, is_ascii_lowercase, to_ascii_lowercase}
use Rattle.std.specs.Coded.{Coded, code_by, coded×, coded_ℕ, coded_list, coded_option}
use Rattle.std.specs.List.{AllByRecursion}
use Rattle.conda_base.specs.Signs.{close_bracket, comma, double_quote, equals, quote}
use Rattle.conda_clause.specs.Clause.{beside_build, clause_fault}
use Rattle.conda_clause.specs.Spaces.{is_one_of}
use Rattle.conda_spec.specs.declared.given.Given.{Given}

-- The parts of a specification. What isn't given may be anything.
pub record Parts : Type 0 where
  pub channel : Option (List ℕ)
  pub subdir : Option (List ℕ)
  pub name : List ℕ
  pub version : Option (List ℕ)
  pub build : Option (List ℕ)
  pub number : Option ℕ

-- a character of a name in lower case, or a star
abbrev pub is_name_char : ℕ → Bool
is_name_char b = is_ascii_digit b || is_ascii_lowercase b || is_one_of (codes "_-.*") b

-- a character that no channel and no subdir holds
abbrev pub bars_channel : ℕ → Bool
bars_channel b = is_one_of (codes " '\",[]:/") b

-- a character that no build holds
abbrev pub bars_build : ℕ → Bool
bars_build b = is_one_of (codes " '\",|:[]") b

-- no character of a name in either case
abbrev pub ends_name : ℕ → Bool
ends_name b = not (is_name_char (to_ascii_lowercase b))

-- one of the characters that a version between or behind signs `=` doesn't hold
abbrev pub is_sign : ℕ → Bool
is_sign b = is_one_of (codes ",|<>!~(") b

abbrev pub is_sign_or_equals : ℕ → Bool
is_sign_or_equals b = b == equals || is_sign b

-- a sign with which a version clause begins directly behind the name
abbrev pub is_comparison : ℕ → Bool
is_comparison b = is_one_of (codes "<>!~") b

-- a quote
abbrev pub is_quote : ℕ → Bool
is_quote b = b == quote || b == double_quote

-- no value without quotes holds it
abbrev pub bars_bare : ℕ → Bool
bars_bare b = is_quote b || b == comma || b == close_bracket

-- no character of the text is of this kind
abbrev pub NoneOf : (ℕ → Bool) → List ℕ → Type 0
NoneOf bars text = AllByRecursion (λ b. bars b ≡ false) text

-- not empty, and of none of these characters
abbrev pub IsFreeWord : (ℕ → Bool) → List ℕ → Type 0
IsFreeWord bars text = (text ≢ []) × NoneOf bars text

-- nothing is given yet
abbrev pub nothing : Given
nothing = record { channel = None; subdir = None; version = None; build = None; number = None }

-- what is given before the brackets: a name, behind a channel and a subdir, and what follows it
abbrev pub Front : Type 0
Front = List ℕ × Given

-- Parts that a text can give. A version is in lower case. Where a build is given, a version is given too, and in the form that it
-- has beside a build.
pub record IsSpec (parts : Parts) : Type 0 where
  pub channel : IfSome parts.channel (IsFreeWord bars_channel)
  pub subdir : IfSome parts.subdir (IsFreeWord bars_channel)
  pub name : (parts.name ≢ []) × AllByRecursion (λ b. is_name_char b ≡ true) parts.name
  pub version : IfSome parts.version (λ clause. (clause_fault clause ≡ None) × (map to_ascii_lowercase clause ≡ clause))
  pub build : IfSome parts.build (IsFreeWord bars_build)
  pub together : IsSome parts.build → IfSome parts.version (λ clause. beside_build clause ≡ clause) × IsSome parts.version
  pub number : IfSome parts.number (λ n. n < 18446744073709551616)

-- parts as pairs
abbrev pub coded_parts : Coded Parts
coded_parts =
    let text = coded_option (coded_list coded_ℕ) in
    code_by (Option (List ℕ) × (Option (List ℕ) × (List ℕ × (Option (List ℕ) × (Option (List ℕ) × Option ℕ)))))
    (coded× text (coded× text (coded× (coded_list coded_ℕ) (coded× text (coded× text (coded_option coded_ℕ))))))
    (λ p. (p.channel, (p.subdir, (p.name, (p.version, (p.build, p.number))))))
    (λ p. record { channel = p.0; subdir = p.1.0; name = p.1.1.0; version = p.1.1.1.0; build = p.1.1.1.1.0; number = p.1.1.1.1.1 })
    (λ _. refl)
