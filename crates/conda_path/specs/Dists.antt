-- Dists: the names of packages, `name-version-build`, as conda's dist.py splits them at the last two dashes.
-- Which bytes they hold is this project's own rule.
use Rattle.std.specs.Prelude.{◌≡◌, ◌≢◌, ℕ, ◌≤◌, Bool, false, ◌&&◌, ◌||◌, ◌==◌, nat_le, not, is_some, List, [], ◌∷◌, ◌++◌, length}
use Rattle.std.specs.List.{AllByRecursion, after_last, before_last, list_any}
use Rattle.conda_base.specs.Signs.{colon, dash, equals, hash, plus, slash}
use Rattle.conda_base.specs.Texts.{IsFreeOf, is_byte, is_empty}
use Rattle.conda_path.specs.Files.{cut_ending}
use Rattle.conda_path.specs.Paths.{is_control_or_space}

-- no dist holds such a byte: a control byte, a space, `/` or `:`
abbrev pub is_bad_byte : ℕ → Bool
is_bad_byte b = is_control_or_space b || b == slash || b == colon

-- no dist begins with such a byte: `+`, `-`, `#` or `=`
abbrev pub is_bad_front : ℕ → Bool
is_bad_front b = b == plus || b == dash || b == hash || b == equals

-- the text's first byte is one
abbrev pub begins_badly : List ℕ → Bool
begins_badly [] = false
begins_badly (b ∷ rest) = is_bad_front b

-- the text is that of a package file
abbrev pub names_file : List ℕ → Bool
names_file text = is_some (cut_ending text)

-- ---- the rule

abbrev pub dist_text : List ℕ → List ℕ → List ℕ → List ℕ
dist_text name version build = name ++ dash ∷ (version ++ dash ∷ build)

-- name, version and build, none of them empty, split at the last two dashes
pub record IsSplit (text name version build : List ℕ) : Type 0 where
  pub text_is : text ≡ dist_text name version build
  pub name_some : name ≢ []
  pub version_some : version ≢ []
  pub build_some : build ≢ []
  pub version_plain : IsFreeOf dash version
  pub build_plain : IsFreeOf dash build

pub record IsDist (text : List ℕ) : Type 0 where
  pub split : (name : List ℕ) × (version : List ℕ) × (build : List ℕ) × IsSplit text name version build
  pub bytes : AllByRecursion (λ b. is_bad_byte b ≡ false) text
  pub front : begins_badly text ≡ false
  pub no_file : names_file text ≡ false
  pub short : length text ≤ 255

-- ---- the same as functions

-- what stands before the last two dashes, between them and behind them
abbrev pub dist_name : List ℕ → List ℕ
dist_name text = before_last (is_byte dash) (before_last (is_byte dash) text)

abbrev pub dist_version : List ℕ → List ℕ
dist_version text = after_last (is_byte dash) (before_last (is_byte dash) text)

abbrev pub dist_build : List ℕ → List ℕ
dist_build text = after_last (is_byte dash) text

-- two dashes at least, with something before, between and behind the last two
abbrev pub has_parts : List ℕ → Bool
has_parts text = not (is_empty (dist_name text)) && not (is_empty (dist_version text)) && not (is_empty (dist_build text))

abbrev pub is_dist : List ℕ → Bool
is_dist text =
    nat_le (length text) 255 && not (begins_badly text) && not (list_any is_bad_byte text) && not (names_file text) && has_parts text
