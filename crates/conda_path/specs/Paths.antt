-- Paths in a prefix, and prefixes: what they are, and where a text that is none has its fault.
-- This project's own rule.
use Rattle.std.specs.Prelude.{◌≡◌, ◌≢◌, ℕ, ◌+◌, ◌≤◌, ◌<◌, ◌⊎◌, Bool, true, false, ◌&&◌, ◌||◌, ◌==◌, nat_lt, if◌then◌else◌, List, [], ◌∷◌, ◌++◌, length, take, drop, Option, Some, None, slice_get}
use Rattle.std.specs.Str.{bytes_eq}
use Rattle.conda_base.specs.Signs.{delete, dot, slash, space}
use Rattle.conda_base.specs.Texts.{is_byte}
use Rattle.std.specs.List.{AllByRecursion, before_first, slice_split}

-- no path holds such a byte: one below the space, or the delete byte
abbrev pub is_control : ℕ → Bool
is_control b = nat_lt b space || b == delete

-- no prefix holds such a byte: one of these, or a space
abbrev pub is_control_or_space : ℕ → Bool
is_control_or_space b = is_control b || b == space

-- ---- the rule

-- a part of a path leads to something below: it isn't empty, `.` or `..`
abbrev pub IsPart : List ℕ → Type 0
IsPart part = (part ≢ []) × (part ≢ dot ∷ []) × (part ≢ dot ∷ dot ∷ [])

-- at most so many bytes, none of them bad, and parts between the slashes
pub record IsPathWithin (limit : ℕ) (is_bad : ℕ → Bool) (text : List ℕ) : Type 0 where
  pub short : length text ≤ limit
  pub bytes : AllByRecursion (λ b. is_bad b ≡ false) text
  pub parts : AllByRecursion IsPart (slice_split (is_byte slash) text)

-- a path below a prefix
abbrev pub IsRelPath : List ℕ → Type 0
IsRelPath = IsPathWithin 1024 is_control

-- a prefix: `/` and a path without space
abbrev pub IsPrefix : List ℕ → Type 0
IsPrefix text = (path : List ℕ) × (text ≡ slash ∷ path) × IsPathWithin 511 is_control_or_space path

-- ---- where a fault stands

-- a part begins at the front and behind each slash
abbrev pub PartBegins : List ℕ → ℕ → Type 0
PartBegins text at = (at ≡ 0) ⊎ ((before : ℕ) × (at ≡ before + 1) × (slice_get text before ≡ Some slash))

-- the part that begins at an offset
abbrev pub part_at : List ℕ → ℕ → List ℕ
part_at text at = before_first (is_byte slash) (drop at text)

-- at this offset a bad part begins or a bad byte stands
abbrev pub IsOffence : (ℕ → Bool) → List ℕ → ℕ → Type 0
IsOffence is_bad text at =
    (PartBegins text at × (¬ IsPart (part_at text at))) ⊎ ((b : ℕ) × (slice_get text at ≡ Some b) × (is_bad b ≡ true))

-- the least offset of which P holds
abbrev pub IsLeast : (ℕ → Type 0) → ℕ → Type 0
IsLeast P at = P at × ((other : ℕ) → P other → at ≤ other)

-- the fault of a text that is no path: its least offence, else the limit, which it is longer than
abbrev pub IsPathFault : List ℕ → ℕ → Type 0
IsPathFault text at =
    IsLeast (IsOffence is_control text) at
    ⊎ ((at ≡ 1024) × (1024 < length text) × ((other : ℕ) → ¬ IsOffence is_control text other))

-- The fault of a text that is no prefix: 0 where it doesn't begin with `/`; else the least offence of the path
-- behind it; else the limit, 512, which the text is longer than.
abbrev pub IsPrefixFault : List ℕ → ℕ → Type 0
IsPrefixFault [] at = at ≡ 0
IsPrefixFault (b ∷ path) at =
    ((b ≢ slash) × (at ≡ 0))
    ⊎ ((b ≡ slash) × (offset : ℕ) × (at ≡ offset + 1) × IsLeast (IsOffence is_control_or_space path) offset)
    ⊎ ((b ≡ slash) × (at ≡ 512) × (511 < length path) × ((other : ℕ) → ¬ IsOffence is_control_or_space path other))

-- ---- the same as a function

abbrev pub is_bad_part : List ℕ → Bool
is_bad_part [] = true
is_bad_part (a ∷ []) = a == dot
is_bad_part (a ∷ b ∷ []) = a == dot && b == dot
is_bad_part (a ∷ b ∷ c ∷ rest) = false

-- The first offence of what is left from the offset `at` on, where a part begins or not. A part that begins at the
-- end is empty.
abbrev pub first_offence : (ℕ → Bool) → Bool → ℕ → List ℕ → Option ℕ
first_offence is_bad begins at [] = if begins then Some at else None
first_offence is_bad begins at (b ∷ rest) =
    if (begins && is_bad_part (before_first (is_byte slash) (b ∷ rest))) || is_bad b then Some at
    else first_offence is_bad (is_byte slash b) (at + 1) rest

-- the offence, else the limit where the text is longer
abbrev pub or_too_long : ℕ → List ℕ → Option ℕ → Option ℕ
or_too_long limit text (Some at) = Some at
or_too_long limit text None = if nat_lt limit (length text) then Some limit else None

-- the place of a text's fault, where it is no path
abbrev pub path_fault : List ℕ → Option ℕ
path_fault text = or_too_long 1024 text (first_offence is_control true 0 text)

-- the place of a text's fault, where it is no prefix
abbrev pub prefix_fault : List ℕ → Option ℕ
prefix_fault [] = Some 0
prefix_fault (b ∷ path) =
    if b == slash then or_too_long 512 (b ∷ path) (first_offence is_control_or_space true 1 path) else Some 0

-- ---- prefixes inside one another

-- equal to the other, or below it
abbrev pub IsInside : List ℕ → List ℕ → Type 0
IsInside text other = (text ≡ other) ⊎ ((path : List ℕ) × (text ≡ other ++ slash ∷ path))

-- nothing, or a slash and what is below
abbrev pub leads_below : List ℕ → Bool
leads_below [] = true
leads_below (b ∷ path) = b == slash

-- the same as a function
abbrev pub is_inside : List ℕ → List ℕ → Bool
is_inside text other = bytes_eq (take (length other) text) other && leads_below (drop (length other) text)
