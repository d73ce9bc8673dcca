-- Which prefixes a real host has lent. This project's own.
use Rattle.std.specs.Prelude.{ℕ, List, Bool, is_some}
use Rattle.std.specs.Ordering.{nat_cmp}
use Rattle.std.specs.Cmp.Lexicographic.{slice_cmp}
use Rattle.std.specs.Map.{lookup}
use Rattle.std.specs.BTreeMap.{is_at}

-- whether a prefix is among those that were noted
abbrev pub is_lent : List (List ℕ × ℕ) → List ℕ → Bool
is_lent noted prefix = is_some (lookup (is_at (slice_cmp nat_cmp prefix)) noted)
