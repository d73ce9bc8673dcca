-- Literals and sides of so many variables. The solver's crate has the same words, which compute to the same.
use Rattle.std.specs.Prelude.{ℕ, ◌+◌, ◌-◌, nat_le, ℤ, pos, negsuc, Bool, false, ◌&&◌, List, slice_get, unwrap_or}

-- the variable of a literal
abbrev pub variable_of : ℤ → ℕ
variable_of (pos n) = n
variable_of (negsuc n) = n + 1

-- the literal is of one of so many variables, which count from 1
abbrev pub is_within : ℕ → ℤ → Bool
is_within vars literal = nat_le 1 (variable_of literal) && nat_le (variable_of literal) vars

-- the side of each variable in a list that has the first variable's first
abbrev pub side_of : List Bool → ℕ → Bool
side_of sides n = unwrap_or (slice_get sides (n - 1)) false
