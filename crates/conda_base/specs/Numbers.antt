-- Numbers in decimal digits.
use Rattle.std.specs.Prelude.{ℕ, Bool, false, ◌&&◌, ◌==◌, nat_lt, if◌then◌else◌, List, [], ◌∷◌, Option, None, Some}
use Rattle.std.specs.Str.{all_ascii_digits}
use Rattle.std.specs.Str.Parse.{digits_value}
use Rattle.conda_base.specs.Signs.{digit_zero}

-- at least one digit, and nothing else
abbrev pub is_digits : List ℕ → Bool
is_digits [] = false
is_digits (d ∷ rest) = all_ascii_digits (d ∷ rest)

-- digits with a 0 in front of others
abbrev pub has_leading_zero : List ℕ → Bool
has_leading_zero [] = false
has_leading_zero (d ∷ []) = false
has_leading_zero (d ∷ e ∷ rest) = d == digit_zero

-- the number below a limit that digits mean, leading zeros or not
abbrev pub digits_below : ℕ → List ℕ → Option ℕ
digits_below limit text = if is_digits text && nat_lt (digits_value 10 text) limit then Some (digits_value 10 text) else None

-- the number below a limit of which this is the decimal text, without a leading zero
abbrev pub number_below : ℕ → List ℕ → Option ℕ
number_below limit text = if has_leading_zero text then None else digits_below limit text
