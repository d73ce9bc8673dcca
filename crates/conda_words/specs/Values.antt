-- What the values of options are. This project's own.
use Rattle.std.specs.Prelude.{ℕ, ◌+◌, Bool, ◌&&◌, ◌||◌, ◌==◌, not, nat_lt, nat_le, nat_eq, if◌then◌else◌, List, length, codes, Option, None, Some, is_ok, option_and_then}
use Rattle.std.specs.Char.{is_ascii_alphanumeric}
use Rattle.std.specs.List.{after_first, before_first, list_all, starts_with}
use Rattle.conda_base.specs.Numbers.{number_below}
use Rattle.conda_base.specs.Signs.{dash, dot, equals, underscore}
use Rattle.conda_base.specs.Texts.{begins_with, is_byte}
use Rattle.conda_version.specs.Grammar.{version_read}
use Rattle.conda_version.specs.Text.{holds, trimmed}
use Rattle.conda_words.specs.declared.command.Virtual.{Virtual}

-- the number of which this is the decimal text, without a leading zero, where it lies in a range
abbrev pub number_in : ℕ → ℕ → List ℕ → Option ℕ
number_in low high text = option_and_then (λ n. if nat_le low n then Some n else None) (number_below (high + 1) text)

-- a letter, a digit, `_`, `-` or `.`
abbrev pub is_label_byte : ℕ → Bool
is_label_byte b = is_ascii_alphanumeric b || b == underscore || b == dash || b == dot

-- the name of a channel: 1 to 64 letters, digits, `_`, `-` and `.`, of which `.` isn't the first
abbrev pub is_channel : List ℕ → Bool
is_channel name =
    nat_lt 0 (length name) && nat_le (length name) 64 && not (begins_with dot name) && list_all is_label_byte name

-- `NAME=VERSION`, split at the first `=`; no spaces at the version's ends
abbrev pub virtual_name : List ℕ → List ℕ
virtual_name value = before_first (is_byte equals) value

abbrev pub virtual_version : List ℕ → List ℕ
virtual_version value = trimmed (after_first (is_byte equals) value)

-- the name of a virtual package
abbrev pub is_virtual_name : List ℕ → Bool
is_virtual_name name = starts_with nat_eq name (codes "__") && list_all is_label_byte name

-- a version without `-`
abbrev pub is_virtual_version : List ℕ → Bool
is_virtual_version text = is_ok (version_read text) && not (holds dash text)

-- a virtual package, of which `NAME-VERSION-0` has at most 255 bytes
abbrev pub is_virtual : List ℕ → Bool
is_virtual value =
    is_virtual_name (virtual_name value) && nat_le (length (virtual_name value) + length (virtual_version value) + 3) 255
    && is_virtual_version (virtual_version value)

-- the virtual package that a value gives
abbrev pub virtual_of : List ℕ → Virtual
virtual_of value = record { name = virtual_name value; version = virtual_version value }
