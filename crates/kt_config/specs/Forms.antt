-- The accepted forms of values and names.
use Rattle.std.specs.Prelude.{ℕ, Bool, nat_le, not, ◌==◌, ◌&&◌, ◌||◌, List, Option, Some, None, if◌then◌else◌}
use Rattle.std.specs.List.{list_any}
use Rattle.kt_base.specs.Digits.{is_digit, decimal_from}
use Rattle.kt_base.specs.Limits.{largest_width}
use Rattle.kt_base.specs.Texts.{is_empty}
use Rattle.kt_base.specs.Utf8.{utf8}

-- `is_non_digit c`: the byte `c` is not a decimal digit.
abbrev pub is_non_digit : ℕ → Bool
is_non_digit c = not (is_digit c)

-- `is_zero c`: the byte `c` is 0.
abbrev pub is_zero : ℕ → Bool
is_zero c = c == 0

-- `is_invalid_name_byte c`: the byte `c` cannot be in a variable's name: it is not an ASCII letter,
-- a digit, `_` or `-`.
abbrev pub is_invalid_name_byte : ℕ → Bool
is_invalid_name_byte c = not ((nat_le 97 c && nat_le c 122) || (nat_le 65 c && nat_le c 90) || is_digit c || c == 95 || c == 45)

-- `has_zero_byte value`: the text `value` contains a zero byte.
abbrev pub has_zero_byte : List ℕ → Bool
has_zero_byte value = list_any is_zero (utf8 value)

-- `is_variable_name name`: the text `name` can be the name of a suite's variable: it consists of
-- one or more ASCII letters, digits, `_` and `-`.
abbrev pub is_variable_name : List ℕ → Bool
is_variable_name name = not (is_empty name) && not (list_any is_invalid_name_byte (utf8 name))

-- `width_in_range n`: the number `n`, or nothing if `n` is not a width, 1 to 256.
abbrev pub width_in_range : ℕ → Option ℕ
width_in_range n = if nat_le 1 n && nat_le n largest_width then Some n else None

-- `width_in bytes`: the width, 1 to 256, whose decimal digits are the bytes `bytes`, or nothing if
-- there is no such width. Leading zeros are allowed.
abbrev pub width_in : List ℕ → Option ℕ
width_in bytes = if list_any is_non_digit bytes then None else width_in_range (decimal_from 0 bytes)

-- `width_of value`: the width, 1 to 256, whose decimal digits are the text `value`, or nothing if
-- there is no such width.
abbrev pub width_of : List ℕ → Option ℕ
width_of value = width_in (utf8 value)
