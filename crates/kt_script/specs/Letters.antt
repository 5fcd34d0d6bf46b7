-- Classes of bytes.
use Rattle.std.specs.Prelude.{ℕ, Bool, not, nat_le, ◌==◌, ◌&&◌, ◌||◌, Option, Some, None, if◌then◌else◌}
use Rattle.kt_base.specs.Digits.{is_digit}

-- `is_name_start c`: the byte `c` is an ASCII letter or an underscore.
abbrev pub is_name_start : ℕ → Bool
is_name_start c = (nat_le 97 c && nat_le c 122) || (nat_le 65 c && nat_le c 90) || c == 95

-- `is_name_byte c`: the byte `c` can follow the first byte of a name: it is an ASCII letter, an
-- underscore or a digit.
abbrev pub is_name_byte : ℕ → Bool
is_name_byte c = is_name_start c || is_digit c

-- `is_plain quote c`: the byte `c` represents itself in a string that begins and ends with the byte
-- `quote`: it is not `quote`, a newline or a backslash.
abbrev pub is_plain : ℕ → ℕ → Bool
is_plain quote c = not (c == quote) && not (c == 10) && not (c == 92)

-- `escape_of c`: the byte that a backslash and the byte `c` represent in a string: a newline, a
-- tab, a backslash or a quote. Nothing if they are not an escape.
abbrev pub escape_of : ℕ → Option ℕ
escape_of c = if c == 110 then Some 10 else if c == 116 then Some 9 else if c == 92 || c == 39 || c == 34 then Some c else None
