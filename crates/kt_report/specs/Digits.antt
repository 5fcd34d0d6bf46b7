-- Numbers with a fixed number of digits, and durations.
use Rattle.std.specs.Prelude.{ℕ, ◌+◌, ◌/◌, ◌%◌, List, [], ◌∷◌, ◌++◌, codes}
use Rattle.std.specs.Fmt.{decimal}

-- `last_digit n`: the byte of the last decimal digit of `n`.
abbrev pub last_digit : ℕ → ℕ
last_digit n = 48 + n % 10

-- `two_digits n`: the last two decimal digits of `n`.
abbrev pub two_digits : ℕ → List ℕ
two_digits n = last_digit (n / 10) ∷ last_digit n ∷ []

-- `three_digits n`: the last three decimal digits of `n`.
abbrev pub three_digits : ℕ → List ℕ
three_digits n = last_digit (n / 100) ∷ last_digit (n / 10) ∷ last_digit n ∷ []

-- `four_digits n`: the last four decimal digits of `n`.
abbrev pub four_digits : ℕ → List ℕ
four_digits n = last_digit (n / 1000) ∷ last_digit (n / 100) ∷ last_digit (n / 10) ∷ last_digit n ∷ []

-- `seconds_bytes millis`: the bytes that are printed for a duration of `millis` milliseconds:
-- seconds with three digits after the point.
abbrev pub seconds_bytes : ℕ → List ℕ
seconds_bytes millis = decimal (millis / 1000) ++ codes "." ++ three_digits (millis % 1000)
