-- Decimal digits and the numbers that they represent.
use Rattle.std.specs.Prelude.{ℕ, ◌+◌, ◌*◌, ◌-◌, ◌^◌, Bool, ◌&&◌, nat_le, nat_lt, List, [], ◌∷◌, Option, Some, None, if◌then◌else◌}

-- `is_digit c`: the ASCII code `c` is that of a decimal digit, `0` to `9`.
abbrev pub is_digit : ℕ → Bool
is_digit c = nat_le 48 c && nat_le c 57

-- `decimal_from v digits`: the number whose decimal digits are those of the number `v`, followed by
-- `digits`. The elements of `digits` are ASCII codes.
abbrev pub decimal_from : ℕ → List ℕ → ℕ
decimal_from v [] = v
decimal_from v (c ∷ cs) = decimal_from (10 * v + (c - 48)) cs

-- `number_up_to greatest n`: the number `n`, or nothing if `n` is greater than `greatest`.
abbrev pub number_up_to : ℕ → ℕ → Option ℕ
number_up_to greatest n = if nat_le n greatest then Some n else None

-- `number_in_64_bits n`: the number `n`, or nothing if `n` does not fit in 64 bits.
abbrev pub number_in_64_bits : ℕ → Option ℕ
number_in_64_bits n = if nat_lt n (2 ^ 64) then Some n else None
