-- The texts of truth values, users, sizes, timeouts and paths.
use Rattle.std.specs.Prelude.{ℕ, ◌*◌, ◌^◌, ◌==◌, ◌||◌, Bool, true, false, not, nat_le, codes, List, [], ◌∷◌, take, drop, Option, Some, None, if◌then◌else◌}
use Rattle.std.specs.List.{list_any, prefix_len}
use Rattle.kt_base.specs.Characters.{is_slash, is_absolute}
use Rattle.kt_base.specs.Digits.{is_digit, decimal_from, number_in_64_bits}
use Rattle.kt_base.specs.Limits.{longest_timeout_seconds}
use Rattle.kt_base.specs.Words.{value_of_keyword}
use Rattle.kt_base.specs.Utf8.{utf8}
use Rattle.kt_metadata.specs.declared.value.RequiredUser.{RequiredUser}
use Rattle.kt_metadata.specs.declared.value.RequiredUser.TheVariants.{Any, Root, Unprivileged}

-- `truth_values`: the texts that represent truth values, each with the value that it represents.
abbrev pub truth_values : List (List ℕ × Bool)
truth_values = (codes "true", true) ∷ (codes "yes", true) ∷ (codes "false", false) ∷ (codes "no", false) ∷ []

-- `truth_of text`: the truth value that `text` represents, or nothing if `text` is invalid.
abbrev pub truth_of : List ℕ → Option Bool
truth_of text = value_of_keyword truth_values text

-- `required_users`: the texts that represent required users, each with the user that it represents.
-- The empty text represents `Any`.
abbrev pub required_users : List (List ℕ × RequiredUser)
required_users = ([], Any) ∷ (codes "root", Root) ∷ (codes "unprivileged", Unprivileged) ∷ []

-- `user_of text`: the required user that `text` represents, or nothing if `text` is invalid.
abbrev pub user_of : List ℕ → Option RequiredUser
user_of text = value_of_keyword required_users text

-- `number_of digits`: the number with the decimal digits `digits`, or nothing if `digits` is empty
-- or the number isn't below 2^64.
abbrev pub number_of : List ℕ → Option ℕ
number_of [] = None
number_of (c ∷ cs) = number_in_64_bits (decimal_from 0 (c ∷ cs))

-- `digits_of text`: the decimal digits at the beginning of `text`.
abbrev pub digits_of : List ℕ → List ℕ
digits_of text = take (prefix_len is_digit text) text

-- `after_digits text`: the text `text` without the decimal digits at its beginning.
abbrev pub after_digits : List ℕ → List ℕ
after_digits text = drop (prefix_len is_digit text) text

-- `unit_of c`: the number of bytes that the unit `c` represents. Nothing if the byte `c` isn't one
-- of the letters K, M, G and T, upper-case or lower-case.
abbrev pub unit_of : ℕ → Option ℕ
unit_of c =
    if c == 75 || c == 107 then Some 1024 else if c == 77 || c == 109 then Some (1024 ^ 2)
    else if c == 71 || c == 103 then Some (1024 ^ 3) else if c == 84 || c == 116 then Some (1024 ^ 4) else None

-- `factor_of rest`: the number of bytes that the unit `rest` of a size represents, or 1 if `rest`
-- is empty. `rest` are the bytes of the size after its digits. Nothing if `rest` isn't a unit.
abbrev pub factor_of : List ℕ → Option ℕ
factor_of [] = Some 1
factor_of (c ∷ []) = unit_of c
factor_of (c ∷ d ∷ cs) = None

-- `checked_product number factor`: the product of the numbers `number` and `factor`, or nothing if
-- one of them is absent or the product isn't below 2^64.
abbrev pub checked_product : Option ℕ → Option ℕ → Option ℕ
checked_product None factor = None
checked_product (Some v) None = None
checked_product (Some v) (Some factor) = number_in_64_bits (v * factor)

-- `size_in bytes`: the size, in bytes, that the characters `bytes` represent: ASCII digits, and at
-- most one unit after them. Nothing if `bytes` aren't a size below 2^64.
abbrev pub size_in : List ℕ → Option ℕ
size_in bytes = checked_product (number_of (digits_of bytes)) (factor_of (after_digits bytes))

-- `size_of text`: the size in bytes that `text` represents, or nothing if `text` is invalid.
abbrev pub size_of : List ℕ → Option ℕ
size_of text = size_in (utf8 text)

-- `timeout_of_number number rest`: the timeout in seconds that the number `number` represents,
-- where 0 represents the longest timeout, 1,000,000 seconds. Nothing if `number` is absent or above
-- 1,000,000, or if the bytes `rest` after its digits aren't empty.
abbrev pub timeout_of_number : Option ℕ → List ℕ → Option ℕ
timeout_of_number (Some v) [] = if v == 0 then Some longest_timeout_seconds else if nat_le v longest_timeout_seconds then Some v else None
timeout_of_number (Some v) (c ∷ cs) = None
timeout_of_number None rest = None

-- `timeout_in bytes`: the timeout in seconds that the bytes `bytes` represent, or nothing if they
-- aren't ASCII digits or the number isn't a timeout.
abbrev pub timeout_in : List ℕ → Option ℕ
timeout_in bytes = timeout_of_number (number_of (digits_of bytes)) (after_digits bytes)

-- `timeout_of text`: the timeout in seconds that `text` represents, or nothing if `text` is
-- invalid.
abbrev pub timeout_of : List ℕ → Option ℕ
timeout_of text = timeout_in (utf8 text)

-- `is_not_absolute word`: the element `word` isn't an absolute path, so it can't name a required
-- file.
abbrev pub is_not_absolute : List ℕ → Bool
is_not_absolute word = not (is_absolute word)

-- `is_relative_with_slash word`: the element `word` is a relative path with a slash, so it can't
-- name a required program.
abbrev pub is_relative_with_slash : List ℕ → Bool
is_relative_with_slash word = if is_absolute word then false else list_any is_slash word
