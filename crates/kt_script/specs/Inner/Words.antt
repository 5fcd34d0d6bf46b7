-- Names and numbers.
use Rattle.std.specs.Prelude.{ℕ, Bool, false, List, [], ◌∷◌, take, drop, Option, Some}
use Rattle.std.specs.List.{prefix_len}
use Rattle.kt_script.specs.Types.{Bad, Number, Lexeme}
use Rattle.kt_script.specs.Letters.{is_name_start, is_name_byte}
use Rattle.kt_base.specs.Digits.{is_digit, decimal_from, number_in_64_bits}
use Rattle.kt_script.specs.TokenRules.{kind_of_word}
use Rattle.kt_script.specs.Inner.Pieces.{token, invalid_lexeme}

-- `name_at text`: the token of the longest name at the beginning of `text`. The token is a truth
-- value if the name is `true` or `false`.
abbrev pub name_at : List ℕ → Lexeme
name_at text = token (prefix_len is_name_byte text) (kind_of_word (take (prefix_len is_name_byte text) text))

-- `begins_with_name_start text`: `text` begins with a letter or an underscore.
abbrev pub begins_with_name_start : List ℕ → Bool
begins_with_name_start [] = false
begins_with_name_start (c ∷ cs) = is_name_start c

-- `number_lexeme text n precedes_letter v`: the token of the number `v`, whose digits are the first
-- `n` bytes of `text`. The token is invalid if `v` is absent, since the number is too large. It is
-- invalid, too, if `precedes_letter` is true, since a letter or underscore follows the digits.
abbrev pub number_lexeme : List ℕ → ℕ → Bool → Option ℕ → Lexeme
number_lexeme text n false (Some v) = token n (Number v)
number_lexeme text n precedes_letter v = invalid_lexeme text Bad

-- `number_at text`: the token of the longest number at the beginning of `text`. The token is
-- invalid if a letter or underscore follows, or if the number does not fit in 64 bits.
abbrev pub number_at : List ℕ → Lexeme
number_at text = let n = prefix_len is_digit text in number_lexeme text n (begins_with_name_start (drop n text)) (number_in_64_bits (decimal_from 0 (take n text)))
