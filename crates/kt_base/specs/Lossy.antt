-- Lossy decoding of bytes as UTF-8.
use Rattle.std.specs.Prelude.{ℕ, zero, suc, ◌-◌, ◌&&◌, nat_le, if◌then◌else◌, List, [], ◌∷◌, ◌++◌, length, take, Option, Some, None}
use Rattle.std.specs.Option.{option_or}
use Rattle.std.specs.Str.{chars, is_utf8}

-- `utf8_prefix bytes n`: the first `n` bytes of `bytes`, or nothing if `bytes` has fewer than `n`
-- bytes or if these bytes are not valid UTF-8.
abbrev pub utf8_prefix : List ℕ → ℕ → Option (List ℕ)
utf8_prefix bytes n = if nat_le n (length bytes) && is_utf8 (take n bytes) then Some (take n bytes) else None

-- `leading_character bytes`: the encoding of the character at the beginning of `bytes`: the
-- shortest prefix of 1 to 4 bytes that is valid UTF-8. Nothing if `bytes` does not begin with a
-- well-formed character.
unfoldable pub leading_character : List ℕ → Option (List ℕ)
leading_character bytes = option_or (utf8_prefix bytes 1) (option_or (utf8_prefix bytes 2) (option_or (utf8_prefix bytes 3) (utf8_prefix bytes 4)))

-- `decoded_character found`: the character that the bytes `found` encode, or U+FFFD if `found` is
-- absent.
abbrev pub decoded_character : Option (List ℕ) → List ℕ
decoded_character None = 65533 ∷ []
decoded_character (Some bytes) = chars bytes

-- `continuation_length found`: the number of bytes in `found` after its first byte, or 0 if `found`
-- is absent. The bytes `found` encode one character.
abbrev pub continuation_length : Option (List ℕ) → ℕ
continuation_length None = 0
continuation_length (Some bytes) = length bytes - 1

-- `lossy_from n bytes`: the decoded text of `bytes` without the first `n` bytes, which belong to a
-- character that began before `bytes`.
unfoldable pub lossy_from : ℕ → List ℕ → List ℕ
lossy_from n [] = []
lossy_from zero (b ∷ bytes) = decoded_character (leading_character (b ∷ bytes)) ++ lossy_from (continuation_length (leading_character (b ∷ bytes))) bytes
lossy_from (suc n) (b ∷ bytes) = lossy_from n bytes

-- `lossy bytes`: the text that `bytes` are decoded to as UTF-8, from left to right. Each byte that
-- is not part of a well-formed character is decoded to U+FFFD.
abbrev pub lossy : List ℕ → List ℕ
lossy bytes = lossy_from 0 bytes
