-- The bytes of a text.
use Rattle.std.specs.Prelude.{ℕ, List}
use Rattle.std.specs.Str.{encode_utf8_all}

-- `utf8 text`: the bytes that encode the characters `text` in UTF-8.
abbrev pub utf8 : List ℕ → List ℕ
utf8 text = encode_utf8_all text
