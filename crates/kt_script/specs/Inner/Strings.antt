-- Strings.
use Rattle.std.specs.Prelude.{ℕ, ◌+◌, ◌==◌, Bool, true, false, List, [], ◌∷◌, ◌++◌, drop, Option, Some, None, Result, Ok, Err, chars, if◌then◌else◌}
use Rattle.kt_script.specs.Types.{Bad, Unterminated, Flaw, Lexeme, Quoted}
use Rattle.kt_script.specs.declared.token.StringElement.{StringElement}
use Rattle.kt_script.specs.declared.token.StringElement.TheVariants as stop
use Rattle.kt_script.specs.Letters.{escape_of}
use Rattle.kt_script.specs.Inner.Pieces.{token, invalid_lexeme}

-- `with_prefix front n r`: the result `r` of reading a string, with the bytes `front` prepended to
-- the value and `n` added to the length. `front` is the value of the `n` bytes of the script before
-- those that were read with the result `r`. A flaw is unchanged.
abbrev pub with_prefix : List ℕ → ℕ → Result (List ℕ × ℕ) Flaw → Result (List ℕ × ℕ) Flaw
with_prefix front n (Ok x) = Ok (front ++ x.0, n + x.1)
with_prefix front n (Err flaw) = Err flaw

-- `with_escaped_byte c r`: the result of reading a string from the byte after a backslash. The
-- escape represents the byte `c`, and `r` is the result of reading the string after the escape. The
-- result is a flaw if `c` is absent, since the escape is unknown.
abbrev pub with_escaped_byte : Option ℕ → Result (List ℕ × ℕ) Flaw → Result (List ℕ × ℕ) Flaw
with_escaped_byte None rest = Err Bad
with_escaped_byte (Some c) rest = with_prefix (c ∷ []) 1 rest

-- `string_at quote escape text`: the result of reading a string from the beginning of `text` up to
-- its closing quote, the byte `quote`. The result is the value in bytes and the length in `text`,
-- including `quote`, or a flaw. If `escape` is true, `text` follows a backslash that begins an
-- escape.
abbrev pub string_at : ℕ → Bool → List ℕ → Result (List ℕ × ℕ) Flaw
string_at quote false [] = Err Unterminated
string_at quote true [] = Err Bad
string_at quote true (c ∷ cs) = with_escaped_byte (escape_of c) (string_at quote false cs)
string_at quote false (c ∷ cs) =
    if c == quote then Ok ([], 1) else if c == 10 then Err Unterminated else if c == 92 then with_prefix [] 1 (string_at quote true cs) else with_prefix (c ∷ []) 1 (string_at quote false cs)

-- `decoded_string r`: the result `r` of `string_at`, with the string's bytes decoded to characters.
abbrev pub decoded_string : Result (List ℕ × ℕ) Flaw → Result (List ℕ × ℕ) Flaw
decoded_string (Ok x) = Ok (chars x.0, x.1)
decoded_string (Err flaw) = Err flaw

-- `quoted_token text r`: the token of the string at the beginning of `text`, which was read with
-- the result `r`. If `r` is a flaw, the token is invalid and extends to the end of `text`.
abbrev pub quoted_token : List ℕ → Result (List ℕ × ℕ) Flaw → Lexeme
quoted_token text (Ok x) = token (x.1 + 1) (Quoted x.0)
quoted_token text (Err flaw) = invalid_lexeme text flaw

-- `quoted_at quote text`: the token of the string at the beginning of `text`. Its first byte is
-- `quote`, a single or double quote.
abbrev pub quoted_at : ℕ → List ℕ → Lexeme
quoted_at quote text = quoted_token text (decoded_string (string_at quote false (drop 1 text)))

-- `escape_element c`: the element of a string for an escape that represents the byte `c`, or a flaw
-- if `c` is absent, since the escape is unknown.
abbrev pub escape_element : Option ℕ → StringElement
escape_element None = stop.Flawed Bad
escape_element (Some c) = stop.Escape c

-- `escape_at bytes`: the element of a string that consists of a backslash and the first of `bytes`.
-- It is an escape, or a flaw if the escape is unknown.
abbrev pub escape_at : List ℕ → StringElement
escape_at [] = stop.Flawed Bad
escape_at (c ∷ cs) = escape_element (escape_of c)

-- `string_element_at quote text`: the element of a string with which `text` begins, after plain
-- bytes of the string. The element is the closing quote (the byte `quote`), an escape, or a flaw.
abbrev pub string_element_at : ℕ → List ℕ → StringElement
string_element_at quote [] = stop.Flawed Unterminated
string_element_at quote (c ∷ cs) = if c == quote then stop.Quote else if c == 92 then escape_at cs else stop.Flawed Unterminated
