-- The rules for the tokens of a text. A text is a sequence of white space, comments and tokens.
use Rattle.std.specs.Prelude.{◌≡◌, ℕ, ◌+◌, ◌<◌, ◌≤◌, ◌^◌, ◌==◌, ◌||◌, ◌&&◌, Bool, true, false, not, nat_eq, bytes_eq, codes, List, [], ◌∷◌, ◌++◌, drop, Option, Some, None, chars, if◌then◌else◌}
use Rattle.std.specs.List.{starts_with, prefix_len}
use Rattle.kt_script.specs.Types.{Bad, Invalid, CloseBrace, CloseBracket, CloseParen, Comma, Dot, Unterminated, Equals, Flaw, TokenKind, LeveledComment, Name, Number, OpenBrace, OpenBracket, OpenParen, Quoted, Semicolon, Token, Truth}
use Rattle.kt_base.specs.Characters.{is_space}
use Rattle.kt_base.specs.Digits.{is_digit, decimal_from}
use Rattle.kt_script.specs.Letters.{is_name_start, is_name_byte, is_plain, escape_of}

-- `punctuation_kind_of c`: the kind of the punctuation token that consists of the byte `c`, or
-- nothing if `c` is not one of `( ) { } [ ] = , ; .`
abbrev pub punctuation_kind_of : ℕ → Option TokenKind
punctuation_kind_of c =
    if c == 40 then Some OpenParen else if c == 41 then Some CloseParen
    else if c == 123 then Some OpenBrace else if c == 125 then Some CloseBrace
    else if c == 91 then Some OpenBracket else if c == 93 then Some CloseBracket
    else if c == 61 then Some Equals else if c == 44 then Some Comma
    else if c == 59 then Some Semicolon else if c == 46 then Some Dot
    else None

-- `kind_of_word letters`: the kind of the token with the bytes `letters`: a truth value for `true`
-- and `false`, otherwise a name.
abbrev pub kind_of_word : List ℕ → TokenKind
kind_of_word letters = if bytes_eq letters (codes "true") then Truth true else if bytes_eq letters (codes "false") then Truth false else Name (chars letters)

-- `has_bracket_level text`: `text` begins with one or more `=`, followed by `[`.
abbrev pub has_bracket_level : List ℕ → Bool
has_bracket_level text = starts_with nat_eq text (codes "=") && starts_with nat_eq (drop (prefix_len (λ c. c == 61) text) text) (codes "[")

-- `line_after line c`: the line number after the byte `c`, which is on the line `line`.
abbrev pub line_after : ℕ → ℕ → ℕ
line_after line c = if c == 10 then line + 1 else line

-- `line_at_end line bytes`: the number of the line on which the bytes `bytes` end, if they begin on
-- the line `line`.
abbrev pub line_at_end : ℕ → List ℕ → ℕ
line_at_end line [] = line
line_at_end line (c ∷ cs) = line_at_end (line_after line c) cs

-- `AllSatisfy p bytes`: each of the bytes `bytes` satisfies the predicate `p`.
abbrev pub AllSatisfy : (ℕ → Bool) → List ℕ → Type 0
AllSatisfy p [] = Unit {0}
AllSatisfy p (c ∷ cs) = (p c ≡ true) × AllSatisfy p cs

-- `StopsAt p bytes`: `bytes` are empty, or the first byte does not satisfy the predicate `p`.
abbrev pub StopsAt : (ℕ → Bool) → List ℕ → Type 0
StopsAt p [] = Unit {0}
StopsAt p (c ∷ cs) = p c ≡ false

-- `is_quote c`: the byte `c` is a double or a single quote.
abbrev pub is_quote : ℕ → Bool
is_quote c = c == 34 || c == 39

-- `is_not_newline c`: the byte `c` is not a newline.
abbrev pub is_not_newline : ℕ → Bool
is_not_newline c = not (c == 10)

-- `IsStringContent quote text bytes`: the bytes `text` between two bytes `quote` in a script are a
-- string with the value `bytes`.
pub data IsStringContent (quote : ℕ) : List ℕ → List ℕ → Type 0 where
  nothing : IsStringContent quote [] []
  itself : {c : ℕ} {cs bytes : List ℕ} → is_plain quote c ≡ true → IsStringContent quote cs bytes → IsStringContent quote (c ∷ cs) (c ∷ bytes)
  escape : {c d : ℕ} {cs bytes : List ℕ} → escape_of c ≡ Some d → IsStringContent quote cs bytes → IsStringContent quote (92 ∷ c ∷ cs) (d ∷ bytes)

-- `HasNoEscape bytes`: a backslash and the first byte of `bytes` are not an escape of this profile.
abbrev pub HasNoEscape : List ℕ → Type 0
HasNoEscape [] = Unit {0}
HasNoEscape (c ∷ cs) = escape_of c ≡ None

-- `Closes bytes after`: in the text that consists of `bytes` and then of `after`, the first `]]` is
-- at the end of `bytes`.
pub data Closes : List ℕ → List ℕ → Type 0 where
  closed : {after : List ℕ} → Closes (93 ∷ 93 ∷ []) after
  not_yet : {c : ℕ} {cs after : List ℕ} → starts_with nat_eq ((c ∷ cs) ++ after) (codes "]]") ≡ false → Closes cs after → Closes (c ∷ cs) after

-- `HasNoCommentEnd text`: `text` does not contain `]]`.
abbrev pub HasNoCommentEnd : List ℕ → Type 0
HasNoCommentEnd [] = Unit {0}
HasNoCommentEnd (c ∷ cs) = (starts_with nat_eq (c ∷ cs) (codes "]]") ≡ false) × HasNoCommentEnd cs

-- `opens_long_comment text`: `text`, which follows `--`, begins with `[[`, so a long comment
-- begins.
abbrev pub opens_long_comment : List ℕ → Bool
opens_long_comment text = starts_with nat_eq text (codes "[[")

-- `opens_leveled_comment text`: `text`, which follows `--`, begins with `[`, one or more `=`, and
-- `[`.
abbrev pub opens_leveled_comment : List ℕ → Bool
opens_leveled_comment text = starts_with nat_eq text (codes "[") && has_bracket_level (drop 1 text)

-- `IsBlank bytes after`: the bytes `bytes` are a comment or a single byte of white space, if the
-- bytes `after` follow them.
pub data IsBlank : List ℕ → List ℕ → Type 0 where
  space : {c : ℕ} {after : List ℕ} → is_space c ≡ true → IsBlank (c ∷ []) after
  line_comment : {words after : List ℕ} → opens_long_comment (words ++ after) ≡ false → opens_leveled_comment (words ++ after) ≡ false → AllSatisfy is_not_newline words → StopsAt is_not_newline after → IsBlank (45 ∷ 45 ∷ words) after
  long_comment : {words after : List ℕ} → Closes words after → IsBlank (45 ∷ 45 ∷ 91 ∷ 91 ∷ words) after

-- `IsInvalidFirstByte c`: the byte `c` does not begin a token, a comment or white space.
pub record IsInvalidFirstByte (c : ℕ) : Type 0 where
  pub no_space : is_space c ≡ false
  pub no_letter : is_name_start c ≡ false
  pub no_digit : is_digit c ≡ false
  pub no_quote : is_quote c ≡ false
  pub no_dash : c == 45 ≡ false
  pub no_mark : punctuation_kind_of c ≡ None

-- `HasFlaw text flaw`: `text` does not begin with white space, a comment or a token of this
-- profile, for the reason `flaw`. All of `text` is then an invalid token.
pub data HasFlaw : List ℕ → Flaw → Type 0 where
  large_number : (c : ℕ) (cs after : List ℕ) → AllSatisfy is_digit (c ∷ cs) → StopsAt is_digit after → 2 ^ 64 ≤ decimal_from 0 (c ∷ cs) → HasFlaw ((c ∷ cs) ++ after) Bad
  lettered_number : (c d : ℕ) (cs after : List ℕ) → AllSatisfy is_digit (c ∷ cs) → is_name_start d ≡ true → HasFlaw ((c ∷ cs) ++ d ∷ after) Bad
  endless_string : {quote : ℕ} {words bytes : List ℕ} (after : List ℕ) → is_quote quote ≡ true → IsStringContent quote words bytes → StopsAt is_not_newline after → HasFlaw (quote ∷ words ++ after) Unterminated
  bad_escape : {quote : ℕ} {words bytes : List ℕ} (after : List ℕ) → is_quote quote ≡ true → IsStringContent quote words bytes → HasNoEscape after → HasFlaw (quote ∷ words ++ 92 ∷ after) Bad
  endless_comment : {text : List ℕ} → HasNoCommentEnd text → HasFlaw (45 ∷ 45 ∷ 91 ∷ 91 ∷ text) Unterminated
  leveled_comment : {text : List ℕ} → opens_long_comment text ≡ false → opens_leveled_comment text ≡ true → HasFlaw (45 ∷ 45 ∷ text) LeveledComment
  lone_dash : {text : List ℕ} → starts_with nat_eq text (codes "-") ≡ false → HasFlaw (45 ∷ text) Bad
  invalid_first_byte : {c : ℕ} {cs : List ℕ} → IsInvalidFirstByte c → HasFlaw (c ∷ cs) Bad

-- `IsToken bytes after kind`: the bytes `bytes` are a token of the kind `kind`, if the bytes
-- `after` follow them.
pub data IsToken : List ℕ → List ℕ → TokenKind → Type 0 where
  name_token : {c : ℕ} {cs after : List ℕ} → is_name_start c ≡ true → AllSatisfy is_name_byte cs → StopsAt is_name_byte after → IsToken (c ∷ cs) after (kind_of_word (c ∷ cs))
  number_token : {c : ℕ} {cs after : List ℕ} → AllSatisfy is_digit (c ∷ cs) → StopsAt is_name_byte after → decimal_from 0 (c ∷ cs) < 2 ^ 64 → IsToken (c ∷ cs) after (Number (decimal_from 0 (c ∷ cs)))
  string_token : {quote : ℕ} {words bytes after : List ℕ} → is_quote quote ≡ true → IsStringContent quote words bytes → IsToken (quote ∷ words ++ quote ∷ []) after (Quoted (chars bytes))
  punctuation_token : {c : ℕ} {kind : TokenKind} {after : List ℕ} → punctuation_kind_of c ≡ Some kind → IsToken (c ∷ []) after kind
  invalid_token : {text : List ℕ} {flaw : Flaw} → HasFlaw text flaw → IsToken text [] (Invalid flaw)

-- `AreTokens line text ts`: `text`, which begins on the line `line`, consists of the tokens `ts`,
-- and of white space and comments around them.
pub data AreTokens : ℕ → List ℕ → List Token → Type 0 where
  no_text : {line : ℕ} → AreTokens line [] []
  blank_first : {line : ℕ} {blank rest : List ℕ} {ts : List Token} → IsBlank blank rest → AreTokens (line_at_end line blank) rest ts → AreTokens line (blank ++ rest) ts
  token_first : {line : ℕ} {bytes rest : List ℕ} {kind : TokenKind} {ts : List Token} → IsToken bytes rest kind → AreTokens (line_at_end line bytes) rest ts
      → AreTokens line (bytes ++ rest) (record { line = line; kind = kind } ∷ ts)
