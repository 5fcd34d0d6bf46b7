-- The tokens of a text, with their lines.
use Rattle.std.specs.Prelude.{ℕ, zero, suc, ◌-◌, ◌==◌, ◌||◌, List, [], ◌∷◌, ◌++◌, Option, Some, None, if◌then◌else◌}
use Rattle.std.specs.List.{prefix_len}
use Rattle.kt_script.specs.Types.{Bad, TokenKind, Lexeme, Token}
use Rattle.kt_base.specs.Characters.{is_space}
use Rattle.kt_script.specs.Letters.{is_name_start}
use Rattle.kt_script.specs.TokenRules.{punctuation_kind_of, line_after}
use Rattle.kt_base.specs.Digits.{is_digit}
use Rattle.kt_script.specs.Inner.Pieces.{blank, token, invalid_lexeme}
use Rattle.kt_script.specs.Inner.Words.{name_at, number_at}
use Rattle.kt_script.specs.Inner.Strings.{quoted_at}
use Rattle.kt_script.specs.Inner.Comments.{comment_at}

-- `punctuation_lexeme text kind`: the token at the beginning of `text`. It is a punctuation token
-- of one byte, of the kind `kind`. If `kind` is absent, it is an invalid token of all bytes.
abbrev pub punctuation_lexeme : List ℕ → Option TokenKind → Lexeme
punctuation_lexeme text None = invalid_lexeme text Bad
punctuation_lexeme text (Some kind) = token 1 kind

-- `lexeme_at text`: the lexeme at the beginning of `text`: white space, a comment or a token. An
-- empty text has a lexeme of 0 bytes.
unfoldable pub lexeme_at : List ℕ → Lexeme
lexeme_at [] = blank 0
lexeme_at (c ∷ cs) =
    if is_space c then blank (prefix_len is_space (c ∷ cs))
    else if is_name_start c then name_at (c ∷ cs)
    else if is_digit c then number_at (c ∷ cs)
    else if c == 34 || c == 39 then quoted_at c (c ∷ cs)
    else if c == 45 then comment_at (c ∷ cs)
    else punctuation_lexeme (c ∷ cs) (punctuation_kind_of c)

-- `tokens_in line kind`: a list of one token, of the kind `kind` on the line `line`, or an empty
-- list if `kind` is absent.
abbrev pub tokens_in : ℕ → Option TokenKind → List Token
tokens_in line None = []
tokens_in line (Some kind) = record { line = line; kind = kind } ∷ []

-- `tokens line n text`: the tokens of `text` after its first `n` bytes, which belong to a lexeme
-- that began before `text`. The line of the first byte of `text` is `line`.
unfoldable pub tokens : ℕ → ℕ → List ℕ → List Token
tokens line n [] = []
tokens line zero (c ∷ cs) = let piece = lexeme_at (c ∷ cs) in tokens_in line piece.kind ++ tokens (line_after line c) (piece.length - 1) cs
tokens line (suc n) (c ∷ cs) = tokens (line_after line c) n cs
