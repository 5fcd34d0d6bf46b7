-- The lexemes of a text: white space, comments and tokens.
use Rattle.std.specs.Prelude.{ℕ, List, length, Some, None}
use Rattle.kt_script.specs.Types.{Invalid, Flaw, TokenKind, Lexeme}

-- `blank n`: a lexeme of `n` bytes that is white space or a comment.
abbrev pub blank : ℕ → Lexeme
blank n = record { length = n; kind = None }

-- `token n kind`: a lexeme of `n` bytes that is a token of the kind `kind`.
abbrev pub token : ℕ → TokenKind → Lexeme
token n kind = record { length = n; kind = Some kind }

-- `invalid_lexeme text flaw`: an invalid token that consists of all bytes of `text`. The reason why
-- it is invalid is `flaw`.
abbrev pub invalid_lexeme : List ℕ → Flaw → Lexeme
invalid_lexeme text flaw = token (length text) (Invalid flaw)
