-- Comments.
use Rattle.std.specs.Prelude.{ℕ, suc, ◌+◌, ◌&&◌, not, nat_eq, codes, List, [], ◌∷◌, drop, Option, Some, None, option_map, if◌then◌else◌}
use Rattle.std.specs.List.{starts_with, prefix_len}
use Rattle.kt_script.specs.Types.{Bad, Unterminated, LeveledComment, Lexeme}
use Rattle.kt_base.specs.Lines.{is_newline}
use Rattle.kt_script.specs.TokenRules.{has_bracket_level}
use Rattle.kt_script.specs.Inner.Pieces.{blank, invalid_lexeme}

-- `long_comment_end text`: the number of bytes in `text` up to and including its first `]]`, or
-- nothing if `text` does not contain `]]`.
abbrev pub long_comment_end : List ℕ → Option ℕ
long_comment_end [] = None
long_comment_end (c ∷ cs) = if starts_with nat_eq (c ∷ cs) (codes "]]") then Some 2 else option_map suc (long_comment_end cs)

-- `long_comment text n`: the lexeme at the beginning of `text`, which begins with `--[[`. It is a
-- comment whose `]]` ends `n` bytes after the `--[[`, or an invalid token if `n` is absent.
abbrev pub long_comment : List ℕ → Option ℕ → Lexeme
long_comment text None = invalid_lexeme text Unterminated
long_comment text (Some n) = blank (n + 4)

-- `comment_at text`: the comment at the beginning of `text`: a comment in long brackets, or a
-- comment up to the end of its line. An invalid token if `text` does not begin with such a comment.
abbrev pub comment_at : List ℕ → Lexeme
comment_at text =
    if starts_with nat_eq text (codes "--[[") then long_comment text (long_comment_end (drop 4 text))
    else if starts_with nat_eq text (codes "--[") && has_bracket_level (drop 3 text) then invalid_lexeme text LeveledComment
    else if starts_with nat_eq text (codes "--") then blank (2 + prefix_len (λ c. not (is_newline c)) (drop 2 text))
    else invalid_lexeme text Bad
