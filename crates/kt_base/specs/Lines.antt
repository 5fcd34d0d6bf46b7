-- The lines of a text.
use Rattle.std.specs.Prelude.{ℕ, Bool, ◌==◌, if◌then◌else◌, List, [], ◌∷◌}

-- `is_newline b`: the byte `b` is a newline.
abbrev pub is_newline : ℕ → Bool
is_newline b = b == 10

-- `with_prepended_byte b lines`: `lines` with the byte `b` prepended to the first line. If `lines`
-- is empty, the result is one line that contains `b` alone.
abbrev pub with_prepended_byte : ℕ → List (List ℕ) → List (List ℕ)
with_prepended_byte b [] = (b ∷ []) ∷ []
with_prepended_byte b (line ∷ lines) = (b ∷ line) ∷ lines

-- `lines text`: the lines of the bytes `text`, without their newlines. Bytes after the last newline
-- are a line, too.
abbrev pub lines : List ℕ → List (List ℕ)
lines [] = []
lines (b ∷ text) = if is_newline b then [] ∷ lines text else with_prepended_byte b (lines text)
