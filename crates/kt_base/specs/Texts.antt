-- Parts of texts.
use Rattle.std.specs.Prelude.{ℕ, Bool, true, false, ◌==◌, List, [], ◌∷◌, Option, Some, None, if◌then◌else◌}

-- `is_empty text`: the text `text` has no character.
abbrev pub is_empty : List ℕ → Bool
is_empty [] = true
is_empty (c ∷ cs) = false

-- `before sign text`: the characters of `text` before the first occurrence of the character `sign`.
-- If `text` does not contain `sign`, the result is all of `text`.
abbrev pub before : ℕ → List ℕ → List ℕ
before sign [] = []
before sign (c ∷ cs) = if c == sign then [] else c ∷ before sign cs

-- `after sign text`: the characters of `text` after the first occurrence of the character `sign`,
-- or nothing if `text` does not contain `sign`.
abbrev pub after : ℕ → List ℕ → Option (List ℕ)
after sign [] = None
after sign (c ∷ cs) = if c == sign then Some cs else after sign cs
