-- Warnings about filters that select no case.
use Rattle.std.specs.Prelude.{ℕ, List, [], ◌++◌, Option, Some, None, codes, flat_map, slice_get}

-- `warning_line word`: the warning that the filter `word` selects no case. It quotes `word`, the
-- filter as it was given.
abbrev pub warning_line : List ℕ → List ℕ
warning_line word = codes "kyua: W: No test cases matched by the filter '" ++ word ++ codes "'.\n"

-- `warning_at filter`: the warning that `filter` selects no case, or nothing if `filter` is `None`.
abbrev pub warning_at : Option (List ℕ) → List ℕ
warning_at None = []
warning_at (Some word) = warning_line word

-- `warnings words positions`: a warning for each of the filters `words` at an index in `positions`,
-- in the order of `positions`.
abbrev pub warnings : List (List ℕ) → List ℕ → List ℕ
warnings words positions = flat_map (λ position. warning_at (slice_get words position)) positions
