-- Tables from keywords to values.
use Rattle.std.specs.Prelude.{ℕ, List, [], ◌∷◌, Option, Some, None, bytes_eq, chars, if◌then◌else◌}
use Rattle.std.specs.Borrow.{Bor}

-- `keyword_row row`: the pair that the row `row` of a table represents: its keyword in characters,
-- and its value.
abbrev pub keyword_row : {T : Type 0} → Bor (List ℕ) × T → List ℕ × T
keyword_row row = (chars row.0.now, row.1)

-- `byte_keyword_row row`: the pair that the row `row` of a table represents: its keyword in bytes,
-- and its value.
abbrev pub byte_keyword_row : {T : Type 0} → Bor (List ℕ) × T → List ℕ × T
byte_keyword_row row = (row.0.now, row.1)

-- `value_of_keyword rows word`: the value of the first of the table rows `rows` whose keyword is
-- `word`, or nothing if no row has this keyword.
abbrev pub value_of_keyword : {T : Type 0} → List (List ℕ × T) → List ℕ → Option T
value_of_keyword [] word = None
value_of_keyword (row ∷ rows) word = if bytes_eq word row.0 then Some row.1 else value_of_keyword rows word
