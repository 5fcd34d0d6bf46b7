-- The columns from which heads, entries, properties and outputs are read.
use Rattle.std.specs.Prelude.{◌≡◌, ⊤, ℕ, suc, pos, List, [], ◌∷◌, ◌++◌}
use Rattle.kt_store.specs.Runs.{flag, kind_code}
use Rattle.kt_store.specs.Types.{Blob, Entry, Int, Row, Run, RunHead, Text, Variable, utf8}

-- `AreNumberedFrom n heads`: the run numbers of `heads` are `n`, `n` + 1, and so on
abbrev pub AreNumberedFrom : ℕ → List RunHead → Type 0
AreNumberedFrom n [] = ⊤
AreNumberedFrom n (head ∷ heads) = (head.number ≡ n) × AreNumberedFrom (suc n) heads

-- `head_columns r`: the row of run `r` in the result of the query for all runs
abbrev pub head_columns : Run → Row
head_columns r = Int (pos r.number) ∷ Int (pos r.started) ∷ Int (pos r.total) ∷ Int (flag r.finished) ∷ []

-- `entry_columns e`: the first seven columns of entry `e` in the result of the query for entries,
-- which are all columns except the outputs
abbrev pub entry_columns : Entry → Row
entry_columns e =
    Int (pos e.position) ∷ Text (utf8 e.program) ∷ Text (utf8 e.case_name) ∷ Int (pos (kind_code e.verdict.kind)) ∷ Text (utf8 e.verdict.reason) ∷ Int (pos e.started) ∷ Int (pos e.millis) ∷ []

-- `output_columns e`: the last four columns of entry `e` in the result of the query for entries:
-- its outputs
abbrev pub output_columns : Entry → Row
output_columns e = Blob e.body.out ∷ Blob e.body.err ∷ Blob e.cleanup.out ∷ Blob e.cleanup.err ∷ []

-- `full_entry_columns e`: the row of entry `e` in the result of the query for entries, with its
-- outputs
abbrev pub full_entry_columns : Entry → Row
full_entry_columns e = entry_columns e ++ output_columns e

-- `pair_columns v`: the row of property `v` in the result of the query for properties: name and
-- value
abbrev pub pair_columns : Variable → Row
pair_columns v = Text (utf8 v.name) ∷ Text (utf8 v.value) ∷ []
