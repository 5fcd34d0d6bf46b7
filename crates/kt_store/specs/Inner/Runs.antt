-- Conditions on runs and entries, and their rows.
use Rattle.std.specs.Prelude.{◌≡◌, ℕ, pos, suc, Option, None, ◌<◌, List, [], ◌∷◌, length, Some}
use Rattle.kt_store.specs.Runs.{IsEncodableProperty, IsValidRun, IsEncodable, run_at, with_entry}
use Rattle.kt_store.specs.Types.{AllByRecursion, Entry, Int, Null, Passed, Row, Run}

-- `HasNoReasonIfPassed e`: if the case of entry `e` passed, the reason of its verdict is empty
abbrev pub HasNoReasonIfPassed : Entry → Type 0
HasNoReasonIfPassed e = e.verdict.kind ≡ Passed → e.verdict.reason ≡ []

-- `HasEncodableTexts e`: all texts of entry `e`, including the texts of its properties, are
-- representable in UTF-8
abbrev pub HasEncodableTexts : Entry → Type 0
HasEncodableTexts e = IsEncodable e.program × IsEncodable e.case_name × IsEncodable e.verdict.reason × AllByRecursion IsEncodableProperty e.meta

-- `IsValidWithEntry run e runs`: `runs` contains the run number `run`. If the texts of entry `e`
-- are representable in UTF-8, each run meets `IsValidRun` after `e` is added to run `run`.
abbrev pub IsValidWithEntry : ℕ → Entry → List Run → Type 0
IsValidWithEntry run e runs = (k : ℕ) × (run ≡ suc k) × (k < length runs) × (HasEncodableTexts e → AllByRecursion IsValidRun (with_entry run e runs))

-- `IsComplete run runs`: `runs` contains the run number `run`, and this run has as many entries as
-- its total
abbrev pub IsComplete : ℕ → List Run → Type 0
IsComplete run runs = (k : ℕ) × (r : Run) × (run ≡ suc k) × (run_at runs run ≡ Some r) × (length r.entries ≡ r.total)

-- `entries_of r`: the entries of run `r`, or none if `r` is `None`
abbrev pub entries_of : Option Run → List Entry
entries_of None = []
entries_of (Some r) = r.entries

-- `finished_run_row r`: the values that replace the row of run `r` when the run is finished. The
-- first value is the rowid, and the others are the row of `r` with the finished flag 1.
abbrev pub finished_run_row : Run → Row
finished_run_row r = Int (pos r.number) ∷ Int (pos r.number) ∷ Null ∷ Int (pos r.started) ∷ Int (pos r.total) ∷ Int (pos 1) ∷ []
