use Rattle.kt_store.proofs.Common.{AreValidRuns, HasCleanDisk, List, OnlyReadsRuns, Run, StandsFor, entries_of, map, run_at, state, take, full_entry_columns, ◌≡◌}
use Rattle.kt_store.proofs.entries.read_entries.Given as goal

-- the entries of the rows before the current row were read
abbrev pub invariant-loop-row : goal.invariant-loop-row
invariant-loop-row g l = OnlyReadsRuns g.S.Store l.fn.conn l.conn
    × ((runs : List Run) → StandsFor (state g.S.Store l.fn.conn) runs → HasCleanDisk (state g.S.Store l.conn) → AreValidRuns runs → l.rows ≡ map full_entry_columns (entries_of (run_at runs l.run))
    → l.entries.items ≡ map (λ e. e) (take l.row-index (entries_of (run_at runs l.run))))
