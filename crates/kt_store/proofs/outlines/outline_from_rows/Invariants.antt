use Rattle.kt_store.proofs.Common.{AllByRecursion, Entry, IsValidEntry, List, entry_columns, map, outline_entry, take, ◌≡◌}
use Rattle.kt_store.proofs.outlines.outline_from_rows.Given as goal

abbrev pub invariant-loop-row : goal.invariant-loop-row
invariant-loop-row l = (es : List Entry) → AllByRecursion IsValidEntry es → l.rows ≡ map entry_columns es → l.entries.items ≡ map outline_entry (take l.row-index es)
