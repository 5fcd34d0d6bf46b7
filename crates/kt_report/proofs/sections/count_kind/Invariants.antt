use Rattle.std.proofs.Common.{◌≡◌, ◌≤◌, length, take}
use Rattle.kt_report.proofs.Common.{entries_of}
use Rattle.kt_report.proofs.sections.count_kind.Given as goal

-- The entries found among the first entries.
abbrev pub invariant-loop-entry : goal.invariant-loop-entry
invariant-loop-entry l = (l.found ≡ length (entries_of l.kind (take l.entry-index l.entries))) × (l.found ≤ l.entry-index)
