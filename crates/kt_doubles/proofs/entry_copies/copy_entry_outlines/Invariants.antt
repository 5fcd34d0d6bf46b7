use Rattle.std.proofs.Common.{map, ◌≡◌, ◌++◌, drop}
use Rattle.kt_doubles.proofs.Common.{outline_entry}
use Rattle.kt_doubles.proofs.entry_copies.copy_entry_outlines.Given as goal

-- the copies of all entries are those made so far, followed by those of the remaining entries
abbrev pub invariant-loop-entry : goal.invariant-loop-entry
invariant-loop-entry l = map outline_entry l.entries ≡ l.entry_copies.items ++ map outline_entry (drop l.entry-index l.entries)
