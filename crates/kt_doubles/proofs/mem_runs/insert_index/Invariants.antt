use Rattle.std.proofs.Common.{◌≡◌, ◌+◌, drop}
use Rattle.kt_doubles.proofs.Common.{insert_index}
use Rattle.kt_doubles.proofs.mem_runs.insert_index.Given as goal

-- the index is the number of entries before the current entry plus the index among the remaining
-- entries
abbrev pub invariant-loop-entry : goal.invariant-loop-entry
invariant-loop-entry l = record {
  goes : insert_index l.position l.entries ≡ l.place + insert_index l.position (drop l.entry-index l.entries);
  counts : l.place ≡ l.entry-index;
}
