use Rattle.kt_dbfile.proofs.Common.{map, take, ◌≡◌}
use Rattle.sqlite_value.specs.Value.{owned}
use Rattle.kt_dbfile.proofs.edits.create_row.Given as goal

abbrev pub invariant-loop-value : goal.invariant-loop-value
invariant-loop-value l = l.row ≡ map owned (take l.value-index l.values)
