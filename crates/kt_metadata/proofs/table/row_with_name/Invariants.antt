use Rattle.std.proofs.Common.{◌≡◌, drop, map}
use Rattle.kt_metadata.proofs.Common.{find, row_in, has_name}
use Rattle.kt_metadata.proofs.table.row_with_name.Given as goal

abbrev pub invariant-loop-row : goal.invariant-loop-row
invariant-loop-row l = find (has_name l.name) (map row_in (drop l.row-index l.rows)) ≡ find (has_name l.name) (map row_in l.rows)
