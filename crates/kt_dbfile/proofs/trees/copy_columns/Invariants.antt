use Rattle.kt_dbfile.proofs.Common.{column, map, take, ◌≡◌}
use Rattle.kt_dbfile.proofs.trees.copy_columns.Given as goal

abbrev pub invariant-loop-at : goal.invariant-loop-at
invariant-loop-at l = l.values ≡ map (column l.row) (take l.at-index l.columns)
