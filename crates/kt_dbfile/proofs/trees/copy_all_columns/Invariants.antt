use Rattle.kt_dbfile.proofs.Common.{selected_columns, map, take, ◌≡◌}
use Rattle.kt_dbfile.proofs.trees.copy_all_columns.Given as goal

abbrev pub invariant-loop-row : goal.invariant-loop-row
invariant-loop-row g l = l.found.items ≡ map (λ row. g.T.FromRow.from_row_gives (selected_columns l.columns row)) (take l.row-index l.rows)
