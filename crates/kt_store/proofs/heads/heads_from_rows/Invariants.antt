use Rattle.kt_store.proofs.Common.{List, Run, head_columns, head_of, map, take, ◌≡◌}
use Rattle.kt_store.specs.Inner.Heads.{AreNumberedFrom}
use Rattle.kt_store.proofs.heads.heads_from_rows.Given as goal

abbrev pub invariant-loop-row : goal.invariant-loop-row
invariant-loop-row l = ((runs : List Run) → l.rows ≡ map head_columns runs → l.heads.items ≡ map head_of (take l.row-index runs)) × AreNumberedFrom 1 l.heads.items
