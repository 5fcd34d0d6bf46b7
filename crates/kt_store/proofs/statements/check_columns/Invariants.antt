use Rattle.kt_store.proofs.Common.{AreWide, length}
use Rattle.kt_store.proofs.statements.check_columns.Given as goal

abbrev pub invariant-loop-row : goal.invariant-loop-row
invariant-loop-row l = AreWide l.width l.rest → AreWide l.width l.rows

abbrev pub decreases-loop-row : goal.decreases-loop-row
decreases-loop-row l = length l.rest
