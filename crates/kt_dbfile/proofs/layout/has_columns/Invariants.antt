use Rattle.kt_dbfile.proofs.Common.{◌≡◌}
use Rattle.kt_dbfile.proofs.layout.has_columns.Given as goal

abbrev pub invariant-loop-name : goal.invariant-loop-name
invariant-loop-name l = l.at ≡ l.name-index
