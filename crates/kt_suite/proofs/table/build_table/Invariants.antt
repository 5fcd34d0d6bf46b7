use Rattle.std.proofs.Common.{drop}
use Rattle.kt_suite.proofs.TableLoops.{TableSoFar}
use Rattle.kt_suite.proofs.table.build_table.Given as goal

abbrev pub invariant-loop-pair : goal.invariant-loop-pair
invariant-loop-pair l = TableSoFar l.found (drop l.pair-index l.pairs) l.pairs
