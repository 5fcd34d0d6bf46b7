use Rattle.kt_dbfile.proofs.Common.{OnlyReadsStore}
use Rattle.kt_dbfile.proofs.result_trees.ResultTrees.count_properties.Given as goal

abbrev pub invariant-loop-entry : goal.invariant-loop-entry
invariant-loop-entry g l = OnlyReadsStore g.S.Store l.fn.self.store l.self.store
