use Rattle.kt_dbfile.proofs.Common.{IsClean, IsSome, OnlyReadsStore, OnlyMovesCursors, left_of}
use Rattle.kt_dbfile.proofs.PlaceLemmas.{Passed}
use Rattle.kt_dbfile.proofs.result_trees.ResultTrees.count_rows_by_key.Given as goal

abbrev pub invariant-places : goal.invariant-places
invariant-places g l =
    let old = g.S.Store.view l.fn.self.store in
    let now = g.S.Store.view l.self.store in
    IsSome (now.cursors 0) × OnlyReadsStore g.S.Store l.fn.self.store l.self.store × (IsClean now → OnlyMovesCursors old now) × (IsClean now → Passed l.key (old.trees l.table.index) (left_of now 0) l.count)
