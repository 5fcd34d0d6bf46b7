use Rattle.kt_dbfile.proofs.Common.{AreWide, IsClean, IsSome, List, OnlyReadsStore, IndexesRows, Row, false, left_of, length, ℕ, ◌≡◌}
use Rattle.sqlite_trees.specs.declared.store.Shape.TheVariants.{Table}
use Rattle.sqlite_exec.specs.Calls.{OnlyReads}
use Rattle.kt_dbfile.proofs.PlaceLemmas.{Halfway}
use Rattle.kt_dbfile.proofs.result_trees.ResultTrees.read_rows_by_key.Given as goal

abbrev pub invariant-places : goal.invariant-places
invariant-places g l =
    let old = g.S.Store.view l.fn.self.store in
    let now = g.S.Store.view l.self.store in
    IsSome (now.cursors 0) × (IsClean now → OnlyReads old now) × OnlyReadsStore g.S.Store l.fn.self.store l.self.store
    × (IsClean now → (cs : List ℕ) (mine : List Row) (p : IndexesRows cs l.key mine (old.trees l.table.tree) (old.trees l.table.index)) → Halfway l.columns cs l.key mine (old.trees l.table.tree) (old.trees l.table.index) p (left_of now 0) l.rows.items)
    × AreWide (length l.columns) l.rows.items × (IsClean now → old.is_broken ≡ false)
    × (now.shape l.table.tree ≡ Table)
