-- The runs of a results file that is read by seeks in its B-trees.
use Rattle.std.specs.Prelude.{List, IsTrue}
use Rattle.sqlite_disk.specs.declared.Disk as disk
use Rattle.kt_store.specs.Runs.{AreNumbered, AreOrdered, IsSchema2Of}
use Rattle.kt_store.specs.Types.{FileStore, HoldsDatabase, Image, IsClean, Run, Trees, View, recovers, view}

-- `HasCommitted v runs`: if a store with the state `v` is open, its last commit is a database of
-- schema 2 with exactly `runs`
abbrev pub HasCommitted : View → List Run → Type 0
HasCommitted v runs = IsTrue v.is_open → IsSchema2Of runs v.committed

-- `HoldsRuns image runs`: the results file and its log, with the content `image`, contain a
-- database of schema 2 with exactly `runs`
abbrev pub HoldsRuns : Image → List Run → Type 0
HoldsRuns image runs = (db : Trees) × ∥ HoldsDatabase image db ∥₁ × IsSchema2Of runs db

module _ {D : Type 0} {g : disk.Ghosts D} where
  -- `OpensRuns image store`: `store` was opened over files with the content `image`. If the files
  -- contain runs, `store` represents these runs, and they are numbered from 1. Unless the disk has
  -- returned wrong data, the entries of each run ascend by position, and a crash leaves these runs.
  pub record OpensRuns (image : Image) (store : FileStore D g) : Type 0 where
    pub stands : (runs : List Run) → HoldsRuns image runs → HasCommitted (view store) runs × AreNumbered 1 runs × (IsClean (view store) → AreOrdered runs)
    pub leaves : (runs : List Run) → HoldsRuns image runs → IsClean (view store) → (trees : Trees) → recovers store trees → IsSchema2Of runs trees
