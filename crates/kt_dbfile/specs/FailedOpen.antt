-- The contents that a failed open leaves in the results file and its log.
use Rattle.std.specs.Prelude.{◌⊎◌, false, List}
use Rattle.sqlite_disk.specs.declared.Disk.{Ghosts}
use Rattle.sqlite_disk.specs.declared.Files.{Files}
use Rattle.sqlite_wal.specs.Files.{outcomes}
use Rattle.sqlite_wal.specs.Reads.{AreClean}
use Rattle.sqlite.specs.Closing.{files_left}
use Rattle.sqlite.specs.Files.{image_of, IsCleanLeft, LeavesFiles}
use Rattle.sqlite.specs.declared.file.Leftover.{Leftover}
use Rattle.kt_store.specs.Ask.{IsDatabaseFault}
use Rattle.kt_store.specs.Files.{HasTrees, IsReadAs, MustBeChecked}
use Rattle.kt_store.specs.Runs.{IsAnySchemaOf, IsSchema1Of, IsSchema2Of}
use Rattle.kt_store.specs.Seeks.{HoldsRuns}
use Rattle.kt_store.specs.TrustedContents.{ListsTables}
use Rattle.kt_store.specs.Types.{HoldsDatabase, Image, Run, Trees}
use Rattle.kt_store.specs.declared.store_fault.StoreFault.{StoreFault}

-- `HoldsInSchema1 image runs`: the results file and its log, with the content `image`, contain a
-- database of schema 1 with `runs`. They don't list the tables of schema 2.
abbrev pub HoldsInSchema1 : Image → List Run → Type 0
HoldsInSchema1 image runs = (db : Trees) × ∥ HoldsDatabase image db ∥₁ × IsSchema1Of runs db × (¬ ListsTables image)

-- `HoldsAsBefore before after`: `before` and `after` are contents of the results file and its log,
-- earlier and later. Each database in `before` is also in `after`.
abbrev pub HoldsAsBefore : Image → Image → Type 0
HoldsAsBefore before after = (db : Trees) → HoldsDatabase before db → HoldsDatabase after db

-- `Contains image P`: the results file and its log, with the content `image`, contain a database,
-- and `P` holds for its B-trees.
abbrev pub Contains : Image → (Trees → Type 0) → Type 0
Contains image P = ∥ ((db : Trees) × HoldsDatabase image db × P db) ∥₁

-- `KeepsRunsOfFiles before after`: `before` and `after` are contents of the results file and its
-- log, earlier and later. The runs in `before` are also in `after`. If `before` has schema 1,
-- `after` has schema 1 or 2. If `before` has schema 2 and doesn't meet `MustBeChecked`, the trees
-- in `after` may be unnumbered.
pub record KeepsRunsOfFiles (before after : Image) : Type 0 where
  pub current : (runs : List Run) → HoldsRuns before runs → ∥ ((trees : Trees) × (HoldsDatabase after trees ⊎ HasTrees false trees after) × IsSchema2Of runs trees) ∥₁
  pub checked : (runs : List Run) → HoldsRuns before runs → MustBeChecked before → Contains after (IsSchema2Of runs)
  pub older : (runs : List Run) → HoldsInSchema1 before runs → Contains after (IsAnySchemaOf runs)

module _ {D : Type 0} {g : Ghosts D} (was : Image → Type 0) (before : Image) (left : Leftover D g) where
  -- `LeavesRuns was before left fault`: an open of the results file and its log failed with
  -- `fault`. Their content was `before`, and `left` are the files after the failure. Before the
  -- open, a crash could leave the contents for which `was` holds. After the failure, a crash leaves
  -- such a content, or a content with the runs in `before`. If `before` has runs, `fault` reports
  -- that memory ran out or that the database failed. Nothing is stated if the disk has returned
  -- wrong data.
  pub record LeavesRuns (fault : StoreFault) : Type 0 where
    pub kept : AreClean g (files_left left).0 (files_left left).1 → (after : Image) → outcomes g (files_left left).0 (files_left left).1 after → was after ⊎ KeepsRunsOfFiles before after
    pub known : AreClean g (files_left left).0 (files_left left).1 → (runs : List Run) → HoldsRuns before runs ⊎ HoldsInSchema1 before runs → IsDatabaseFault fault

  -- `LeavesUnconnected was before left`: an open read the schema list of the results file and its
  -- log. Their content was `before`, and `seen` are the files after the read. The SQLite library
  -- then failed to open `seen`, and `left` are the files after this failure. A crash of `seen`
  -- leaves a content for which `was` holds, or a content with the databases in `before`. Nothing is
  -- stated of `seen` if the disk has returned wrong data up to `seen`. The library doesn't exclude
  -- such data, even if the disk has returned none up to `left`.
  pub record LeavesUnconnected : Type 0 where
    pub seen : Files D
    pub read : AreClean g seen.log seen.db → IsReadAs before (image_of g seen)
    pub crash : AreClean g seen.log seen.db → (after : Image) → outcomes g seen.log seen.db after → was after ⊎ HoldsAsBefore before after
    pub left_of : IsCleanLeft left → LeavesFiles seen left

  -- `FailsToOpen was before left fault`: an open of the results file and its log failed with
  -- `fault`. Their content was `before`, and `left` are the files after the failure. Either they
  -- still have their runs (`LeavesRuns`), or the SQLite library failed to open them
  -- (`LeavesUnconnected`). In the second case, `fault` reports that memory ran out or that the
  -- database failed. Before the open, a crash could leave the contents for which `was` holds.
  abbrev pub FailsToOpen : StoreFault → Type 0
  FailsToOpen fault = LeavesRuns fault ⊎ (LeavesUnconnected × IsDatabaseFault fault)
