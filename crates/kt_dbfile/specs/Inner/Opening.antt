-- The steps of an open, from the results file and its log to a store with their runs.
use Rattle.std.specs.Prelude.{◌≡◌, ◌≢◌, ◌⊎◌, true, false, ℕ, ℤ, pos, List, IsTrue}
use Rattle.sqlite_disk.specs.declared.Disk.{Ghosts}
use Rattle.sqlite_disk.specs.declared.Files.{Files}
use Rattle.sqlite_pager.specs.declared.pager.Options.{Options}
use Rattle.sqlite_wal.specs.Files.{outcomes}
use Rattle.sqlite_wal.specs.Reads.{AreClean}
use Rattle.sqlite.specs.Files.{image_of, over_files}
use Rattle.sqlite.specs.Held.{AreDatabases}
use Rattle.sqlite_store.specs.declared.store.open.Unopened.{Unopened}
use Rattle.sqlite_store.specs.Listing.{file_trees, IsOurs}
use Rattle.sqlite_store.specs.Unopened.{state_of, wanted_by, image}
use Rattle.sqlite.specs.Opening.{HoldsAt}
use Rattle.kt_store.specs.Runs.{IsSchema2Of, HasSchemaNumber}
use Rattle.kt_dbfile.specs.FailedOpen.{HoldsAsBefore}
use Rattle.kt_store.specs.Ask.{IsDatabaseFault}
use Rattle.kt_store.specs.Attaching.{InitialDatabase, Describes, AttachFails, AttachSucceeds}
use Rattle.kt_store.specs.Files.{IsConvertedStore, IsReadAs}
use Rattle.kt_store.specs.Seeks.{HasCommitted, HoldsRuns}
use Rattle.kt_store.specs.Stands.{StandsFor}
use Rattle.kt_store.specs.TrustedContents.{ListsObjects}
use Rattle.kt_store.specs.Types.{FileStore, Ghosts as StoreGhosts, HasCleanDisk, Held, Image, IsClean, PageMap, Recovers, Run, Trees, file_state, recovers, state, view}
use Rattle.kt_store.specs.declared.store_fault.StoreFault.{StoreFault}

module _ {D : Type 0} {g : Ghosts D} (image : Image) (store : FileStore D g) where
  -- `OpensOver image store`: `store` was opened over the results file and its log, whose content
  -- was `image`. If `image` has runs, `store` shows these runs unless a failed call has broken it,
  -- and a crash leaves these runs.
  pub record OpensOver : Type 0 where
    pub holds : (runs : List Run) → HoldsRuns image runs → (view store).is_broken ≡ false → IsSchema2Of runs (view store).trees
    pub leaves : (runs : List Run) → HoldsRuns image runs → (trees : Trees) → recovers store trees → IsSchema2Of runs trees

-- `HasOtherSchema trees`: the table `meta` in `trees` has one row, whose schema number isn't 2.
abbrev pub HasOtherSchema : Trees → Type 0
HasOtherSchema trees = (n : ℤ) × (n ≢ pos 2) × HasSchemaNumber n trees

-- `CachesPages pages options`: `options` limit the pages that a store keeps in memory. It keeps at
-- most `pages` pages that it has read, and at most 2,000 pages that it has written.
pub record CachesPages (pages : ℕ) (options : Options) : Type 0 where
  pub read : options.cache_pages ≡ pages
  pub written : options.spill_pages ≡ 2000

-- `LeavesAsBefore g old left`: `left` are the log and the database file after the files `old` were
-- read. A crash then leaves a content that it could leave before the read, or one with each
-- database of `old`. Nothing is stated if the disk has returned wrong data. `g` is the
-- specification of the disk.
abbrev pub LeavesAsBefore : {D : Type 0} → Ghosts D → Files D → D × D → Type 0
LeavesAsBefore g old left = AreClean g left.0 left.1 → (after : Image) → outcomes g left.0 left.1 after → outcomes g old.log old.db after ⊎ HoldsAsBefore (image_of g old) after

module _ {D : Type 0} (g : Ghosts D) (old left : Files D) where
  -- `IsOnlyRead g old left`: `old` and `left` are the results file and its log before and after an
  -- open that only read them. Both files stay usable. Reads of `left` return the content of `old`,
  -- or one that recovers to the same pages. A crash then leaves what `LeavesAsBefore` allows. `g`
  -- is the specification of the disk.
  pub record IsOnlyRead : Type 0 where
    pub log : IsTrue (g.is_usable left.log)
    pub db : IsTrue (g.is_usable left.db)
    pub read : AreClean g left.log left.db → AreClean g old.log old.db × IsReadAs (image_of g old) (image_of g left)
    pub crash : LeavesAsBefore g old (left.log, left.db)

module _ {D : Type 0} {g : Ghosts D} (old new : Unopened D g) where
  -- `RecoversAsBefore old new`: `old` and `new` are an unopened store before and after a call. The
  -- files of both recover to the same pages. The disk had returned no wrong data up to `old`.
  pub record RecoversAsBefore : Type 0 where
    pub honest : IsTrue (state_of old).is_clean
    pub pages : PageMap
    pub found : Recovers (state_of old).page_size (image old) pages
    pub again : Recovers (state_of old).page_size (image new) pages

  -- `ListsRuns old new`: `old` and `new` are an unopened store before and after a call that read
  -- the schema list of its files. The files of both recover to the same pages, and these list the
  -- tables of schema 2. If the files of `old` contain a database with runs, `new` has the schema of
  -- this database, and reads the pages as its trees. The disk had returned no wrong data up to
  -- `old`.
  pub record ListsRuns : Type 0 where
    pub honest : IsTrue (state_of old).is_clean
    pub size : (state_of new).page_size ≡ (state_of old).page_size
    pub pages : PageMap
    pub found : Recovers (state_of old).page_size (image old) pages
    pub lists : ListsObjects (state_of old).page_size pages
    pub again : Recovers (state_of old).page_size (image new) pages
    pub fits : (runs : List Run) (db : Trees) → HoldsAt (state_of old).page_size (image old) db → IsSchema2Of runs db
        → IsOurs (state_of old).page_size true (wanted_by new) pages × (db ≡ file_trees (state_of old).page_size (wanted_by new) pages)

-- `IsAttached g conn it`: `Results::attach` succeeded on the connection `conn` and led to a
-- connection `results`. The last commit of the store `it` has the runs of `results`, and a crash of
-- `it` leaves only trees that a crash of `results` may leave. If the disk has returned no wrong
-- data up to `it`, it had returned none up to `results`, and the trees of `it` are numbered. `g` is
-- the specification of the store.
abbrev pub IsAttached : {S : Type 0} → StoreGhosts S → Held S → S → Type 0
IsAttached g conn it = (results : Held _) × ((was : InitialDatabase) → Describes was (state g conn) → AttachSucceeds was (state g conn) (state g results))
    × ((runs : List Run) → StandsFor (state g results) runs → HasCommitted (g.view it) runs)
    × (IsClean (g.view it) → HasCleanDisk (state g results)) × ((trees : Trees) → g.recovers it trees → (state g results).may_leave trees)
    × (IsClean (g.view it) → IsTrue (g.view it).is_numbered)

-- `IsAttachedFiles conn it`: `Results::attach` succeeded on the connection `conn` to files. The
-- connection after this call was converted to the store `it`, as `IsConvertedStore` states.
abbrev pub IsAttachedFiles : {D : Type 0} {g : Ghosts D} → Held (FileStore D g) → FileStore D g → Type 0
IsAttachedFiles conn it = (results : Held _) × ((was : InitialDatabase) → Describes was (file_state conn) → AttachSucceeds was (file_state conn) (file_state results)) × IsConvertedStore results it

-- `IsConvertedFrom g held it`: `it` is the store to which the connection `held` was converted. A
-- crash of `it` leaves only trees that a crash of `held` may leave. If the disk has returned no
-- wrong data up to `it`, it had returned none up to `held`. Each crash then leaves a database that
-- obeys its schema, and the trees of `it` are numbered. `g` is the specification of the store.
pub record IsConvertedFrom {S : Type 0} (g : StoreGhosts S) (held : Held S) (it : S) : Type 0 where
  pub earlier : IsClean (g.view it) → HasCleanDisk (state g held)
  pub crash : (trees : Trees) → g.recovers it trees → (state g held).may_leave trees
  pub numbered : IsClean (g.view it) → IsTrue (g.view it).is_numbered
  pub sound : IsClean (g.view it) → AreDatabases (g.recovers it)

-- `FailsToAttach g conn fault it`: `Results::attach` failed on the connection `conn`, or it
-- succeeded, but its connection was not converted to a `RunsFile`. The error was `fault`. In the
-- second case, `fault` reports that memory ran out or that the database failed. `it` is the store
-- to which the connection was converted instead (`IsConvertedFrom`). `g` is the specification of
-- the store.
abbrev pub FailsToAttach : {S : Type 0} → StoreGhosts S → Held S → StoreFault → S → Type 0
FailsToAttach g conn fault it = (held : Held _) × IsConvertedFrom g held it
    × (((was : InitialDatabase) → Describes was (state g conn) → AttachFails was (state g conn) (state g held) fault)
    ⊎ (((was : InitialDatabase) → Describes was (state g conn) → AttachSucceeds was (state g conn) (state g held)) × IsDatabaseFault fault))

-- `FailsToAttachFiles conn fault it`: `FailsToAttach` holds for the connection `conn` to files, the
-- error `fault` and the store `it`.
abbrev pub FailsToAttachFiles : {D : Type 0} {g : Ghosts D} → Held (FileStore D g) → StoreFault → FileStore D g → Type 0
FailsToAttachFiles conn fault it = FailsToAttach over_files conn fault it
