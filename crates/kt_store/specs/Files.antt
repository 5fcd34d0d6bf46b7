-- The opening and the closing of a results file. A view is the state of a store as contracts see
-- it.
use Rattle.std.specs.Prelude.{◌≡◌, ◌≢◌, ◌⊎◌, ◌≤◌, ◌%◌, pos, length, List, IsTrue, ℕ, Bool, []}
use Rattle.sqlite_disk.specs.declared.Disk as disk
use Rattle.sqlite_disk.specs.declared.Files.{Files}
use Rattle.sqlite_wal.specs.Files.{outcomes}
use Rattle.sqlite_wal.specs.Reads.{AreClean}
use Rattle.sqlite_store.specs.FileStore.{files as files_in, faults, is_shielded}
use Rattle.sqlite.specs.Start.{FindsIn}
use Rattle.kt_store.specs.Attaching.{InitialDatabase, Describes, AttachSucceeds}
use Rattle.kt_store.specs.Runs.{HasSchemaNumber}
use Rattle.kt_store.specs.Seeks.{HasCommitted, OpensRuns}
use Rattle.kt_store.specs.Stands.{StandsFor}
use Rattle.kt_store.specs.TrustedContents.{ListsTables}
use Rattle.kt_base.specs.Chains.{Chain}
use Rattle.kt_store.specs.StoreCalls.{StoreCall}
use Rattle.sqlite_store.specs.Listing.{file_trees, IsOurs}
use Rattle.sqlite_store.specs.declared.catalog.Wanted.{Wanted}
use Rattle.sqlite_wal.specs.PageSize.{IsPageSize}
use Rattle.kt_store.specs.Types.{FileStore, HasCleanDisk, Held, HoldsDatabase, Image, IsClean, IsOpened, IsQuiet, PageMap, Recovers, Run, Trees, View, file_state, recovers, stored_size, view}

-- `HasTrees is_numbered trees image`: the results file and its log, with the content `image`,
-- recover to a sound database with the B-trees `trees`. If `is_numbered` is `true`, tree `t` is the
-- object with the rowid `t` + 1 in SQLite's schema list: the trees are numbered.
pub record HasTrees (is_numbered : Bool) (trees : Trees) (image : Image) : Type 0 where
  pub size : ℕ
  pub pages : PageMap
  pub wanted : List Wanted
  pub allowed : ∥ IsPageSize (stored_size size) ∥₁
  pub found : Recovers size image pages
  pub file : ∥ IsOurs size is_numbered wanted pages ∥₁
  pub reads : trees ≡ file_trees size wanted pages

-- `StaysNumbered old new`: `old` and `new` are the states of a store before and after a call, as
-- contracts see them. If `new` is open, `old` is open, and the B-trees are numbered (`HasTrees`) in
-- both or in neither. Nothing is stated if the disk has returned wrong data.
abbrev pub StaysNumbered : View → View → Type 0
StaysNumbered old new = IsClean new → IsTrue new.is_open → IsTrue old.is_open × (new.is_numbered ≡ old.is_numbered)

-- `largest_checked_size`: the size of the largest database file whose pages and trees are all
-- checked during an open, in bytes
abbrev pub largest_checked_size : ℕ
largest_checked_size = 16777216

-- `shortest_log`: the size below which a log can't have a frame and is ignored, in bytes
abbrev pub shortest_log : ℕ
shortest_log = 56

-- `MustBeChecked image`: the database file of `image` has at most `largest_checked_size` bytes, or
-- its log has at least `shortest_log` bytes. An open of such files checks all pages and trees.
abbrev pub MustBeChecked : Image → Type 0
MustBeChecked image = (length image.db ≤ largest_checked_size) ⊎ (shortest_log ≤ length image.log)

-- `IsReadAs old new`: `old` and `new` may be the contents of the results file and its log before
-- and after they are read. The contents are equal, or both recover to the same pages of the same
-- size. In the second case, the pages don't end in checksums, and any database in `old` has pages
-- of this size.
pub data IsReadAs (old : Image) : Image → Type 0 where
  unchanged : IsReadAs old old
  recovered : (new : Image) (size : ℕ) (pages : PageMap) → size % 16 ≢ 8 → Recovers size old pages → Recovers size new pages
      → ((db : Trees) (held : HoldsDatabase old db) → held.0 ≡ size) → IsReadAs old new

module _ {D : Type 0} {g : disk.Ghosts D} where
  -- `IsConnectionTo image conn`: the connection `conn` is open and shows the database of files with
  -- the content `image`. Reading the files may have changed their bytes as `IsReadAs` states.
  -- Nothing is stated if the disk has returned wrong data.
  abbrev pub IsConnectionTo : Image → Held (FileStore D g) → Type 0
  IsConnectionTo image conn = HasCleanDisk (file_state conn) → IsOpened conn × ((read : Image) × IsReadAs image read × FindsIn read (file_state conn))

  -- `AreResultsOf image results`: `Results::attach` succeeded on a connection that shows the
  -- database of files with the content `image`. `results` is the connection after this call.
  abbrev pub AreResultsOf : Image → Held (FileStore D g) → Type 0
  AreResultsOf image results = (conn : Held (FileStore D g)) × IsConnectionTo image conn × ((was : InitialDatabase) → Describes was (file_state conn) → AttachSucceeds was (file_state conn) (file_state results))

  -- `IsConvertedStore results store`: the connection `results` was converted to `store`. The last
  -- commit of `store` has the runs of `results`, and a crash of `store` leaves only what a crash of
  -- `results` leaves. If the disk has returned no wrong data up to `store`, it had returned none up
  -- to `results`. The B-trees of `store` are then numbered (`HasTrees`).
  pub record IsConvertedStore (results : Held (FileStore D g)) (store : FileStore D g) : Type 0 where
    pub stands : (runs : List Run) → StandsFor (file_state results) runs → HasCommitted (view store) runs
    pub earlier : IsClean (view store) → HasCleanDisk (file_state results)
    pub crash : (trees : Trees) → recovers store trees → (file_state results).may_leave trees
    pub numbered : IsClean (view store) → IsTrue (view store).is_numbered

  -- `ListsSchema2 image store`: `store` was opened over files with the content `image`. The files
  -- list the tables of schema 2, unless the disk has returned wrong data. If `store` is open, its
  -- last commit has the schema number 2.
  pub record ListsSchema2 (image : Image) (store : FileStore D g) : Type 0 where
    pub lists : IsClean (view store) → ListsTables image
    pub schema : IsTrue (view store).is_open → HasSchemaNumber (pos 2) (view store).committed

  -- `RepresentsImage image store`: `store` was opened over files with the content `image`, and
  -- represents their runs. Either the files list the tables of schema 2 (`ListsSchema2`), or their
  -- tables were created, checked or migrated by `Results::attach` (`IsConvertedStore`). If an open
  -- must check all trees, the trees of `store` are numbered (`HasTrees`), unless the disk has
  -- returned wrong data.
  pub record RepresentsImage (image : Image) (store : FileStore D g) : Type 0 where
    pub held : OpensRuns image store
    pub whose : ListsSchema2 image store ⊎ ((results : Held (FileStore D g)) × AreResultsOf image results × IsConvertedStore results store)
    pub numbered : IsClean (view store) → MustBeChecked image → IsTrue (view store).is_numbered

  -- `ClosesCleanly store`: the close of `store` succeeded. Unless the disk has returned wrong data,
  -- the database file then contains the last commit of `store`, with its log and without it. This
  -- also holds after a crash.
  pub record ClosesCleanly (store : FileStore D g) : Type 0 where
    pub last : FileStore D g
    pub quiet : IsQuiet view faults recovers is_shielded store last
    pub files : Files D
    pub own : files_in last ≡ (files.log, files.db)
    pub was_open : AreClean g files.log files.db → IsTrue (view store).is_open
    pub left : AreClean g files.log files.db → (image : Image) → outcomes g files.log files.db image → HasTrees (view store).is_numbered (view store).committed image
        × HasTrees (view store).is_numbered (view store).committed (record image { log = [] })

  -- `FailsToClose store last`: the close of `store` failed and left the store `last`. Unless the
  -- disk has returned wrong data, the log and the database file of `last` have B-trees that a crash
  -- of `store` may leave. A crash after the close leaves such B-trees, too.
  pub record FailsToClose (store last : FileStore D g) : Type 0 where
    pub quiet : IsQuiet view faults recovers is_shielded store last
    pub left : AreClean g (files_in last).0 (files_in last).1 → (image : Image) → outcomes g (files_in last).0 (files_in last).1 image
        → ∥ ((trees : Trees) × recovers store trees × HasTrees (view last).is_numbered trees image) ∥₁

  -- `OpensAndCloses before last runs after`: a process opened files with the content `before`, made
  -- calls, and closed its store `last`, whose last commit has `runs`. The files may then have the
  -- content `after`, also after a crash. The open checked all trees, or `before` doesn't list the
  -- tables of schema 2. The disk returned the data that was written.
  pub record OpensAndCloses (before : Image) (last : FileStore D g) (runs : List Run) (after : Image) : Type 0 where
    pub first : FileStore D g
    pub opened : RepresentsImage before first
    pub checked : ListsTables before → MustBeChecked before
    pub calls : List StoreCall
    pub called : Chain (λ old call new. StaysNumbered (view old) (view new)) first calls last
    pub has : HasCommitted (view last) runs
    pub ends : ClosesCleanly last
    pub honest : AreClean g ends.files.log ends.files.db
    pub outcome : outcomes g ends.files.log ends.files.db after
