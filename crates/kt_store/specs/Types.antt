-- Re-exports of the types and names that this crate's definitions use. Declares nothing.
pub use Rattle.std.specs.List.{AllByRecursion, find, list_any}
pub use Rattle.kt_base.specs.Limits.{greatest_run_number}
pub use Rattle.kt_base.specs.Utf8.{utf8}
pub use Rattle.kt_base.specs.declared.entry.Entry.{Entry}
pub use Rattle.kt_base.specs.declared.entry.Run.{Run}
pub use Rattle.kt_base.specs.declared.variable.Variable.{Variable}
pub use Rattle.kt_base.specs.declared.verdict.Kind.TheVariants.{Passed, Skipped, ExpectedFailure, Failed, Broken}
pub use Rattle.sqlite.specs.Effect.{Database, IsDatabase}
pub use Rattle.sqlite.specs.Files.{HoldsDatabase, file_state, IsOpened}
pub use Rattle.sqlite.specs.Held.{Held, state}
pub use Rattle.sqlite.specs.Listing.{understood}
pub use Rattle.sqlite.specs.State.{CommitsBy, CommitsShowing, Executes, ExecutesInside, HasCleanDisk, IsLive, IsRolledBack, IsUnchanged, KeepsCommit, Shown, Shows, State, Survives}
pub use Rattle.sqlite.specs.Store.{Ghosts}
pub use Rattle.sqlite_pages.specs.PageMap.{PageMap}
pub use Rattle.sqlite_pool.specs.Stored.{Recovers, stored_size}
pub use Rattle.sqlite_store.specs.FileStore.{recovers, view}
pub use Rattle.sqlite_store.specs.declared.store.FileStore.{FileStore}
pub use Rattle.sqlite_trees.specs.Tree.{Trees, IsAscending, IsIndex, rowid, has_rowid, from_key}
pub use Rattle.sqlite_trees.specs.View.{IsClean, IsQuiet, IsShaped, KeepsSchema, View}
pub use Rattle.sqlite_value.specs.Order.{Row, column}
pub use Rattle.sqlite_value.specs.declared.value.Value.TheVariants.{Null, Int, Text, Blob}
pub use Rattle.sqlite_wal.specs.Recovery.{Image}
pub use Rattle.kt_store.specs.declared.result_store.CaseOutputs.{CaseOutputs}
pub use Rattle.kt_store.specs.declared.result_store.RunHead.{RunHead}
pub use Rattle.kt_store.specs.declared.store_fault.StoreFault.{StoreFault}
pub use Rattle.kt_store.specs.declared.store_fault.StoreFault.TheVariants.{NoMemory, Store, NoRun, RunClosed, BadPosition, RepeatedPosition, Incomplete, StoreFull}
