-- Re-exports of the names that this crate's clauses cite. Declares nothing.
pub use Rattle.kt_base.specs.Moments.{IsMoment, IsStorable}
pub use Rattle.sqlite_value.specs.Value.{owned}
pub use Rattle.sqlite_wal.specs.Files.{image_at}
pub use Rattle.kt_store.specs.Ask.{IsDatabaseFault}
pub use Rattle.kt_store.specs.Files.{OpensAndCloses, ClosesCleanly, FailsToClose, RepresentsImage, HasTrees, MustBeChecked, StaysNumbered}
pub use Rattle.kt_store.specs.Heads.{IsNumbered, head_of, outline_entry, outputs_of}
pub use Rattle.kt_store.specs.Inner.Ask.{AreWide}
pub use Rattle.kt_store.specs.Inner.Runs.{finished_run_row, IsValidWithEntry, HasNoReasonIfPassed, IsComplete, entries_of}
pub use Rattle.kt_store.specs.Inner.Heads.{AreNumberedFrom}
pub use Rattle.kt_store.specs.Runs.{AreNumbered, AreOrdered, AreValidRuns, IsEncodableProperty, IsEncodable, IsSchema2Of, IsSchema2OfOne, entry_row, finish_refusal, has_position, pair_row, pair_rows_from, put_refusal, run_at, run_row}
pub use Rattle.kt_store.specs.Seeks.{HasCommitted, HoldsRuns}
pub use Rattle.kt_store.specs.Serving.{Serves}
pub use Rattle.kt_store.specs.Stands.{StandsFor}
pub use Rattle.kt_store.specs.StoreCalls.{Began, Finished, Head, Outline, Outputs, Pairs, Put, map_success}
pub use Rattle.kt_store.specs.Tables.{schema_2}
pub use Rattle.kt_store.specs.Types.{AllByRecursion, Blob, Entry, HasCleanDisk, Int, IsAscending, Run, column, greatest_run_number, state}
pub use Rattle.kt_dbfile.specs.FailedOpen.{Contains, FailsToOpen, HoldsAsBefore, HoldsInSchema1, KeepsRunsOfFiles, LeavesRuns, LeavesUnconnected}
pub use Rattle.kt_dbfile.specs.Inner.Cursors.{CountsUnderKey, FindsFirstUnderKey, is_possible_last_key, key_before, is_blob, CursorReturns, KeepsLastCommit, IsLast, OnlyReadsStore, SelectsUnderKey, ReadsUnbrokenStore, selected_columns}
pub use Rattle.kt_dbfile.specs.Inner.Edits.{EndsTransaction, ObeysSchema, PutsRows, WritesRows, row_without_rowid}
pub use Rattle.kt_dbfile.specs.Inner.NewFiles.{IsUri}
pub use Rattle.kt_dbfile.specs.Inner.Opening.{IsOnlyRead, CachesPages, IsAttached, IsAttachedFiles, IsConvertedFrom, FailsToAttach, FailsToAttachFiles, LeavesAsBefore, ListsRuns, RecoversAsBefore, HasOtherSchema}
pub use Rattle.kt_dbfile.specs.Inner.Known.{AreNamed, HoldsForTrees}
