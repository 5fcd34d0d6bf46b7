-- Re-exports of the names that this crate's clauses cite. Declares nothing.
pub use Rattle.kt_base.specs.Moments.{IsMoment, IsStorable}
pub use Rattle.sqlite.specs.Given.{IsPlain}
pub use Rattle.sqlite.specs.Values.{bound}
pub use Rattle.sqlite_value.specs.Value.{owned}
pub use Rattle.kt_store.specs.Ask.{IsNoMemory, IsDatabaseFault, IsUnchangedOrRolledBack}
pub use Rattle.kt_store.specs.Attaching.{Blank, Describes, Schema1, AttachFails, AttachSucceeds}
pub use Rattle.kt_store.specs.Heads.{IsNumbered, entry_at, head_at, head_of, no_output, outline_entry, pairs_of}
pub use Rattle.kt_store.specs.Inner.Ask.{AreWide, RunsQuery, HasColumns, QueryMayCommit, StatementMayCommit, QueriesRuns, RunsStatement}
pub use Rattle.kt_store.specs.Inner.Fault.{IsOutOfMemory, IsAllocationFailure, MatchesSqlError, MatchesRecoverError, MatchesTreeError, MatchesWriteError}
pub use Rattle.kt_store.specs.Inner.Heads.{AreNumberedFrom, entry_columns, head_columns, pair_columns, full_entry_columns}
pub use Rattle.kt_store.specs.Inner.Kept.{ReadsSchemaNumber, Changes, CommitsNothing, ChecksTables, IsNotBlank, KeepsRuns, KeepsDatabase, OnlyReadsRuns, MayChange, WasCleanIfClean}
pub use Rattle.kt_store.specs.Inner.Runs.{IsValidWithEntry, HasNoReasonIfPassed, IsComplete, entries_of}
pub use Rattle.kt_store.specs.Inner.Transactions.{Commits, CommitsNothingYet, IsSchema2Statement, MayCommit, ExecutesAll, ExecutesOne, Statement, RollsBack, entry_statements, pair_statement, pair_statements, plain_statements}
pub use Rattle.kt_store.specs.Runs.{AreValidRuns, IsValidEntry, IsEncodableProperty, IsEncodable, IsSchema2Of, IsSchema2OfOne, finish, finish_fault, finish_refusal, flag, has_position, kind_code, new_run, put_fault, put_refusal, run_at, with_entry}
pub use Rattle.kt_store.specs.Serving.{Reads, Serves, results_spec}
pub use Rattle.kt_store.specs.Stands.{IsPreparable, Leaves, HoldsForRuns, StoresSchemaNumber, StandsFor}
pub use Rattle.kt_store.specs.StoreCalls.{Began, Finished, Head, Outline, Outputs, Pairs, Put, map_success}
pub use Rattle.kt_store.specs.Tables.{select_entries_sql, select_props_sql, select_runs_sql, schema_2}
pub use Rattle.kt_store.specs.Types.{AllByRecursion, Blob, Entry, HasCleanDisk, Held, Int, IsLive, IsUnchanged, Run, Survives, column, find, greatest_run_number, state, understood, utf8}
