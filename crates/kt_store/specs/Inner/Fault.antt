-- The conditions for the error with which a database operation fails.
use Rattle.std.specs.Prelude.{◌≡◌, ◌≢◌, ◌⊎◌, ⊤}
use Rattle.std.specs.IoError.{error_kind}
use Rattle.std.specs.declared.io.ErrorKind.TheVariants as kind
use Rattle.sqlite_std_file.specs.declared.pair.OpenError.{OpenError}
use Rattle.sqlite_std_file.specs.declared.pair.OpenError.TheVariants as opening
use Rattle.sqlite_store.specs.declared.error.OpenError.{OpenError as RecoverError}
use Rattle.sqlite_store.specs.declared.error.OpenError.TheVariants as recovery
use Rattle.sqlite.specs.declared.error.ErrorCode.TheVariants as code
use Rattle.sqlite.specs.declared.error.Error.{Error}
use Rattle.sqlite.specs.declared.error.Error.TheVariants.{SqliteFailure}
use Rattle.sqlite_rules.specs.declared.error.WriteError.{WriteError}
use Rattle.sqlite_rules.specs.declared.error.WriteError.TheVariants as write
use Rattle.sqlite_trees.specs.declared.error.StoreError.{StoreError}
use Rattle.sqlite_trees.specs.declared.error.StoreError.TheVariants.{OutOfMemory}
use Rattle.kt_store.specs.declared.store_fault.DatabaseError.{DatabaseError}
use Rattle.kt_store.specs.declared.store_fault.DatabaseError.TheVariants.{NoMemory, Failed}

-- `IsAllocationFailure failure`: `failure` reports that memory ran out
abbrev pub IsAllocationFailure : DatabaseError → Type 0
IsAllocationFailure (NoMemory shortage) = ⊤
IsAllocationFailure (Failed statement) = ⊥

-- `IsDatabaseFailure failure`: `failure` reports that the database failed
abbrev pub IsDatabaseFailure : DatabaseError → Type 0
IsDatabaseFailure (NoMemory shortage) = ⊥
IsDatabaseFailure (Failed statement) = ⊤

-- `MatchesSqlError error trouble`: `trouble` reports that memory ran out if and only if the SQLite
-- error `error` does
abbrev pub MatchesSqlError : Error → DatabaseError → Type 0
MatchesSqlError error trouble = (IsAllocationFailure trouble × (error ≡ SqliteFailure code.OutOfMemory)) ⊎ (IsDatabaseFailure trouble × (error ≢ SqliteFailure code.OutOfMemory))

-- `MatchesTreeError error trouble`: `trouble` reports that memory ran out if and only if the B-tree
-- error `error` does
abbrev pub MatchesTreeError : StoreError → DatabaseError → Type 0
MatchesTreeError error trouble = (IsAllocationFailure trouble × (error ≡ OutOfMemory)) ⊎ (IsDatabaseFailure trouble × (error ≢ OutOfMemory))

-- `IsOutOfMemory error`: `error`, the error of opening the results file, reports that memory ran
-- out
abbrev pub IsOutOfMemory : OpenError → Type 0
IsOutOfMemory opening.OutOfMemory = ⊤
IsOutOfMemory (opening.Io error) = error_kind error ≡ kind.OutOfMemory
IsOutOfMemory opening.Busy = ⊥
IsOutOfMemory opening.HotJournal = ⊥

-- `MatchesRecoverError error trouble`: `trouble` reports that memory ran out if and only if
-- `error`, an error of opening the database files, does
abbrev pub MatchesRecoverError : RecoverError → DatabaseError → Type 0
MatchesRecoverError error trouble = (IsAllocationFailure trouble × (error ≡ recovery.OutOfMemory)) ⊎ (IsDatabaseFailure trouble × (error ≢ recovery.OutOfMemory))

-- `MatchesWriteError error trouble`: `trouble` reports that memory ran out only if `error`, an
-- error of writing rows, is the error of a B-tree that ran out of memory
abbrev pub MatchesWriteError : WriteError → DatabaseError → Type 0
MatchesWriteError error trouble = IsAllocationFailure trouble → error ≡ write.Failed OutOfMemory
