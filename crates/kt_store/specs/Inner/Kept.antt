-- The effects of a call on a connection: what it reads, keeps, changes and commits.
use Rattle.std.specs.Prelude.{ℤ, List, ⊤}
use Rattle.kt_store.specs.Ask.{IsUnchangedOrRolledBack}
use Rattle.kt_store.specs.Attaching.{InitialDatabase, Blank}
use Rattle.kt_store.specs.Runs.{IsSchema2Of}
use Rattle.kt_store.specs.Stands.{StandsFor, StoresSchemaNumber, HasTables, Leaves}
use Rattle.kt_store.specs.Types.{Ghosts, HasCleanDisk, Held, IsUnchanged, Run, Survives, state}

-- `IsNotBlank was`: `was` isn't `Blank`, so the database that `was` describes has a schema number
abbrev pub IsNotBlank : InitialDatabase → Type 0
IsNotBlank Blank = ⊥
IsNotBlank _ = ⊤

module _ {S : Type 0} (g : Ghosts S) (old new : Held S) where
  -- `WasCleanIfClean g old new`: `old` and `new` are a connection before and after a call. If the
  -- disk has returned no wrong data up to `new`, it had returned none up to `old`. `g` is the
  -- specification of connections.
  abbrev pub WasCleanIfClean : Type 0
  WasCleanIfClean = HasCleanDisk (state g new) → HasCleanDisk (state g old)

  -- `CommitsNothing g old new`: a call led from connection `old` to `new` without a commit. A crash
  -- after the call leaves only what a crash before the call leaves, unless the disk has returned
  -- wrong data. `g` is the specification of connections.
  abbrev pub CommitsNothing : Type 0
  CommitsNothing = Survives (state g old) (state g new) (λ _. ⊥)

  -- `KeepsRuns g old new`: if the tables of connection `old` represent runs, those of connection
  -- `new` represent the same runs. `g` is the specification of connections.
  abbrev pub KeepsRuns : Type 0
  KeepsRuns = (runs : List Run) → StandsFor (state g old) runs → StandsFor (state g new) runs

  -- `OnlyReads g old new`: if the tables of connection `old` represent runs, a crash after the call
  -- that led to `new` leaves only what it left before the call. `g` is the specification of
  -- connections.
  abbrev pub OnlyReads : Type 0
  OnlyReads = (runs : List Run) → StandsFor (state g old) runs → CommitsNothing

  -- `OnlyReadsRuns g old new`: a call from connection `old` to `new` only reads. The tables
  -- represent the same runs, and a crash leaves only what it left before the call. `g` is the
  -- specification of connections.
  pub record OnlyReadsRuns : Type 0 where
    pub stands : KeepsRuns
    pub crash : OnlyReads

  -- `ReadsSchemaNumber g old new`: a call from connection `old` to `new` reads the schema number.
  -- If the table `meta` of `old` has a schema number, the call commits nothing. It then changes
  -- nothing or rolls the open transaction back. Nothing is stated if the disk has returned wrong
  -- data up to `new`. `g` is the specification of connections.
  pub record ReadsSchemaNumber : Type 0 where
    pub earlier : WasCleanIfClean
    pub rests : (n : ℤ) → StoresSchemaNumber n (state g old) → HasCleanDisk (state g new) → IsUnchangedOrRolledBack (state g old) (state g new)
    pub crash : (n : ℤ) → StoresSchemaNumber n (state g old) → CommitsNothing

  -- `KeepsDatabase g old new`: if connection `old` has a schema number, the call that led to `new`
  -- left the database unchanged, unless the disk has returned wrong data. `g` is the specification
  -- of connections.
  abbrev pub KeepsDatabase : Type 0
  KeepsDatabase = (n : ℤ) → StoresSchemaNumber n (state g old) → HasCleanDisk (state g new) → IsUnchanged (state g old) (state g new)

  -- `ChecksTables g old new`: if connection `old` has a schema number, SQLite can prepare the
  -- queries of the schema with this number. Nothing is stated if the disk has returned wrong data
  -- up to `new`, the connection after the call. `g` is the specification of connections.
  abbrev pub ChecksTables : Type 0
  ChecksTables = (n : ℤ) → StoresSchemaNumber n (state g old) → HasCleanDisk (state g new) → HasTables n (state g old)

  module _ (Allowed : List Run → Type 0) (change : List Run → List Run) where
    -- `Changes g old new Allowed change`: a call from connection `old` to `new` changes the runs by
    -- the function `change`. If the tables of `old` represent `runs` that meet `Allowed`, the
    -- tables of `new` represent `change runs`, and a crash leaves only these. `g` is the
    -- specification of connections.
    pub record Changes : Type 0 where
      pub stands : (runs : List Run) → StandsFor (state g old) runs → (HasCleanDisk (state g old) → Allowed runs) → StandsFor (state g new) (change runs)
      pub lasts : (runs : List Run) → StandsFor (state g old) runs → (HasCleanDisk (state g old) → Allowed runs) → Leaves (state g new) (IsSchema2Of (change runs))

    -- `MayChange g old new Allowed change`: a call from connection `old` to `new` may change the
    -- runs by the function `change`. If the tables of `old` represent `runs` that meet `Allowed`, a
    -- crash after the call leaves what a crash before it leaves, or `change runs`. `g` is the
    -- specification of connections.
    abbrev pub MayChange : Type 0
    MayChange = (runs : List Run) → StandsFor (state g old) runs → (HasCleanDisk (state g old) → Allowed runs) → Survives (state g old) (state g new) (IsSchema2Of (change runs))
