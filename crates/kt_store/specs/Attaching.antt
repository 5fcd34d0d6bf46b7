-- The effect of attaching a database (`Results::attach`), by the database's state before.
use Rattle.std.specs.Prelude.{◌≡◌, ◌≢◌, ◌⊎◌, ℤ, pos, List, [], IsTrue}
use Rattle.kt_store.specs.Ask.{IsUnchangedOrRolledBack, IsDatabaseFault}
use Rattle.kt_store.specs.Runs.{IsSchema2Of, IsAnySchemaOf}
use Rattle.kt_store.specs.Stands.{StandsFor, RepresentsInSchema1, HasNoTables, StoresSchemaNumber, HasTables, Leaves}
use Rattle.kt_store.specs.Types.{HasCleanDisk, Run, State, StoreFault, Survives}

-- A description of a database before its tables are created, checked or migrated by
-- `Results::attach`. `Blank` has no tables. `Schema2` has the runs `runs` in schema 2, and
-- `Schema1` has the runs `runs` in schema 1. `Numbered` has the schema number `n` and any other
-- content.
pub data InitialDatabase : Type 0 where
  Blank : InitialDatabase
  Schema2 : (runs : List Run) → InitialDatabase
  Schema1 : (runs : List Run) → InitialDatabase
  Numbered : (n : ℤ) → InitialDatabase

-- `Describes was s`: `was` describes the database of a connection in state `s`. Any description
-- holds if the connection is closed or the disk has returned wrong data.
abbrev pub Describes : InitialDatabase → State → Type 0
Describes Blank s = HasNoTables s
Describes (Schema2 runs) s = StandsFor s runs
Describes (Schema1 runs) s = RepresentsInSchema1 s runs
Describes (Numbered n) s = StoresSchemaNumber n s

-- `AttachSucceeds was old new`: the effect of a successful `Results::attach`, which led a
-- connection from state `old` to `new`. `was` describes the database in `old`. For `Blank`,
-- `Schema1` and `Schema2`, the tables in `new` represent the runs of `was` (no runs for `Blank`),
-- and a crash leaves only these runs. `Survives` also holds: the call adds at most these runs to
-- what a crash may leave, and for `Schema2` nothing. For `Numbered`, the schema number is 1 or 2,
-- and SQLite can prepare the queries of this schema. Nothing is stated of the runs and the queries
-- if the disk has returned wrong data.
abbrev pub AttachSucceeds : InitialDatabase → State → State → Type 0
AttachSucceeds Blank old new = StandsFor new [] × Leaves new (IsSchema2Of []) × Survives old new (IsSchema2Of [])
AttachSucceeds (Schema2 runs) old new = StandsFor new runs × Leaves new (IsSchema2Of runs) × Survives old new (λ _. ⊥)
AttachSucceeds (Schema1 runs) old new = StandsFor new runs × Leaves new (IsSchema2Of runs) × Survives old new (IsSchema2Of runs)
AttachSucceeds (Numbered n) old new = HasCleanDisk new → ((n ≡ pos 1) ⊎ (n ≡ pos 2)) × HasTables n old

-- `AttachFails was old new fault`: the effect of a failed `Results::attach`, which led a connection
-- from state `old` to `new`. `was` describes the database in `old`, and `fault` is the error. For
-- `Blank`, `Schema1` and `Schema2`, `was` also describes the database in `new`. Unless the disk has
-- returned wrong data, `fault` then reports that memory ran out or that the database failed. If the
-- connection was open, a crash in `new` leaves the runs of `Schema2` in schema 2, or the runs of
-- `Schema1` in schema 1 or 2. For `Numbered n` with `n` other than 1, nothing changed or the open
-- transaction was rolled back, unless the disk has returned wrong data. A crash in `new` leaves
-- what a crash in `old` leaves or, for `Blank` and `Schema1`, the runs of `was` in schema 2. For
-- `Numbered 1`, nothing is stated.
abbrev pub AttachFails : InitialDatabase → State → State → StoreFault → Type 0
AttachFails Blank old new fault = HasNoTables new × Survives old new (IsSchema2Of []) × (HasCleanDisk new → IsDatabaseFault fault)
AttachFails (Schema2 runs) old new fault = StandsFor new runs × Survives old new (λ _. ⊥) × (HasCleanDisk new → IsDatabaseFault fault) × (IsTrue old.is_open → Leaves new (IsSchema2Of runs))
AttachFails (Schema1 runs) old new fault = RepresentsInSchema1 new runs × Survives old new (IsSchema2Of runs) × (HasCleanDisk new → IsDatabaseFault fault) × (IsTrue old.is_open → Leaves new (IsAnySchemaOf runs))
AttachFails (Numbered n) old new fault = n ≢ pos 1 → (HasCleanDisk new → IsUnchangedOrRolledBack old new) × Survives old new (λ _. ⊥)
