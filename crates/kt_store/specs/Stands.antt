-- The runs that a connection represents.
use Rattle.std.specs.Prelude.{◌≡◌, false, Ok, ℕ, List, ℤ, pos, IsTrue}
use Rattle.sqlite_resolve.specs.declared.compiled.Compiled.{Compiled}
use Rattle.sqlite.specs.Table.{Table}
use Rattle.sqlite_schema.specs.declared.schema.Index.{Index}
use Rattle.sqlite_schema.specs.declared.schema.View.{View}
use Rattle.kt_store.specs.Tables.{no_schema, schema_with_meta, select_runs_sql, select_entries_sql, select_props_sql}
use Rattle.kt_store.specs.Runs.{HasSchemaNumber, IsSchema2Database, IsSchema1Database}
use Rattle.kt_store.specs.Types.{Database, Ghosts, HasCleanDisk, Held, Run, State, Trees, state, understood}

-- `IsSettled P s`: in state `s` of a connection, no transaction is open, and the connection shows
-- the database of the last commit. `P` holds for this database.
pub record IsSettled (P : Database → Type 0) (s : State) : Type 0 where
  pub autocommit : s.in_transaction ≡ false
  pub settled : s.committed ≡ s.now
  pub tables : P s.now

-- `IsSettledWhileOpen P s`: if the connection is open in state `s` and the disk has returned no
-- wrong data, then `IsSettled P s`
abbrev pub IsSettledWhileOpen : (Database → Type 0) → State → Type 0
IsSettledWhileOpen P s = HasCleanDisk s → IsTrue s.is_open → IsSettled P s

-- `IsSettledWithRuns s runs`: in state `s` of a connection, no transaction is open, and the
-- connection shows its last commit: a database of schema 2 with exactly `runs`
abbrev pub IsSettledWithRuns : State → List Run → Type 0
IsSettledWithRuns s runs = IsSettled (λ db. IsSchema2Database db runs) s

-- `StandsFor s runs`: in state `s` of a connection, no transaction is open, and the database has
-- schema 2 with exactly `runs`. Nothing is stated for a closed connection or a disk that returned
-- wrong data.
abbrev pub StandsFor : State → List Run → Type 0
StandsFor s runs = IsSettledWhileOpen (λ db. IsSchema2Database db runs) s

-- `HoldsForRuns g old new P`: `P` holds for the runs that the tables of connection `old` represent.
-- `new` is the connection after a call. Nothing is stated if the disk has returned wrong data up to
-- `new`. `g` is the specification of connections.
abbrev pub HoldsForRuns : {S : Type 0} → Ghosts S → Held S → Held S → (List Run → Type 0) → Type 0
HoldsForRuns g old new P = (runs : List Run) → StandsFor (state g old) runs → HasCleanDisk (state g new) → P runs

-- `RepresentsInSchema1 s runs`: in state `s` of a connection, no transaction is open, and the
-- database has schema 1 with exactly `runs`. Nothing is stated for a closed connection or a disk
-- that returned wrong data.
abbrev pub RepresentsInSchema1 : State → List Run → Type 0
RepresentsInSchema1 s runs = IsSettledWhileOpen (λ db. IsSchema1Database db runs) s

-- `HasNoTables s`: in state `s` of a connection, no transaction is open, and the database has no
-- tables, indexes or views. Nothing is stated for a closed connection or a disk that returned wrong
-- data.
abbrev pub HasNoTables : State → Type 0
HasNoTables s = IsSettledWhileOpen (λ db. db.schema ≡ no_schema) s

-- `Leaves s P`: a crash in state `s` of a connection leaves B-trees for which `P` holds, unless the
-- disk has returned wrong data
abbrev pub Leaves : State → (Trees → Type 0) → Type 0
Leaves s P = HasCleanDisk s → (trees : Trees) → s.may_leave trees → P trees

-- `ListsSchemaNumber n s`: in state `s` of a connection, the first table of the database is `meta`,
-- and it has the schema number `n`. Other tables may follow.
pub record ListsSchemaNumber (n : ℤ) (s : State) : Type 0 where
  pub others : List Table
  pub indexes : List Index
  pub views : List View
  pub schema : s.now.schema ≡ schema_with_meta others indexes views
  pub marked : HasSchemaNumber n s.now.trees

-- `StoresSchemaNumber n s`: in state `s` of a connection, the first table of the database is
-- `meta`, and it has the schema number `n`. Nothing is stated for a closed connection or a disk
-- that returned wrong data.
abbrev pub StoresSchemaNumber : ℤ → State → Type 0
StoresSchemaNumber n s = HasCleanDisk s → IsTrue s.is_open → ListsSchemaNumber n s

-- `IsPreparable s sql`: SQLite can prepare the statement `sql` over the tables in state `s` of a
-- connection
abbrev pub IsPreparable : State → List ℕ → Type 0
IsPreparable s sql = (c : Compiled) × (understood s.now.schema sql ≡ Ok c)

-- `HasTables n s`: in state `s` of a connection, SQLite can prepare the queries of schema `n`.
-- These are the queries for runs, for entries and, if `n` is 2, for properties.
pub record HasTables (n : ℤ) (s : State) : Type 0 where
  pub runs : IsPreparable s select_runs_sql
  pub entries : IsPreparable s select_entries_sql
  pub pairs : n ≡ pos 2 → IsPreparable s select_props_sql
