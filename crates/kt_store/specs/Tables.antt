-- The tables of schemas 1 and 2 as SQLite represents them, and the texts of the statements.
use Rattle.std.specs.Prelude.{true, false, [], ◌∷◌, Some, None, codes, List, ℕ, pos, Bool, slice_index_or}
use Rattle.sqlite.specs.Collation.TheVariants.{Binary}
use Rattle.sqlite.specs.declared.types.Value.TheVariants.{Null, Int}
use Rattle.sqlite.specs.Table.{Table}
use Rattle.sqlite.specs.Schema.{Schema}
use Rattle.sqlite.specs.Kind.{Kind}
use Rattle.sqlite.specs.Kind.TheVariants.{Integer, Text, Blob}
use Rattle.sqlite_schema.specs.declared.schema.Column.{Column}
use Rattle.sqlite_schema.specs.declared.schema.Stamps.{Stamps}
use Rattle.sqlite_schema.specs.declared.schema.Action.TheVariants.{NoAction}
use Rattle.sqlite_schema.specs.declared.schema.Index.{Index}
use Rattle.sqlite_schema.specs.declared.schema.View.{View}
use Rattle.sqlite_catalog.specs.Listing.{automatic}
use Rattle.sqlite_value.specs.Keys.{plain}
use Rattle.sqlite.specs.Term.{Term, lit, col, op2}
use Rattle.sqlite_sql.specs.declared.ops.BinaryOp.TheVariants.{Compare, And, Or}
use Rattle.sqlite_sql.specs.declared.ops.CompareOp.TheVariants.{Eq, Ge, Le}

-- the schema of a database without tables
abbrev pub no_schema : Schema
no_schema = record { tables = []; indexes = []; views = [] }

-- the SQL statement that creates the table `meta`, which stores the schema number
abbrev pub create_meta_sql : List ℕ
create_meta_sql = codes "CREATE TABLE meta (name TEXT PRIMARY KEY, value INTEGER NOT NULL) STRICT"

-- the statement that creates the table `runs`
abbrev pub create_runs_sql : List ℕ
create_runs_sql = codes "CREATE TABLE runs (id INTEGER PRIMARY KEY, started INTEGER NOT NULL, total INTEGER NOT NULL, finished INTEGER NOT NULL CHECK (finished IN (0, 1))) STRICT"

-- the statement that creates the table `entries`
abbrev pub create_entries_sql : List ℕ
create_entries_sql = codes "CREATE TABLE entries (run INTEGER NOT NULL REFERENCES runs (id), position INTEGER NOT NULL, program TEXT NOT NULL, case_name TEXT NOT NULL, kind INTEGER NOT NULL CHECK (kind BETWEEN 0 AND 4), reason TEXT NOT NULL, started INTEGER NOT NULL, millis INTEGER NOT NULL, body_out BLOB NOT NULL, body_err BLOB NOT NULL, clean_out BLOB NOT NULL, clean_err BLOB NOT NULL, PRIMARY KEY (run, position)) STRICT"

-- `column name kind not_null`: a column named `name` of a STRICT table, which accepts only values
-- of the type `kind`. It accepts NULL only if `not_null` is `false`.
abbrev pub column : List ℕ → Kind → Bool → Column
column name kind not_null = record { name = name; kind = kind; is_strict = true; not_null = not_null; default = Null; collation = Binary }

-- an empty list of columns whose default is the current time
abbrev pub no_time_defaults : Stamps
no_time_defaults = record { places = []; terms = []; formats = [] }

-- `bare_table name columns`: a table named `name` with `columns`, without a key, a check or a
-- reference, before SQLite assigns a B-tree to it
abbrev pub bare_table : List ℕ → List Column → Table
bare_table name columns =
    record { name = name; tree = 0; columns = columns; key = None; primary = []; uniques = []; orders = []; checks = []; references = []; computed = []; stamps = no_time_defaults; is_counted = false }

-- the table `meta`, which stores the schema number, before SQLite assigns a B-tree to it
abbrev pub meta : Table
meta = record (bare_table (codes "meta") (column (codes "name") Text true ∷ column (codes "value") Integer true ∷ [])) { primary = 1 ∷ []; uniques = (1 ∷ []) ∷ []; orders = plain ∷ [] }

-- the CHECK of the table `runs`: column `finished` is 0 or 1
abbrev pub finished_check : Term
finished_check = op2 Or (op2 (Compare Eq Binary) (col 1 4) (lit (Int (pos 0)))) (op2 (Compare Eq Binary) (col 1 4) (lit (Int (pos 1))))

-- the columns of the table `runs`
abbrev pub runs_columns : List Column
runs_columns = column (codes "id") Integer false ∷ column (codes "started") Integer true ∷ column (codes "total") Integer true ∷ column (codes "finished") Integer true ∷ []

-- the table `runs`, before SQLite assigns a B-tree to it
abbrev pub runs : Table
runs = record (bare_table (codes "runs") runs_columns) { key = Some 0; primary = 0 ∷ []; checks = finished_check ∷ [] }

-- the CHECK of the table `entries`: column `kind` is 0 to 4
abbrev pub kind_check : Term
kind_check = op2 And (op2 (Compare Ge Binary) (col 1 5) (lit (Int (pos 0)))) (op2 (Compare Le Binary) (col 1 5) (lit (Int (pos 4))))

-- the columns of the table `entries`
abbrev pub entries_columns : List Column
entries_columns =
    column (codes "run") Integer true ∷ column (codes "position") Integer true ∷ column (codes "program") Text true ∷ column (codes "case_name") Text true ∷ column (codes "kind") Integer true
    ∷ column (codes "reason") Text true ∷ column (codes "started") Integer true ∷ column (codes "millis") Integer true ∷ column (codes "body_out") Blob true ∷ column (codes "body_err") Blob true
    ∷ column (codes "clean_out") Blob true ∷ column (codes "clean_err") Blob true ∷ []

-- the table `entries`, before SQLite assigns a B-tree to it
abbrev pub entries : Table
entries = record (bare_table (codes "entries") entries_columns) {
  primary = 1 ∷ 2 ∷ [];
  uniques = (1 ∷ 2 ∷ []) ∷ [];
  orders = plain ∷ [];
  checks = kind_check ∷ [];
  references = record { columns = 1 ∷ []; parent = codes "runs"; parent_columns = codes "id" ∷ []; on_delete = NoAction; on_update = NoAction; is_deferred = false } ∷ [];
}

-- the statement that creates the table `props`, which has the properties of entries
abbrev pub create_props_sql : List ℕ
create_props_sql = codes "CREATE TABLE props (run INTEGER NOT NULL, position INTEGER NOT NULL, place INTEGER NOT NULL, name TEXT NOT NULL, value TEXT NOT NULL, PRIMARY KEY (run, position, place)) STRICT"

-- the columns of the table `props`
abbrev pub props_columns : List Column
props_columns = column (codes "run") Integer true ∷ column (codes "position") Integer true ∷ column (codes "place") Integer true ∷ column (codes "name") Text true ∷ column (codes "value") Text true ∷ []

-- the table `props`, which has the properties of entries, before SQLite assigns a B-tree to it
abbrev pub props : Table
props = record (bare_table (codes "props") props_columns) { primary = 1 ∷ 2 ∷ 3 ∷ []; uniques = (1 ∷ 2 ∷ 3 ∷ []) ∷ []; orders = plain ∷ [] }

-- `index_of table tree`: the index of the primary key of `table`, stored in the B-tree number
-- `tree`
abbrev pub index_of : Table → ℕ → Index
index_of table tree = automatic table 0 (slice_index_or table.uniques 0 []) tree

-- the table `meta`, stored in B-tree 0
abbrev pub meta_table : Table
meta_table = record meta { tree = 0 }

-- the table `runs`, stored in B-tree 2
abbrev pub runs_table : Table
runs_table = record runs { tree = 2 }

-- the table `entries`, stored in B-tree 3
abbrev pub entries_table : Table
entries_table = record entries { tree = 3 }

-- the table `props`, stored in B-tree 5
abbrev pub props_table : Table
props_table = record props { tree = 5 }

-- the three tables of schema 1 and their indexes
abbrev pub schema_1 : Schema
schema_1 = record { tables = meta_table ∷ runs_table ∷ entries_table ∷ []; indexes = index_of meta_table 1 ∷ index_of entries_table 4 ∷ []; views = [] }

-- the four tables of schema 2 and their indexes
abbrev pub schema_2 : Schema
schema_2 = record { tables = meta_table ∷ runs_table ∷ entries_table ∷ props_table ∷ []; indexes = index_of meta_table 1 ∷ index_of entries_table 4 ∷ index_of props_table 6 ∷ []; views = [] }

-- `schema_with_meta others indexes views`: a schema with the table `meta` first, then the tables
-- `others`, and with `indexes` and `views`
abbrev pub schema_with_meta : List Table → List Index → List View → Schema
schema_with_meta others indexes views = record { tables = meta_table ∷ others; indexes = indexes; views = views }

-- the statement that inserts an unfinished run
abbrev pub insert_run_sql : List ℕ
insert_run_sql = codes "INSERT INTO runs (started, total, finished) VALUES (?1, ?2, 0)"

-- the query for the total and the finished flag of a run
abbrev pub select_run_sql : List ℕ
select_run_sql = codes "SELECT total, finished FROM runs WHERE id = ?1"

-- the statement that marks a run as finished
abbrev pub finish_run_sql : List ℕ
finish_run_sql = codes "UPDATE runs SET finished = 1 WHERE id = ?1"

-- the query for the heads of all runs, ordered by number
abbrev pub select_runs_sql : List ℕ
select_runs_sql = codes "SELECT id, started, total, finished FROM runs ORDER BY id"

-- the query that returns one row if a run has an entry at a position, else no row
abbrev pub select_entry_sql : List ℕ
select_entry_sql = codes "SELECT position FROM entries WHERE run = ?1 AND position = ?2 ORDER BY position"

-- the statement that inserts an entry into the table `entries`, without its properties
abbrev pub insert_entry_sql : List ℕ
insert_entry_sql = codes "INSERT INTO entries (run, position, program, case_name, kind, reason, started, millis, body_out, body_err, clean_out, clean_err) VALUES (?1, ?2, ?3, ?4, ?5, ?6, ?7, ?8, ?9, ?10, ?11, ?12)"

-- the query for the entries of a run, ordered by position
abbrev pub select_entries_sql : List ℕ
select_entries_sql = codes "SELECT position, program, case_name, kind, reason, started, millis, body_out, body_err, clean_out, clean_err FROM entries WHERE run = ?1 ORDER BY position"

-- the query for the properties of the entry at a position of a run, in their recorded order
abbrev pub select_props_sql : List ℕ
select_props_sql = codes "SELECT name, value FROM props WHERE run = ?1 AND position = ?2 ORDER BY place"

-- the query for the schema number
abbrev pub select_schema_sql : List ℕ
select_schema_sql = codes "SELECT value FROM meta WHERE name = 'schema'"

-- the statement that inserts the schema number 2
abbrev pub insert_schema_sql : List ℕ
insert_schema_sql = codes "INSERT INTO meta (name, value) VALUES ('schema', 2)"

-- the statement that updates the schema number to 2
abbrev pub update_schema_sql : List ℕ
update_schema_sql = codes "UPDATE meta SET value = 2 WHERE name = 'schema'"
