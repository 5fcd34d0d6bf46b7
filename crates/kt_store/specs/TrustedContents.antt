-- The assumption on files whose schema list is that of schema 2.
use Rattle.std.specs.Prelude.{◌≡◌, ℕ, pos, List, [], ◌∷◌, map, codes}
use Rattle.sqlite_pool.specs.File.{in_use}
use Rattle.sqlite_store.specs.Db.{rows_at}
use Rattle.sqlite_trees.specs.declared.store.Shape.TheVariants.{Table}
use Rattle.sqlite.specs.Opening.{unrooted}
use Rattle.kt_store.specs.Runs.{IsSchema2Of}
use Rattle.kt_store.specs.Tables.{create_meta_sql, create_runs_sql, create_entries_sql, create_props_sql}
use Rattle.kt_store.specs.Types.{HoldsDatabase, Image, Int, Null, PageMap, Recovers, Row, Run, Text, Trees}

-- `table_object id name sql`: the row of the table named `name` in SQLite's schema list, without
-- the root page. It has the rowid `id`, the type, the name, the table name and the SQL text `sql`.
abbrev pub table_object : ℕ → List ℕ → List ℕ → Row
table_object id name sql = Int (pos id) ∷ Text (codes "table") ∷ Text name ∷ Text name ∷ Text sql ∷ []

-- `key_object id name table`: the row of the index named `name` in SQLite's schema list, without
-- the root page. The index is that of the primary key of the table named `table`. The row has the
-- rowid `id`, the type, the name, the table name, and NULL as the SQL text.
abbrev pub key_object : ℕ → List ℕ → List ℕ → Row
key_object id name table = Int (pos id) ∷ Text (codes "index") ∷ Text name ∷ Text table ∷ Null ∷ []

-- the rows of SQLite's schema list for schema 2, without root pages
abbrev pub schema_2_objects : List Row
schema_2_objects =
    table_object 1 (codes "meta") create_meta_sql ∷ key_object 2 (codes "sqlite_autoindex_meta_1") (codes "meta") ∷ table_object 3 (codes "runs") create_runs_sql
    ∷ table_object 4 (codes "entries") create_entries_sql ∷ key_object 5 (codes "sqlite_autoindex_entries_1") (codes "entries") ∷ table_object 6 (codes "props") create_props_sql
    ∷ key_object 7 (codes "sqlite_autoindex_props_1") (codes "props") ∷ []

-- `ListsObjects size pages`: in the database with the page size `size` in bytes and the pages
-- `pages`, SQLite's schema list is that of schema 2
abbrev pub ListsObjects : ℕ → PageMap → Type 0
ListsObjects size pages = map unrooted (rows_at size (in_use size pages) Table 1) ≡ schema_2_objects

-- `ListsTables image`: the results file and its log, with the content `image`, recover to pages
-- whose schema list is that of schema 2
abbrev pub ListsTables : Image → Type 0
ListsTables image = (size : ℕ) × (pages : PageMap) × Recovers size image pages × ListsObjects size pages

-- `IsTrustedImage image`: if files with the content `image` list the tables of schema 2, they
-- contain a database of schema 2 with some runs. `image` is the content of the results file and its
-- log. Files that don't list these tables always meet `IsTrustedImage`.
abbrev pub IsTrustedImage : Image → Type 0
IsTrustedImage image = (size : ℕ) (pages : PageMap) → Recovers size image pages → ListsObjects size pages
    → (runs : List Run) × (db : Trees) × HoldsDatabase image db × IsSchema2Of runs db
