use Rattle.kt_dbfile.proofs.Common.{AreNamed, Some, [], codes, entries_table, index_of, props_table, refl, runs_table, schema_2, ◌∷◌, ◌≡◌}
use Rattle.std.specs.Fmt.{digits}
use Rattle.sqlite_schema.specs.Names.{index_named, same_name, table_named}
use Rattle.kt_dbfile.proofs.layout.has_tables.Goals as goal

-- the tables of schema 2 have these columns, and are found by name
run_columns : AreNamed runs_table 0 (codes "id" ∷ codes "started" ∷ codes "total" ∷ codes "finished" ∷ [])
unfolding same_name
run_columns = (refl, (refl, (refl, (refl, tt))))

entry_columns : AreNamed entries_table 0 (codes "run" ∷ codes "position" ∷ codes "program" ∷ codes "case_name" ∷ codes "kind" ∷ codes "reason" ∷ codes "started" ∷ codes "millis" ∷ codes "body_out" ∷ codes "body_err" ∷ codes "clean_out" ∷ codes "clean_err" ∷ [])
unfolding same_name
entry_columns = (refl, (refl, (refl, (refl, (refl, (refl, (refl, (refl, (refl, (refl, (refl, (refl, tt))))))))))))

pair_columns : AreNamed props_table 0 (codes "run" ∷ codes "position" ∷ codes "place" ∷ codes "name" ∷ codes "value" ∷ [])
unfolding same_name
pair_columns = (refl, (refl, (refl, (refl, (refl, tt)))))

runs_are : table_named schema_2 (codes "runs") ≡ Some 1
unfolding same_name
runs_are = refl

entries_are : table_named schema_2 (codes "entries") ≡ Some 2
unfolding same_name
entries_are = refl

props_are : table_named schema_2 (codes "props") ≡ Some 3
unfolding same_name
props_are = refl

entry_keys_are : index_named schema_2 (codes "sqlite_autoindex_entries_1") ≡ Some 1
unfolding same_name digits
entry_keys_are = refl

pair_keys_are : index_named schema_2 (codes "sqlite_autoindex_props_1") ≡ Some 2
unfolding same_name digits
pair_keys_are = refl

pub returns : goal.returns
returns c e =
    let runs = (rw e at c.has_table-runs.ensures) runs_table runs_are refl refl refl run_columns in
    let entries = (rw e at c.has_table-entries.ensures) entries_table entries_are refl refl refl entry_columns in
    let pairs = (rw e at c.has_table-pairs.ensures) props_table props_are refl refl refl pair_columns in
    let entry_keys = (rw e at c.has_index-entry_keys.ensures) 1 (index_of entries_table 4) entry_keys_are refl refl in
    let pair_keys = (rw e at c.has_index-pair_keys.ensures) 2 (index_of props_table 6) pair_keys_are refl refl in
    rw (runs, entries, pairs, entry_keys, pair_keys) refl
