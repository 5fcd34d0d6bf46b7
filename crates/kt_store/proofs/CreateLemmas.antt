-- The effect of the statements that create the tables.
use Rattle.kt_store.proofs.Common.{Chosen, CreateTable, Database, Enforced, Executes, Ghosts, Held, Insert, Int, IsDatabase, IsPermutation, IsPermutation-refl, IsPlain, IsTrue, List, None, Ok, Row, ExecutesInOrder, Schema, State, Table, IsSchema2Database, Tally, Text, Trees, Values, Writes, [], ap, arith, begun, codes, command_of, create_entries_sql, create_meta_sql, create_props_sql, create_runs_sql, drop, edit_of, entries, everything, false, lacks_sequence, creation_statements, map, insert_schema_sql, meta, meta_table, mode_of, no_schema, pos, props, refl, runs, runs_as, schema_1, schema_2, state, statement_of, subst, sym, taken_by, understood, value_rows, works, ℕ, ◌∙◌, ◌∷◌, ◌≡◌}
use Rattle.sqlite.specs.Compile.{table_defined_by}
use Rattle.sqlite.specs.Change.{created, next_tree, KeepsRows}
use Rattle.kt_store.proofs.SqlFacts.{mark_is, mark_terms}
use Rattle.kt_store.proofs.InsertLemmas.{changed}
use Rattle.kt_store.proofs.Values.{cast_int, cast_null, same_value, went}

abbrev pub schema_a : Schema
schema_a = created no_schema meta

abbrev pub schema_b : Schema
schema_b = created schema_a runs

abbrev pub IsCreate : Schema → List ℕ → Table → Type 0
IsCreate schema sql table = (command_of (understood schema sql) ≡ CreateTable) × (statement_of sql (understood schema sql) ≡ sql) × IsPlain (understood schema sql) × (table_defined_by sql ≡ Ok table) × (lacks_sequence (created schema table) ≡ false)

pub meta_create : IsCreate no_schema create_meta_sql meta
unfolding understood everything
meta_create = (refl, refl, (refl, refl), refl, refl)

pub runs_create : IsCreate schema_a create_runs_sql runs
unfolding understood everything
runs_create = (refl, refl, (refl, refl), refl, refl)

pub entries_create : IsCreate schema_b create_entries_sql entries
unfolding understood everything
entries_create = (refl, refl, (refl, refl), refl, refl)

pub props_create : IsCreate schema_1 create_props_sql props
unfolding understood everything
props_create = (refl, refl, (refl, refl), refl, refl)

pub record Makes (schema : Schema) (table : Table) (old new : State) : Type 0 where
  pub schema_is : new.now.schema ≡ created schema table
  pub empty : new.now.trees (next_tree schema) ≡ []
  pub others : KeepsRows schema.tables old.now.trees new.now.trees

pub makes : (schema : Schema) (sql : List ℕ) (table : Table) → IsCreate schema sql table → (old new : State) (count : ℕ) → old.now.schema ≡ schema → Executes sql [] old new (Ok count) → Makes schema table old new
makes schema sql table is old new count has h =
    let w = subst (λ t. Writes old new None CreateTable t [] count) is.1 (runs_as sql [] old new schema has CreateTable is.0 is.2 count h) in
    let all = went w.changed in
    let first = went all.1 in
    let made = first.1 in
    let both : Ok made.table ≡ Ok table = sym made.defined ∙ is.3 in
    let same : made.table ≡ table = same_value both in
    let schema_now : first.0.schema ≡ created schema table = made.is ∙ ap (λ s. created s made.table) has ∙ ap (created schema) same in
    let plain : lacks_sequence first.0.schema ≡ false = ap lacks_sequence schema_now ∙ is.4 in
    let now : new.now ≡ first.0 = ap (λ (p : Tally × Database). p.1) (same_value all.2) ∙ same_value (rw plain at first.2) in
    record {
      schema_is = ap (λ (d : Database). d.schema) now ∙ schema_now;
      empty = ap (λ (d : Database). d.trees (next_tree schema)) now ∙ subst (λ s. first.0.trees (next_tree s) ≡ []) has made.empty;
      others = subst (λ (d : Database). KeepsRows schema.tables old.now.trees d.trees) (sym now) (subst (λ s. KeepsRows s.tables old.now.trees first.0.trees) has made.others);
    }

abbrev mark_command : Rattle.sqlite.specs.Command.Command
mark_command = Insert 0 (Values mark_terms 3)

mark_works : (params : Row) (trees : Trees) → let edit = edit_of trees meta_table [] Chosen 0 (value_rows params 3 1 mark_terms) in works schema_2 Enforced 0 edit.table.tree (taken_by trees edit) edit.news ≡ []
mark_works params trees = refl

-- the five statements that create the tables, executed in order, lead to tables without runs
pub made_all : (a b c m d e : State) (i j k o l : ℕ) → a.now.schema ≡ no_schema → Executes create_meta_sql [] a b (Ok i) → Executes create_runs_sql [] b c (Ok j) → Executes create_entries_sql [] c m (Ok k) → Executes create_props_sql [] m d (Ok o) → Executes insert_schema_sql [] d e (Ok l)
    → IsSchema2Database e.now [] × IsDatabase e.now
made_all a b c m d e i j k o l has one two three fourth four =
    let first = makes no_schema create_meta_sql meta meta_create a b i has one in
    let second = makes schema_a create_runs_sql runs runs_create b c j first.schema_is two in
    let third = makes schema_b create_entries_sql entries entries_create c m k second.schema_is three in
    let last = makes schema_1 create_props_sql props props_create m d o third.schema_is fourth in
    let text = statement_of insert_schema_sql (understood schema_2 insert_schema_sql) in
    let w : Writes d e None mark_command text [] l = runs_as insert_schema_sql [] d e schema_2 last.schema_is mark_command mark_is.0 mark_is.1 l four in
    let did = changed schema_2 0 meta_table mark_terms 3 refl refl refl mark_works d.step_limit (mode_of d) [] d.now e.now text w.tally refl last.schema_is w.changed in
    let meta_empty : d.now.trees 0 ≡ [] = last.others.0 ∙ third.others.0 ∙ second.others.0 ∙ first.empty in
    let runs_empty : d.now.trees 2 ≡ [] = last.others.1.0 ∙ third.others.1.0 ∙ second.empty in
    let marked : e.now.trees 0 ≡ (Int (pos 1) ∷ Text (codes "schema") ∷ Int (pos 2) ∷ []) ∷ [] = did.applies.rows ∙ rw (meta_empty, cast_null, cast_int (pos 2)) refl in (
      record {
        schema = did.schema_is;
        marked = ap (map (drop 1)) marked;
        runs_are = did.applies.tables.1.0 (λ e. cc) ∙ runs_empty;
        entries_are = subst (λ rows. IsPermutation {X = Row} [] (map (drop 1) rows)) (sym (did.applies.tables.1.1.0 (λ e. cc) ∙ last.others.1.1.0 ∙ third.empty)) (IsPermutation-refl []);
        props_are = subst (λ rows. IsPermutation {X = Row} [] (map (drop 1) rows)) (sym (did.applies.tables.1.1.1.0 (λ e. cc) ∙ last.empty)) (IsPermutation-refl []);
        valid = record { numbered = tt; each = tt; few = omega arith };
      },
      w.sound,
    )

-- the five statements that create the tables, executed in a transaction, lead to tables without
-- runs
pub made_in : {S : Type 0} (g : Ghosts S) (old left : Held S) → (IsTrue (state g old).is_open → (state g old).now.schema ≡ no_schema) → ExecutesInOrder g creation_statements (begun old) left → IsSchema2Database (state g left).now [] × IsDatabase (state g left).now
made_in g old left has ran =
    let two = ran.2 in
    let three = two.2 in
    let four = three.2 in
    let five = four.2 in
    subst (λ h. IsSchema2Database (state g h).now [] × IsDatabase (state g h).now) (sym five.2)
    (made_all (state g (begun old)) (state g ran.0) (state g two.0) (state g three.0) (state g four.0) (state g five.0) ran.1.0 two.1.0 three.1.0 four.1.0 five.1.0 (has ran.1.1.1.was_open) ran.1.1.0 two.1.1.0 three.1.1.0 four.1.1.0 five.1.1.0)
