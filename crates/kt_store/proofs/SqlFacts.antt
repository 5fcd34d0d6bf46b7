-- The compiled form of each statement text of the store.
use Rattle.kt_store.proofs.Common.{Binary, Command, Compare, Eq, HasColumns, Insert, Int, IsPlain, List, None, Null, Query, Select, Table, Term, Text, Update, Values, [], arith, ascending, insert_run_sql, schema_with_meta, codes, col, command_of, end, select_entries_sql, everything, false, finish_run_sql, inner, lit, insert_schema_sql, select_schema_sql, negsuc, op2, insert_prop_sql, select_props_sql, pos, insert_entry_sql, update_schema_sql, reads_listing, refl, select_run_sql, select_runs_sql, schema_2, select_entry_sql, understood, ℕ, ◌∷◌, ◌≡◌}
use Rattle.sqlite_schema.specs.declared.schema.Index.{Index}
use Rattle.sqlite_schema.specs.declared.schema.View.{View}

abbrev pub query : Query
query = record { from = end; filter = []; group = None; project = []; distinct = false; collations = []; order = []; limit = lit (Int (negsuc 0)); offset = lit (Int (pos 0)) }

abbrev pub select : Query → List (List ℕ) → Command
select q names = Select (record { lets = []; body = q }) names

abbrev pub is : Term → Term → Term
is a b = op2 (Compare Eq Binary) a b

abbrev pub begin_terms : List Term
begin_terms = lit Null ∷ lit Null ∷ col 0 0 ∷ col 0 1 ∷ lit (Int (pos 0)) ∷ []

pub begin_is : (command_of (understood schema_2 insert_run_sql) ≡ Insert 1 (Values begin_terms 5)) × IsPlain (understood schema_2 insert_run_sql)
unfolding understood everything
begin_is = (refl, (refl, refl))

abbrev pub run_query : Query
run_query = record query { from = inner 2 end; filter = is (col 1 0) (col 0 0) ∷ []; project = col 1 3 ∷ col 1 4 ∷ [] }

pub run_is : (command_of (understood schema_2 select_run_sql) ≡ select run_query (codes "total" ∷ codes "finished" ∷ [])) × (reads_listing schema_2 select_run_sql ≡ false) × IsPlain (understood schema_2 select_run_sql) × HasColumns 2 (understood schema_2 select_run_sql)
unfolding understood everything
run_is = (refl, refl, (refl, refl), (omega arith, refl))

abbrev pub finish_query : Query
finish_query = record query { from = inner 2 end; filter = is (col 1 0) (col 0 0) ∷ []; project = col 1 0 ∷ col 1 0 ∷ lit Null ∷ col 1 2 ∷ col 1 3 ∷ lit (Int (pos 1)) ∷ [] }

pub finish_is : (command_of (understood schema_2 finish_run_sql) ≡ Update 1 (record { lets = []; body = finish_query })) × IsPlain (understood schema_2 finish_run_sql)
unfolding understood everything
finish_is = (refl, (refl, refl))

abbrev pub runs_query : Query
runs_query = record query { from = inner 2 end; project = col 1 0 ∷ col 1 2 ∷ col 1 3 ∷ col 1 4 ∷ []; order = (col 1 0, ascending Binary) ∷ [] }

pub runs_select_is : (command_of (understood schema_2 select_runs_sql) ≡ select runs_query (codes "id" ∷ codes "started" ∷ codes "total" ∷ codes "finished" ∷ [])) × (reads_listing schema_2 select_runs_sql ≡ false) × IsPlain (understood schema_2 select_runs_sql) × HasColumns 4 (understood schema_2 select_runs_sql)
unfolding understood everything
runs_select_is = (refl, refl, (refl, refl), (omega arith, refl))

abbrev pub there_query : Query
there_query = record query {
  from = inner 3 end;
  filter = is (col 1 1) (col 0 0) ∷ is (col 1 2) (col 0 1) ∷ [];
  project = col 1 2 ∷ [];
  order = (col 1 2, ascending Binary) ∷ [];
}

pub there_is : (command_of (understood schema_2 select_entry_sql) ≡ select there_query (codes "position" ∷ [])) × (reads_listing schema_2 select_entry_sql ≡ false) × IsPlain (understood schema_2 select_entry_sql) × HasColumns 1 (understood schema_2 select_entry_sql)
unfolding understood everything
there_is = (refl, refl, (refl, refl), (omega arith, refl))

abbrev pub put_terms : List Term
put_terms = lit Null ∷ col 0 0 ∷ col 0 1 ∷ col 0 2 ∷ col 0 3 ∷ col 0 4 ∷ col 0 5 ∷ col 0 6 ∷ col 0 7 ∷ col 0 8 ∷ col 0 9 ∷ col 0 10 ∷ col 0 11 ∷ []

pub put_is : (command_of (understood schema_2 insert_entry_sql) ≡ Insert 2 (Values put_terms 13)) × IsPlain (understood schema_2 insert_entry_sql)
unfolding understood everything
put_is = (refl, (refl, refl))

abbrev pub pair_terms : List Term
pair_terms = lit Null ∷ col 0 0 ∷ col 0 1 ∷ col 0 2 ∷ col 0 3 ∷ col 0 4 ∷ []

pub pair_is : (command_of (understood schema_2 insert_prop_sql) ≡ Insert 3 (Values pair_terms 6)) × IsPlain (understood schema_2 insert_prop_sql)
unfolding understood everything
pair_is = (refl, (refl, refl))

abbrev pub pairs_query : Query
pairs_query = record query {
  from = inner 5 end;
  filter = is (col 1 1) (col 0 0) ∷ is (col 1 2) (col 0 1) ∷ [];
  project = col 1 4 ∷ col 1 5 ∷ [];
  order = (col 1 3, ascending Binary) ∷ [];
}

pub pairs_select_is : (command_of (understood schema_2 select_props_sql) ≡ select pairs_query (codes "name" ∷ codes "value" ∷ []))
    × (reads_listing schema_2 select_props_sql ≡ false) × IsPlain (understood schema_2 select_props_sql) × HasColumns 2 (understood schema_2 select_props_sql)
unfolding understood everything
pairs_select_is = (refl, refl, (refl, refl), (omega arith, refl))

abbrev pub entries_query : Query
entries_query = record query {
  from = inner 3 end;
  filter = is (col 1 1) (col 0 0) ∷ [];
  project = col 1 2 ∷ col 1 3 ∷ col 1 4 ∷ col 1 5 ∷ col 1 6 ∷ col 1 7 ∷ col 1 8 ∷ col 1 9 ∷ col 1 10 ∷ col 1 11 ∷ col 1 12 ∷ [];
  order = (col 1 2, ascending Binary) ∷ [];
}

pub entries_select_is : (command_of (understood schema_2 select_entries_sql)
    ≡ select entries_query (codes "position" ∷ codes "program" ∷ codes "case_name" ∷ codes "kind" ∷ codes "reason" ∷ codes "started" ∷ codes "millis" ∷ codes "body_out" ∷ codes "body_err" ∷ codes "clean_out" ∷ codes "clean_err" ∷ []))
    × (reads_listing schema_2 select_entries_sql ≡ false) × IsPlain (understood schema_2 select_entries_sql) × HasColumns 11 (understood schema_2 select_entries_sql)
unfolding understood everything
entries_select_is = (refl, refl, (refl, refl), (omega arith, refl))

pub number_is : IsPlain (understood schema_2 select_schema_sql)
unfolding understood everything
number_is = (refl, refl)

pub nothing_is : IsPlain (understood schema_2 (codes "SELECT 1"))
unfolding understood everything
nothing_is = (refl, refl)

abbrev pub meta_query : Query
meta_query = record query { from = inner 0 end; filter = is (col 1 1) (lit (Text (codes "schema"))) ∷ []; project = col 1 2 ∷ [] }

abbrev pub mark_terms : List Term
mark_terms = lit Null ∷ lit (Text (codes "schema")) ∷ lit (Int (pos 2)) ∷ []

pub mark_is : (command_of (understood schema_2 insert_schema_sql) ≡ Insert 0 (Values mark_terms 3)) × IsPlain (understood schema_2 insert_schema_sql)
unfolding understood everything
mark_is = (refl, (refl, refl))

abbrev pub raise_query : Query
raise_query = record query { from = inner 0 end; filter = is (col 1 1) (lit (Text (codes "schema"))) ∷ []; project = col 1 0 ∷ col 1 0 ∷ col 1 1 ∷ lit (Int (pos 2)) ∷ [] }

pub raise_is : (command_of (understood schema_2 update_schema_sql) ≡ Update 0 (record { lets = []; body = raise_query })) × IsPlain (understood schema_2 update_schema_sql)
unfolding understood everything
raise_is = (refl, (refl, refl))

-- ---- the compiled query for the schema number if other tables follow the table `meta`

pub meta_any : (others : List Table) (indexes : List Index) (views : List View)
    → (command_of (understood (schema_with_meta others indexes views) select_schema_sql) ≡ select meta_query (codes "value" ∷ [])) × (reads_listing (schema_with_meta others indexes views) select_schema_sql ≡ false) × IsPlain (understood (schema_with_meta others indexes views) select_schema_sql)
unfolding understood everything
meta_any others indexes views = (refl, refl, (refl, refl))
