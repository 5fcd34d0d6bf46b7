-- The result of the query for the schema number.
use Rattle.kt_store.proofs.Common.{RunsQuery, ReadsSchemaNumber, Bool, Database, Ghosts, HasCleanDisk, Held, IsSettledWhileOpen, Int, HasNoTables, IsPermutation, IsTrue, IsUnchanged, List, QueryMayCommit, None, IsUnchangedOrRolledBack, Row, Run, ListsSchemaNumber, StoresSchemaNumber, Schema, Shown, Some, StandsFor, RepresentsInSchema1, State, Survives, Term, Text, Value, [], ap, arith, schema_with_meta, binary, codes, col, column, drop, entries_table, filter, holds, index_of, inl, list_all, lit, map, meta_table, select_schema_sql, one_permutation, pos, props_table, reads_as, refl, runs_table, slice_get, state, subst, sym, true, understood, value_cmp, ℤ, ◌∙◌, ◌∷◌, ◌≡◌, ◌≢◌}
use Rattle.sqlite.specs.Given.{IsPlain}
use Rattle.kt_store.proofs.AskLemmas.{asked_unchanged, asked_leaves}
use Rattle.kt_store.proofs.StepLemmas.{same_settled}
use Rattle.kt_store.proofs.SqlFacts.{is, meta_any}
use Rattle.kt_store.proofs.QueryLemmas.{answered}

abbrev pub tests : List Term
tests = is (col 1 1) (lit (Text (codes "schema"))) ∷ []

abbrev pub passes : Row → Bool
passes r = list_all (holds ([] ∷ r ∷ [])) tests

abbrev shows : Row → Row
shows r = column r 2 ∷ []

pub passes_it : (n : ℤ) (x : Value) → passes (x ∷ Text (codes "schema") ∷ Int n ∷ []) ≡ true
unfolding binary value_cmp lib.Ieee.is_nan lib.Ieee.lt
passes_it n x = refl

-- a table whose only row, without its rowid, is that of the schema number has one row with some
-- rowid
pub one_row : (n : ℤ) (rows : List Row) → map (drop 1) rows ≡ (Text (codes "schema") ∷ Int n ∷ []) ∷ [] → (x : Value) × (rows ≡ (x ∷ Text (codes "schema") ∷ Int n ∷ []) ∷ [])
one_row n ((x ∷ r) ∷ []) is =
    let same : r ≡ Text (codes "schema") ∷ Int n ∷ [] = cc in
    (x, ap (λ l. (x ∷ l) ∷ []) same)
one_row n _ is = absurd cc

one_shown : (n : ℤ) (rows : List Row) → map (drop 1) rows ≡ (Text (codes "schema") ∷ Int n ∷ []) ∷ [] → map shows (filter passes rows) ≡ (Int n ∷ []) ∷ []
one_shown n rows h = let it = one_row n rows h in subst (λ l. map shows (filter passes l) ≡ (Int n ∷ []) ∷ []) (sym it.1) (rw (passes_it n it.0) refl)

pub tells_meta : (old new : State) (n : ℤ) (rows : List Row) → ListsSchemaNumber n old → Shown select_schema_sql [] old new rows → rows ≡ (Int n ∷ []) ∷ []
tells_meta old new n rows it h =
    let means = meta_any it.others it.indexes it.views in
    let reads = reads_as select_schema_sql [] old new (schema_with_meta it.others it.indexes it.views) it.schema _ means.0 means.2 means.1 rows h in
    let all = answered 0 tests (col 1 2 ∷ []) [] old.now.trees [] rows reads.answer in
    one_permutation (Int n ∷ []) rows (subst (λ l. IsPermutation l rows) (one_shown n (old.now.trees 0) it.marked) all)

says_then : (old mid : State) (n : ℤ) → mid.now ≡ old.now → ListsSchemaNumber n old → ListsSchemaNumber n mid
says_then old mid n same has = record {
  others = has.others;
  indexes = has.indexes;
  views = has.views;
  schema = ap (λ (db : Database). db.schema) same ∙ has.schema;
  marked = ap (λ (db : Database). map (drop 1) (db.trees 0)) same ∙ has.marked;
}

pub says_plain : (n : ℤ) (s : State) → StoresSchemaNumber n s → HasCleanDisk s → IsTrue s.is_open → IsPlain (understood s.now.schema select_schema_sql)
says_plain n s says clean opened =
    let it = says clean opened in
    subst (λ schema. IsPlain (understood schema select_schema_sql)) (sym it.schema) (meta_any it.others it.indexes it.views).2

module _ {S : Type 0} (g : Ghosts S) (old new : Held S) (earlier : HasCleanDisk (state g new) → HasCleanDisk (state g old)) where
  pub asked_meta : (n : ℤ) (rows : List Row) → StoresSchemaNumber n (state g old) → HasCleanDisk (state g new) → RunsQuery g select_schema_sql [] old new rows → rows ≡ (Int n ∷ []) ∷ []
  asked_meta n rows says clean it =
      let same = it.same.0.now_is in
      let has = says (earlier clean) it.same.0.was_open in
      tells_meta (state g it.mid) (state g new) n rows (says_then (state g old) (state g it.mid) n same has) it.shown

-- the state of a connection after a query for the schema number, for any result
module _ {S : Type 0} (g : Ghosts S) (old new : Held S) (survives : Survives (state g old) (state g new) (QueryMayCommit g select_schema_sql [] old)) where
  earlier : HasCleanDisk (state g new) → HasCleanDisk (state g old)
  earlier k = omega (arith, k, survives.clean)

  pub asks_number : ((n : ℤ) → StoresSchemaNumber n (state g old) → HasCleanDisk (state g new) → IsUnchangedOrRolledBack (state g old) (state g new)) → ReadsSchemaNumber g old new
  asks_number rests = record {
    earlier = earlier;
    rests = rests;
    crash = λ n says. asked_leaves g old new earlier select_schema_sql (says_plain n _ says) [] survives;
  }

  pub tells_number : (rows : List Row) → (HasCleanDisk (state g new) → RunsQuery g select_schema_sql [] old new rows) → ReadsSchemaNumber g old new
  tells_number rows asked = asks_number (λ n says clean. inl (asked_unchanged g old new earlier select_schema_sql (says_plain n _ says) [] rows clean (asked clean)))

pub says_two : (s : State) (runs : List Run) → StandsFor s runs → StoresSchemaNumber (pos 2) s
says_two s runs has clean opened = record {
  others = runs_table ∷ entries_table ∷ props_table ∷ [];
  indexes = index_of meta_table 1 ∷ index_of entries_table 4 ∷ index_of props_table 6 ∷ [];
  views = [];
  schema = (has clean opened).tables.schema;
  marked = (has clean opened).tables.marked;
}

pub says_one : (s : State) (runs : List Run) → RepresentsInSchema1 s runs → StoresSchemaNumber (pos 1) s
says_one s runs has clean opened = record {
  others = runs_table ∷ entries_table ∷ [];
  indexes = index_of meta_table 1 ∷ index_of entries_table 4 ∷ [];
  views = [];
  schema = (has clean opened).tables.schema;
  marked = (has clean opened).tables.marked;
}

-- the first row of the query has the schema number
pub row_is : (n : ℤ) (rows : List Row) (first : Row) → rows ≡ (Int n ∷ []) ∷ [] → slice_get rows 0 ≡ Some first → first ≡ Int n ∷ []
row_is n rows row are first =
    let e : Some (Int n ∷ []) ≡ Some row = sym (ap (λ l. slice_get l 0) are) ∙ first in
    cc

-- the value that was read from the first row is the schema number
pub read_it : (n m : ℤ) (first : Row) → first ≡ Int n ∷ [] → column first 0 ≡ Int m → m ≡ n
read_it n m first is read =
    let got : Int n ≡ Int m = sym (ap (λ (r : Row). column r 0) is) ∙ read in
    cc

pub some_row : (n : ℤ) (rows : List Row) → rows ≡ (Int n ∷ []) ∷ [] → slice_get rows 0 ≢ None
some_row n rows are none = let e : Some (Int n ∷ []) ≡ None = sym (ap (λ l. slice_get l 0) are) ∙ none in cc

-- facts about a state hold after an unchanged state
module _ (old mid : State) (earlier : HasCleanDisk mid → HasCleanDisk old) (same : HasCleanDisk mid → IsUnchanged old mid) where
  pub still_says : (n : ℤ) → StoresSchemaNumber n old → StoresSchemaNumber n mid
  still_says n says clean opened =
      let it = same clean in
      let has = says (earlier clean) it.0.was_open in
      says_then old mid n it.0.now_is has

  pub still_holds : (P : Database → Type 0) → IsSettledWhileOpen P old → IsSettledWhileOpen P mid
  still_holds P has clean opened = same_settled P old mid (has (earlier clean) (same clean).0.was_open) (same clean)

  pub says_filled : (n : ℤ) → StoresSchemaNumber n old → HasCleanDisk mid → mid.now.schema.tables ≢ []
  says_filled n says clean none =
      let it = same clean in
      let has = says (earlier clean) it.0.was_open in
      let e : meta_table ∷ has.others ≡ [] = sym (ap (λ (db : Database). db.schema.tables) it.0.now_is ∙ ap (λ (s : Schema). s.tables) has.schema) ∙ none in
      cc

  pub empty_blank : HasNoTables old → HasCleanDisk mid → mid.now.schema.tables ≡ []
  empty_blank empty clean =
      let it = same clean in
      ap (λ (db : Database). db.schema.tables) it.0.now_is ∙ ap (λ (s : Schema). s.tables) (empty (earlier clean) it.0.was_open).tables
