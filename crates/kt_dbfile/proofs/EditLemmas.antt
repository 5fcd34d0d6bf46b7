-- The conditions of a write on a store that obeys its schema, and the tables of runs after its
-- rows.
use Rattle.kt_dbfile.proofs.Common.{AreNumbered, IsValidWithEntry, Chosen, Database, Enforced, Entry, WritesEntryRows, Fits, ForeignKey, Given, IsCatalogOf, IsComplete, IsListed, IsOrdered, IsSound, IsSchema2Of, List, Lists, None, ObeysSchema, PutsRows, Refers, Row, Run, Schema, Some, IsSchema2Database, Tally, Trees, Variable, View, [], all_from, ap, ap₂, arith, new_run_row, cast_row, catalog_tree, finished_run_row, drop, edit_of, entries_table, entry_row, entry_rows, false, finish, get_or, ids_of, last_id, length, lists_once, map, nat_tests, new_run, nothing_logged, one_step, pair_row, pair_rows, pair_rows_from, pos, prop_rows, props_table, refl, run_at, runs_table, schema_2, subst, suc, sym, take, true, row_without_rowid, with_entry, works, zero, ℕ, ℤ, ◌++◌, ◌+◌, ◌<◌, ◌==◌, ◌∙◌, ◌∷◌, ◌≡◌, ◌≤◌}
use Rattle.sqlite_sql.specs.declared.query.Index.{Index}
use Rattle.sqlite_exec.specs.Calls.{OnlyReads}
use Rattle.sqlite_schema.specs.declared.schema.Among.TheVariants.{All}
use Rattle.sqlite_rules.specs.Calls.{IsSetUp, HasReals, Advances}
use Rattle.sqlite_rules.specs.Log.{Accounts}
use Rattle.sqlite_rules.specs.declared.edit.Touched.{Touched}
use Rattle.sqlite_rules.proofs.RuleLemmas.{obeyed, fits_obeyed}
use Rattle.sqlite_catalog.specs.Calls.{Serves}
use Rattle.sqlite_catalog.proofs.LayoutLemmas.{set_up, table_reals_are, index_reals_are, objects_rise, table_shape, index_shape}
use Rattle.kt_store.proofs.BeginLemmas.{begin_params, begin_works, begun}
use Rattle.kt_store.proofs.CloseLemmas.{finish_in}
use Rattle.kt_store.proofs.EntryLemmas.{back}
use Rattle.kt_store.proofs.FillLemmas.{entry_from_row, pairs_from_rows, rows_of, tables_of}
use Rattle.kt_store.proofs.FinishLemmas.{finish_works}
use Rattle.kt_store.proofs.PutLemmas.{put_rows, put_works}
use Rattle.kt_store.proofs.RunsByNumber.{number_at}
use Rattle.kt_store.proofs.Values.{cast_int, cast_null}

-- `numbered v`: the view `v` as if its trees were numbered, which no clause of a write requires
abbrev numbered : View → View
numbered v = record v { is_numbered = true }

module _ (v : View) (schema : Schema) (stands : ObeysSchema v schema) (listed : IsListed (v.trees catalog_tree) v.shape v.reals) (ordered : IsOrdered v.shape v.trees) where
  serves : Serves (numbered v) schema
  serves = record { unbroken = stands.unbroken; numbered = refl; sound = record { lists = stands.sound.lists; obeys = fits_obeyed schema v.trees stands.sound.obeys } }

  pub is_set_up : (catalog : List Index) → IsCatalogOf schema catalog → IsSetUp v schema catalog
  is_set_up catalog lists = let s = set_up (numbered v) schema catalog serves listed ordered lists in record { sound = s.sound; laid_out = s.laid_out; lists = s.lists }

  pub has_reals : HasReals v schema
  has_reals = record { tables = table_reals_are serves listed ordered; indexes = index_reals_are serves listed ordered }

  pub fits : Fits schema v.trees
  fits = fits_obeyed schema v.trees stands.sound.obeys

  module _ (new : View) (log : List Touched) (advances : Advances schema v new [] log) where
    beyond : (t : ℕ) → 65536 ≤ t → new.trees t ≡ v.trees t
    beyond t high =
        let rise = (objects_rise v listed ordered).0 in
        let are = stands.sound.lists.listed in
        advances.others t (all_from _ schema.tables (λ u h e. omega (arith, (table_shape listed rise are u h).2)))
        (all_from _ schema.indexes (λ i h e. omega (arith, (index_shape listed rise are i h).2)))

    pub accounted : Accounts All schema log new.trees
    accounted = advances.accounts All (nothing_logged All schema v.trees (stands.sound.obeys.rules ForeignKey))

    pub still_stands : Refers All schema new.trees → ObeysSchema new schema
    still_stands refers = record {
      unbroken = ap (λ (w : View). w.is_broken) advances.frame ∙ stands.unbroken;
      sound = record { lists = subst (λ rows. Lists rows schema) (sym (beyond catalog_tree (omega arith))) stands.sound.lists; obeys = obeyed schema new.trees advances.fits refers };
    }

pub stands_again : (a b : View) (schema : Schema) → OnlyReads a b → ObeysSchema a schema → ObeysSchema b schema
stands_again a b schema same stands =
    let trees = ap (λ (v : View). v.trees) same in
    record { unbroken = ap (λ (v : View). v.is_broken) same ∙ stands.unbroken; sound = rw trees stands.sound }

-- ---- the tables of runs after rows are written by the rules of the schema

abbrev in_trees : Trees → Database
in_trees trees = record { schema = schema_2; trees = trees }

-- writing pairs causes no work for foreign keys, since none refers to the table of pairs
props_works : (olds news : List Row) → works schema_2 Enforced 0 5 olds news ≡ []
props_works olds [] = refl
props_works olds (x ∷ news) = let some : (length (x ∷ news) == 0) ≡ false = grind (arith, nat_tests) in rw some refl

-- the trees of a database with runs are the trees of its tables, and list only its schema
pub tables_in : (runs : List Run) (trees : Trees) → IsSchema2Of runs trees → IsSchema2Database (in_trees trees) runs
tables_in runs trees k = subst (λ (db : Database). IsSchema2Database db runs) (ap₂ (λ (s : Schema) (t : Trees). record { schema = s; trees = t }) k.3.schema (sym k.2)) k.3

pub sound_in : (runs : List Run) (trees : Trees) → IsSchema2Of runs trees → IsSound schema_2 trees
sound_in runs trees k = subst (λ s. IsSound s trees) k.3.schema (subst (IsSound k.0.schema) (sym k.2) k.1)

pub schema_is : (schema : Schema) (runs : List Run) (trees : Trees) → IsSound schema trees → IsSchema2Of runs trees → schema ≡ schema_2
schema_is schema runs trees sound k = lists_once (trees catalog_tree) schema schema_2 sound.lists (sound_in runs trees k).lists

keeps_in : (runs : List Run) (schema : Schema) (trees : Trees) → schema ≡ schema_2 → IsSound schema trees → IsSchema2Database (in_trees trees) runs → IsSchema2Of runs trees
keeps_in runs schema trees is sound has = (in_trees trees, subst (λ s. IsSound s trees) is sound, refl, has)

module _ (schema : Schema) (runs : List Run) (old new : Trees) (was : IsSound schema old) (sound : IsSound schema new) (kept : IsSchema2Of runs old) where
  ours : schema ≡ schema_2
  ours = schema_is schema runs old was kept

  pub run_made : (total started : ℕ) → length runs < 1000000 → total < 4294967296 → PutsRows schema 1 [] Chosen 0 (new_run_row total started ∷ []) old new → IsSchema2Of (runs ++ new_run runs total started ∷ []) new
  run_made total started room small puts =
      let writes = subst (λ (s : Schema). PutsRows s 1 [] Chosen 0 (new_run_row total started ∷ []) old new) ours puts runs_table refl in
      let edit = edit_of old runs_table [] Chosen 0 (new_run_row total started ∷ []) in
      let tally : Tally = record { rows = None; last = last_id edit.news; shown = []; in_doubt = false } in
      keeps_in (runs ++ new_run runs total started ∷ []) schema new ours sound
      (begun runs total started (in_trees old) (in_trees new) tally (tables_in runs old kept) room small
      (record { schema_is = refl; applies = one_step schema_2 Enforced old new edit (begin_works (begin_params total started) old) writes; last_is = refl }))

  run_finished : (run : ℕ) (r : Run) → run_at runs run ≡ Some r → IsComplete run runs → PutsRows schema 1 (ids_of (finished_run_row r ∷ [])) Given 1 (finished_run_row r ∷ []) old new → IsSchema2Of (finish run runs) new
  run_finished zero r there whole puts = absurd cc
  run_finished (suc k) r there whole puts =
      let writes = subst (λ (s : Schema). PutsRows s 1 (ids_of (finished_run_row r ∷ [])) Given 1 (finished_run_row r ∷ []) old new) ours puts runs_table refl in
      let same : whole.1 ≡ r = let e : Some whole.1 ≡ Some r = sym whole.3 ∙ there in cc in
      let edit = edit_of old runs_table (ids_of (finished_run_row r ∷ [])) Given 1 (finished_run_row r ∷ []) in
      keeps_in (finish (suc k) runs) schema new ours sound
      (finish_in runs k r there (subst (λ (x : Run). length x.entries ≡ x.total) same whole.4) (in_trees old) (in_trees new) (tables_in runs old kept) refl
      (one_step schema_2 Enforced old new edit (finish_works r old) writes))

  pub finished_by : (run : ℕ) (r : Run) → run_at runs run ≡ Some r → IsComplete run runs → (mid : Trees) (gone : List ℤ) (done : Row) → mid ≡ old → done ≡ finished_run_row r → gone ≡ pos r.number ∷ []
      → PutsRows schema 1 gone Given 1 (done ∷ []) mid new → IsSchema2Of (finish run runs) new
  finished_by run r there whole mid gone done same is ids puts =
      run_finished run r there whole (subst (λ (l : List ℤ). PutsRows schema 1 l Given 1 (finished_run_row r ∷ []) old new) ids (subst (λ (x : Row). PutsRows schema 1 gone Given 1 (x ∷ []) old new) is (subst (λ (t : Trees). PutsRows schema 1 gone Given 1 (done ∷ []) t new) same puts)))

  -- the rows of pairs are stored as they are
  cast_pairs : (n p j : ℕ) (vs : List Variable) → map (λ s. cast_row props_table (drop 0 s)) (map row_without_rowid (pair_rows_from n p j vs)) ≡ map back (pair_rows_from n p j vs)
  cast_pairs n p j [] = refl
  cast_pairs n p j (v ∷ vs) = ap₂ (λ x xs. x ∷ xs) (rw (cast_null, cast_int (pos n), cast_int (pos p), cast_int (pos j)) refl) (cast_pairs n p (suc j) vs)

  pub entry_filled : (run : ℕ) (e : Entry) → IsValidWithEntry run e runs → WritesEntryRows schema run e old new → IsSchema2Of (with_entry run e runs) new
  entry_filled run e fits fills =
      let mid = fills.1.0 in
      let first = subst (λ (s : Schema). PutsRows s 2 [] Chosen 0 (row_without_rowid (entry_row run e) ∷ []) old mid) ours fills.1.1 entries_table refl in
      let second = subst (λ (s : Schema). PutsRows s 3 [] Chosen 0 (map row_without_rowid (pair_rows run e)) mid new) ours fills.1.2 props_table refl in
      let has = tables_in runs old kept in
      let one = entry_from_row runs (entry_rows runs) (prop_rows runs) (in_trees old) (in_trees mid) (rows_of runs (in_trees old) has) refl run e
      (one_step schema_2 Enforced old mid (edit_of old entries_table [] Chosen 0 (put_rows run e)) (put_works (entry_row run e) old) first) in
      let all = pairs_from_rows runs (entry_row run e ∷ entry_rows runs) (prop_rows runs) (in_trees mid) (in_trees new) one refl (map row_without_rowid (pair_rows run e)) (pair_rows run e) (cast_pairs run e.position 0 e.meta)
      (one_step schema_2 Enforced mid new (edit_of mid props_table [] Chosen 0 (map row_without_rowid (pair_rows run e))) (props_works [] (edit_of mid props_table [] Chosen 0 (map row_without_rowid (pair_rows run e))).news) second) in
      keeps_in (with_entry run e runs) schema new ours sound (tables_of runs run e fits fills.0 has.valid (in_trees new) all)

pub number_is : (run : ℕ) (runs : List Run) (r : Run) → AreNumbered 1 runs → run_at runs run ≡ Some r → r.number ≡ run
number_is zero runs r h there = absurd cc
number_is (suc k) runs r h there = number_at 1 k runs r h there ∙ omega arith

-- ---- the rows of pairs, one by one

pub pairs_taken : (n p j i : ℕ) (vs : List Variable) (v : Variable) → i < length vs → v ≡ get_or vs i v
    → map row_without_rowid (pair_rows_from n p j (take (suc i) vs)) ≡ map row_without_rowid (pair_rows_from n p j (take i vs)) ++ row_without_rowid (pair_row n p (j + i) v) ∷ []
pairs_taken n p j i [] v low is = absurd (omega (arith, low))
pairs_taken n p j zero (w ∷ vs) v low is = ap₂ (λ (x : Variable) (k : ℕ). row_without_rowid (pair_row n p k x) ∷ []) (sym is) (omega arith)
pairs_taken n p j (suc i) (w ∷ vs) v low is =
    ap (λ l. row_without_rowid (pair_row n p j w) ∷ l) (pairs_taken n p (suc j) i vs v (omega (arith, low)) is ∙ ap (λ (k : ℕ). map row_without_rowid (pair_rows_from n p (suc j) (take i vs)) ++ row_without_rowid (pair_row n p k v) ∷ []) (omega arith))
