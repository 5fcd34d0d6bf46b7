-- The effect of the statements that insert an entry and its properties.
use Rattle.kt_store.proofs.Common.{AllByRecursion, Applies, AreValidRuns, IsValidWithEntry, Chosen, Database, Enforced, Entry, Executes, Ghosts, HasCleanDisk, HasEncodableTexts, Held, Insert, Int, IsDatabase, IsEncodableProperty, IsPermutation, IsPermutation-cons, IsPermutation-map, IsPermutation-middle, IsPermutation-sym, IsPermutation-trans, IsTrue, List, None, Ok, Row, Run, ExecutesInOrder, StandsFor, State, Statement, IsSchema2Database, Text, Values, Variable, Writes, [], and_parts, ap, are_fresh, arith, begun, cast_row, codes, drop, edit_of, entries_table, entry_row, entry_rows, entry_statements, false, is_taken, kind_code, length, map, mode_of, next_rowid, not, not-true, numbered, pair_row, pair_rows, pair_rows_from, pair_statements, insert_prop_sql, pos, prop_rows, props_table, put_all, put_row, insert_entry_sql, refl, run_row, runs_as, schema_2, state, statement_of, subst, suc, sym, true, understood, value_rows, with_entry, ℕ, ◌++◌, ◌+◌, ◌∙◌, ◌∷◌, ◌≡◌}
use Rattle.kt_store.proofs.SqlFacts.{put_is, put_terms, pair_is, pair_terms}
use Rattle.kt_store.proofs.InsertLemmas.{changed}
use Rattle.kt_store.proofs.RunsByNumber.{entry_unseen}
use Rattle.kt_store.proofs.PutLemmas.{put_beside, more_rows, put_rows, put_works, more_pairs}
use Rattle.kt_store.proofs.EntryLemmas.{back}
use Rattle.kt_store.proofs.Numbered.{numbers_entry}
use Rattle.kt_store.proofs.Values.{cast_int, cast_null}

-- `HasRows runs entries props db`: `db` has schema 2, the rows of `runs`, and the rows `entries`
-- and `props` in the other tables
pub record HasRows (runs : List Run) (entries props : List Row) (db : Database) : Type 0 where
  pub schema : db.schema ≡ schema_2
  pub marked : map (drop 1) (db.trees 0) ≡ (Text (codes "schema") ∷ Int (pos 2) ∷ []) ∷ []
  pub runs_are : db.trees 2 ≡ map run_row runs
  pub entries_are : IsPermutation entries (map (drop 1) (db.trees 3))
  pub props_are : IsPermutation props (map (drop 1) (db.trees 5))

-- a new row with a new rowid is added to the stored rows
one_more : (stored : List Row) (rows : List Row) (new row : Row) → drop 1 new ≡ row → is_taken stored new ≡ false → IsPermutation rows (map (drop 1) stored) → IsPermutation (row ∷ rows) (map (drop 1) (put_row new stored))
one_more stored rows new row bare free have =
    let beside = IsPermutation-map (drop 1) (new ∷ stored) (put_row new stored) (put_beside new stored free) in
    IsPermutation-trans _ _ _ (IsPermutation-cons row rows (map (drop 1) stored) have) (subst (λ x. IsPermutation (x ∷ map (drop 1) stored) (map (drop 1) (put_row new stored))) bare beside)

-- new rows with new rowids are added to the stored rows
rows_more : (stored new rows : List Row) → are_fresh stored (numbered Chosen stored (map back new)) ≡ true → IsPermutation rows (map (drop 1) stored)
    → IsPermutation (new ++ rows) (map (drop 1) (put_all stored (numbered Chosen stored (map back new))))
rows_more stored [] rows fresh have = have
rows_more stored (r ∷ new) rows fresh have =
    let row : Row = Int (next_rowid stored) ∷ r in
    let both = and_parts (not (is_taken stored row)) (are_fresh (put_row row stored) (numbered Chosen (put_row row stored) (map back new))) fresh in
    IsPermutation-trans _ _ _ (IsPermutation-sym _ _ (IsPermutation-middle new r rows)) (rows_more (put_row row stored) new (r ∷ rows) both.1 (one_more stored rows row r refl (not-true (is_taken stored row) both.0) have))

-- `HasRows` ignores the order of the rows in `props`
moved : (runs : List Run) (entries props more : List Row) (db : Database) → IsPermutation more props → HasRows runs entries props db → HasRows runs entries more db
moved runs entries props more db same has = record {
  schema = has.schema;
  marked = has.marked;
  runs_are = has.runs_are;
  entries_are = has.entries_are;
  props_are = IsPermutation-trans _ _ _ same has.props_are;
}

-- the rows after an insertion of an entry or of properties that obeys the rules of the schema
module _ (runs : List Run) (entries props : List Row) (db after : Database) (has : HasRows runs entries props db) (schema_is : after.schema ≡ schema_2) where
  pub entry_from_row : (n : ℕ) (e : Entry) → Applies schema_2 Enforced db.trees (edit_of db.trees entries_table [] Chosen 0 (put_rows n e)) after.trees → HasRows runs (entry_row n e ∷ entries) props after
  entry_from_row n e applies =
      let news_are : (edit_of db.trees entries_table [] Chosen 0 (put_rows n e)).news ≡ numbered Chosen (db.trees 3) (map back (entry_row n e ∷ [])) =
      rw (cast_null, cast_int (pos n), cast_int (pos e.position), cast_int (pos (kind_code e.verdict.kind)), cast_int (pos e.started), cast_int (pos e.millis)) refl in
      record {
        schema = schema_is;
        marked = ap (map (drop 1)) (applies.tables.0 (λ e. cc)) ∙ has.marked;
        runs_are = applies.tables.1.0 (λ e. cc) ∙ has.runs_are;
        entries_are = subst (λ l. IsPermutation (entry_row n e ∷ entries) (map (drop 1) l)) (sym (applies.rows ∙ ap (put_all (db.trees 3)) news_are))
            (rows_more (db.trees 3) (entry_row n e ∷ []) entries (subst (λ news. are_fresh (db.trees 3) news ≡ true) news_are applies.fresh) has.entries_are);
        props_are = subst (λ l. IsPermutation props (map (drop 1) l)) (sym (applies.tables.1.1.1.0 (λ e. cc))) has.props_are;
      }

  pub pairs_from_rows : (sources rows : List Row) → map (λ s. cast_row props_table (drop 0 s)) sources ≡ map back rows → Applies schema_2 Enforced db.trees (edit_of db.trees props_table [] Chosen 0 sources) after.trees → HasRows runs entries (rows ++ props) after
  pairs_from_rows sources rows rows_are applies =
      let news_are : (edit_of db.trees props_table [] Chosen 0 sources).news ≡ numbered Chosen (db.trees 5) (map back rows) = ap (numbered Chosen (db.trees 5)) rows_are in
      record {
        schema = schema_is;
        marked = ap (map (drop 1)) (applies.tables.0 (λ e. cc)) ∙ has.marked;
        runs_are = applies.tables.1.0 (λ e. cc) ∙ has.runs_are;
        entries_are = subst (λ l. IsPermutation entries (map (drop 1) l)) (sym (applies.tables.1.1.0 (λ e. cc))) has.entries_are;
        props_are = subst (λ l. IsPermutation (rows ++ props) (map (drop 1) l)) (sym (applies.rows ∙ ap (put_all (db.trees 5)) news_are))
            (rows_more (db.trees 5) rows props (subst (λ news. are_fresh (db.trees 5) news ≡ true) news_are applies.fresh) has.props_are);
      }

module _ (runs : List Run) (entries props : List Row) (old new : State) (count : ℕ) (has : HasRows runs entries props old.now) where
  pub put_inside : (n : ℕ) (e : Entry) → Executes insert_entry_sql (entry_row n e) old new (Ok count) → HasRows runs (entry_row n e ∷ entries) props new.now × IsDatabase new.now
  put_inside n e h =
      let text = statement_of insert_entry_sql (understood schema_2 insert_entry_sql) in
      let w : Writes old new None (Insert 2 (Values put_terms 13)) text (entry_row n e) count = runs_as insert_entry_sql (entry_row n e) old new schema_2 has.schema (Insert 2 (Values put_terms 13)) put_is.0 put_is.1 count h in
      let did = changed schema_2 2 entries_table put_terms 13 refl refl refl put_works old.step_limit (mode_of old) (entry_row n e) old.now new.now text w.tally refl has.schema w.changed in
      (entry_from_row runs entries props old.now new.now has did.schema_is n e did.applies, w.sound)

  pair_inside : (n p k : ℕ) (v : Variable) → Executes insert_prop_sql (pair_row n p k v) old new (Ok count) → HasRows runs entries (pair_row n p k v ∷ props) new.now × IsDatabase new.now
  pair_inside n p k v h =
      let params = pair_row n p k v in
      let text = statement_of insert_prop_sql (understood schema_2 insert_prop_sql) in
      let w : Writes old new None (Insert 3 (Values pair_terms 6)) text params count = runs_as insert_prop_sql params old new schema_2 has.schema (Insert 3 (Values pair_terms 6)) pair_is.0 pair_is.1 count h in
      let did = changed schema_2 3 props_table pair_terms 6 refl refl refl (λ _ _. refl) old.step_limit (mode_of old) params old.now new.now text w.tally refl has.schema w.changed in
      (pairs_from_rows runs entries props old.now new.now has did.schema_is (value_rows params 6 1 pair_terms) (params ∷ []) (rw (cast_null, cast_int (pos n), cast_int (pos p), cast_int (pos k)) refl) did.applies, w.sound)

module _ {S : Type 0} (g : Ghosts S) (runs : List Run) (entries : List Row) (n p : ℕ) where
  pairs_inside : (k : ℕ) (vs : List Variable) (props : List Row) (old new : Held S) → HasRows runs entries props (state g old).now → IsDatabase (state g old).now
      → ExecutesInOrder g (pair_statements n p k vs) old new → HasRows runs entries (pair_rows_from n p k vs ++ props) (state g new).now × IsDatabase (state g new).now
  pairs_inside k [] props old new has sound is = subst (λ h. HasRows runs entries props (state g h).now × IsDatabase (state g h).now) (sym is) (has, sound)
  pairs_inside k (v ∷ vs) props old new has sound ran =
      let one = pair_inside runs entries props (state g old) (state g ran.0) ran.1.0 has n p k v ran.1.1.0 in
      let all = pairs_inside (suc k) vs (pair_row n p k v ∷ props) ran.0 new one.0 one.1 ran.2 in
      (moved runs entries _ _ (state g new).now (IsPermutation-sym _ _ (IsPermutation-middle (pair_rows_from n p (suc k) vs) (pair_row n p k v) props)) all.0, all.1)

-- the texts of inserted properties are representable in UTF-8
module _ {S : Type 0} (g : Ghosts S) (n p : ℕ) where
  pairs_spelled : (k : ℕ) (vs : List Variable) (old new : Held S) → ExecutesInOrder g (pair_statements n p k vs) old new → AllByRecursion IsEncodableProperty vs
  pairs_spelled k [] old new ran = tt
  pairs_spelled k (v ∷ vs) old new ran = ((ran.1.2.0, ran.1.2.1.0), pairs_spelled (suc k) vs ran.0 new ran.2)

-- the tables of runs meet `HasRows`; with the rows of a new entry they are the tables of the runs
-- with this entry
pub rows_of : (runs : List Run) (db : Database) → IsSchema2Database db runs → HasRows runs (entry_rows runs) (prop_rows runs) db
rows_of runs db has = record { schema = has.schema; marked = has.marked; runs_are = has.runs_are; entries_are = has.entries_are; props_are = has.props_are }

pub tables_of : (runs : List Run) (run : ℕ) (e : Entry) → IsValidWithEntry run e runs → HasEncodableTexts e → AreValidRuns runs → (db : Database)
    → HasRows runs (entry_row run e ∷ entry_rows runs) (pair_rows run e ++ prop_rows runs) db → IsSchema2Database db (with_entry run e runs)
tables_of runs run e fits texts were db has =
    let number : 1 + fits.0 ≡ run = omega (arith, fits.1) in
    let rows : IsPermutation (entry_row run e ∷ entry_rows runs) (entry_rows (with_entry run e runs)) =
    subst (λ n. IsPermutation (entry_row n e ∷ entry_rows runs) (entry_rows (with_entry n e runs))) number (more_rows 1 fits.0 e runs were.numbered fits.2) in
    let pairs : IsPermutation (pair_rows run e ++ prop_rows runs) (prop_rows (with_entry run e runs)) =
    subst (λ n. IsPermutation (pair_rows n e ++ prop_rows runs) (prop_rows (with_entry n e runs))) number (more_pairs 1 fits.0 e runs were.numbered fits.2) in
    record {
      schema = has.schema;
      marked = has.marked;
      runs_are = has.runs_are ∙ sym (entry_unseen (map run_row) (λ r more. run_row r ∷ more) (λ r rs. refl) run e (λ r more. refl) runs);
      entries_are = IsPermutation-trans _ _ _ (IsPermutation-sym _ _ rows) has.entries_are;
      props_are = IsPermutation-trans _ _ _ (IsPermutation-sym _ _ pairs) has.props_are;
      valid = record { numbered = numbers_entry run e 1 runs were.numbered; each = fits.3 texts; few = omega (arith, were.few, entry_unseen length (λ r n. suc n) (λ r rs. refl) run e (λ r n. refl) runs) };
    }

module _ {S : Type 0} (g : Ghosts S) where
  -- the texts of an inserted entry are representable in UTF-8
  spelled : (n : ℕ) (e : Entry) (old new : Held S) → ExecutesInOrder g (entry_statements n e) old new → HasEncodableTexts e
  spelled n e old new ran = (ran.1.2.0, ran.1.2.1.0, ran.1.2.1.1.0, pairs_spelled g n e.position 0 e.meta ran.0 new ran.2)

  -- the tables after the insertion of an entry and its properties represent the runs with the entry
  filled : (runs : List Run) (e : Entry) (run : ℕ) → IsValidWithEntry run e runs → (old new : Held S) → IsSchema2Database (state g old).now runs → ExecutesInOrder g (entry_statements run e) old new
      → IsSchema2Database (state g new).now (with_entry run e runs) × IsDatabase (state g new).now
  filled runs e run fits old new has ran =
      let one = put_inside runs (entry_rows runs) (prop_rows runs) (state g old) (state g ran.0) ran.1.0 (rows_of runs (state g old).now has) run e ran.1.1.0 in
      let all = pairs_inside g runs (entry_row run e ∷ entry_rows runs) run e.position 0 e.meta (prop_rows runs) ran.0 new one.0 one.1 ran.2 in
      (tables_of runs run e fits (spelled run e old new ran) has.valid (state g new).now all.0, all.1)

  -- the tables after the insertion in a new transaction represent the runs with the entry
  pub entry_made : (runs : List Run) (e : Entry) (run : ℕ) (old : Held S) → StandsFor (state g old) runs → (HasCleanDisk (state g old) → IsValidWithEntry run e runs) → HasCleanDisk (state g old) → (left : Held S)
      → ExecutesInOrder g (entry_statements run e) (begun old) left → IsSchema2Database (state g left).now (with_entry run e runs) × IsDatabase (state g left).now
  entry_made runs e run old has fits clean left ran = filled runs e run (fits clean) (begun old) left (has clean ran.1.1.1.was_open).tables ran

  -- statements executed inside a transaction leave it open
  pub in_turn : (statements : List Statement) (old new : Held S) → ExecutesInOrder g statements old new → IsTrue (state g old).in_transaction → IsTrue (state g new).in_transaction
  in_turn [] old new is inside = subst (λ h. IsTrue (state g h).in_transaction) (sym is) inside
  in_turn (s ∷ others) old new ran inside = in_turn others ran.0 new ran.2 ran.1.1.1.mode
