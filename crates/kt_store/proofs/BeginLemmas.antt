-- The effect of the INSERT of `begin`.
use Rattle.kt_store.proofs.Common.{AreNumbered, Chosen, Command, Database, Does, Enforced, Ghosts, HasCleanDisk, Held, Insert, Int, IsDatabase, IsValidRun, IsSettledWithRuns, IsTrue, IsSchema2Of, Leaves, Less, List, StatementMayCommit, Mode, None, Ok, Option, Row, Run, Some, StandsFor, State, IsSchema2Database, Tally, RunsStatement, Trees, Values, [], all-append, ap, append-nil, arith, insert_run_sql, drop, edit_of, entry_row, entry_rows, flat_map, fold, id_in, inl, inr, ints, last_id, length, length-append, map, map-append, new_run, next_rowid, pair_rows, pos, prop_rows, put_all, put_row, refl, rowid, run_row, runs_table, schema_2, state, subst, suc, sym, taken_by, unwrap_or, value_cmp, value_rows, works, ℕ, ℤ, ◌++◌, ◌+ℤ◌, ◌+◌, ◌<◌, ◌∙◌, ◌∷◌, ◌≡◌}
use Rattle.std.specs.List.Sorted.{IsPermutation}
use Rattle.std.proofs.lemmas.Grind.{flat_map-append}
use Rattle.kt_store.proofs.SqlFacts.{begin_is, begin_terms}
use Rattle.kt_store.proofs.InsertLemmas.{Changed, changed}
use Rattle.kt_store.proofs.Numbered.{numbers_new}
use Rattle.kt_store.proofs.WriteLemmas.{Ends, executed_by, crash_by}
use Rattle.kt_store.proofs.Values.{below, cast_int, cast_null}

abbrev above : ℤ → Row → ℤ
above _ r = id_in (rowid r) +ℤ pos 1

next_is : (n : ℕ) (runs : List Run) → AreNumbered n runs → fold above (pos n) (map run_row runs) ≡ pos (n + length runs)
next_is n [] h = ap pos (omega arith)
next_is n (r ∷ runs) h =
    let e : id_in (rowid (run_row r)) +ℤ pos 1 ≡ pos (suc n) = ap (λ k. pos k +ℤ pos 1) h.0 ∙ grind (arith, ints) in
    ap (λ z. fold above z (map run_row runs)) e ∙ next_is (suc n) runs h.1 ∙ ap pos (omega arith)

put_after : (n : ℕ) (runs : List Run) (new : Row) → AreNumbered n runs → rowid new ≡ Int (pos (n + length runs)) → put_row new (map run_row runs) ≡ map run_row runs ++ new ∷ []
put_after n [] new h id = refl
put_after n (r ∷ runs) new h id =
    let first : value_cmp (rowid (run_row r)) (rowid new) ≡ Less = rw (id, h.0) (below n (n + length (r ∷ runs)) (omega arith)) in
    rw first (ap (λ x. run_row r ∷ x) (put_after (suc n) runs new h.1 (id ∙ ap (λ k. Int (pos k)) (omega arith))))

abbrev pub begin_params : ℕ → ℕ → Row
begin_params total started = Int (pos started) ∷ Int (pos total) ∷ []

abbrev pub begin_rows : ℕ → ℕ → List Row
begin_rows total started = value_rows (begin_params total started) 5 1 begin_terms

module _ (runs : List Run) (total started : ℕ) (db after : Database) (tally : Tally) (has : IsSchema2Database db runs) (room : length runs < 1000000) (small : total < 4294967296)
    (changed : Changed schema_2 runs_table (begin_rows total started) db after tally) where
  next : next_rowid (db.trees 2) ≡ pos (suc (length runs))
  next = ap next_rowid has.runs_are ∙ next_is 1 runs has.valid.numbered ∙ ap pos (omega arith)

  news_are : (edit_of db.trees runs_table [] Chosen 0 (begin_rows total started)).news ≡ run_row (new_run runs total started) ∷ []
  news_are = rw (cast_null, cast_int (pos started), cast_int (pos total), cast_int (pos 0), next) refl

  pub last_begun : tally.last ≡ Some (pos (suc (length runs)))
  last_begun = changed.last_is ∙ ap last_id news_are

  pub begun : IsSchema2Database after (runs ++ new_run runs total started ∷ [])
  begun =
      let new = new_run runs total started in
      record {
        schema = changed.schema_is;
        marked = ap (map (drop 1)) (changed.applies.tables.0 (λ e. cc)) ∙ has.marked;
        runs_are = changed.applies.rows ∙ ap (λ news. put_all (db.trees 2) news) news_are ∙ ap (put_row (run_row new)) has.runs_are
            ∙ put_after 1 runs (run_row new) has.valid.numbered (ap (λ k. Int (pos k)) (omega arith)) ∙ sym (map-append run_row runs (new ∷ []));
        entries_are = subst (λ rows. IsPermutation rows (map (drop 1) (after.trees 3))) (sym (flat_map-append (λ (r : Run). map (entry_row r.number) r.entries) runs (new ∷ []) ∙ append-nil (entry_rows runs)))
            (subst (λ rows. IsPermutation (entry_rows runs) (map (drop 1) rows)) (sym (changed.applies.tables.1.1.0 (λ e. cc))) has.entries_are);
        props_are = subst (λ rows. IsPermutation rows (map (drop 1) (after.trees 5))) (sym (flat_map-append (λ (r : Run). flat_map (pair_rows r.number) r.entries) runs (new ∷ []) ∙ append-nil (prop_rows runs)))
            (subst (λ rows. IsPermutation (prop_rows runs) (map (drop 1) rows)) (sym (changed.applies.tables.1.1.1.0 (λ e. cc))) has.props_are);
        valid = record {
          numbered = numbers_new runs total started has.valid.numbered;
          each = all-append IsValidRun runs (new ∷ []) has.valid.each (record { small = small; ordered = tt; below = tt; sound = tt; whole = λ e. absurd cc }, tt);
          few = omega (arith, length-append runs (new ∷ []));
        };
      }

abbrev pub begin_command : Command
begin_command = Insert 1 (Values begin_terms 5)

-- no acting foreign key refers to `runs`
pub begin_works : (params : Row) (trees : Trees) → let edit = edit_of trees runs_table [] Chosen 0 (value_rows params 5 1 begin_terms) in works schema_2 Enforced 0 edit.table.tree (taken_by trees edit) edit.news ≡ []
begin_works params trees = refl

begin_changed : (limit : Option ℕ) (mode : Mode) (total started : ℕ) (db after : Database) (text : List ℕ) (tally : Tally) → mode.keys ≡ Enforced → db.schema ≡ schema_2
    → Does limit mode (begin_params total started) db text None begin_command (Ok (tally, after)) → Changed schema_2 runs_table (begin_rows total started) db after tally
begin_changed limit mode total started db after text tally enforced has does =
    changed schema_2 1 runs_table begin_terms 5 refl refl refl begin_works limit mode (begin_params total started) db after text tally enforced has does

no_end : (old : State) → Ends begin_command old → ⊥
no_end old (inl e) = cc
no_end old (inr it) = let e = it.2 in cc

module _ {S : Type 0} (g : Ghosts S) (old new : Held S) (runs : List Run) (total started : ℕ) (has : StandsFor (state g old) runs) (room : HasCleanDisk (state g old) → length runs < 1000000) (small : total < 4294967296) (earlier : HasCleanDisk (state g new) → HasCleanDisk (state g old)) where
  abbrev IsLast : Tally → Type 0
  IsLast tally = tally.last ≡ Some (pos (suc (length runs)))

  step : HasCleanDisk (state g new) → (limit : Option ℕ) (mode : Mode) (db after : Database) (text : List ℕ) (tally : Tally) → mode.keys ≡ Enforced → IsSchema2Database db runs
      → Does limit mode (begin_params total started) db text None begin_command (Ok (tally, after)) → IsSchema2Database after (runs ++ new_run runs total started ∷ []) × IsLast tally
  step clean limit mode db after text tally enforced has does =
      let did = begin_changed limit mode total started db after text tally enforced has.schema does in
      (begun runs total started db after tally has (room (earlier clean)) small did, last_begun runs total started db after tally has (room (earlier clean)) small did)

  pub executed_begin : HasCleanDisk (state g new) → RunsStatement g insert_run_sql (begin_params total started) old new
      → IsSettledWithRuns (state g new) (runs ++ new_run runs total started ∷ []) × ((state g new).last_rowid ≡ pos (suc (length runs))) × IsTrue (state g new).is_open × IsDatabase (state g new).now
  executed_begin clean it =
      let done = executed_by insert_run_sql (begin_params total started) begin_command begin_is.0 begin_is.1 (λ _ _ _ _ ran. ran) no_end runs (runs ++ new_run runs total started ∷ []) IsLast (step clean) g old new has earlier clean it in
      (done.0, done.5 ∙ ap (λ o. unwrap_or o (state g it.mid).last_rowid) done.4, done.1, done.2)

  pub crash_begin : HasCleanDisk (state g new) → (trees : Trees) → StatementMayCommit g insert_run_sql (begin_params total started) old trees → IsSchema2Of (runs ++ new_run runs total started ∷ []) trees
  crash_begin clean trees it =
      crash_by insert_run_sql (begin_params total started) begin_command begin_is.0 begin_is.1 (λ _ _ _ _ ran. ran) no_end runs (runs ++ new_run runs total started ∷ []) IsLast (step clean) g old new has earlier clean trees it

-- a crash of an open connection whose tables have runs leaves these runs
pub leaves_commit : {S : Type 0} (g : Ghosts S) (s : Held S) (runs : List Run) → ((db : Trees) → IsTrue (state g s).is_open → (state g s).may_leave db → db ≡ (state g s).committed.trees)
    → IsTrue (state g s).is_open → IsSettledWithRuns (state g s) runs → IsDatabase (state g s).now → Leaves (state g s) (IsSchema2Of runs)
leaves_commit g s runs law opened has sound clean trees may = ((state g s).now, sound, law trees opened may ∙ ap (λ (d : Database). d.trees) has.settled, has.tables)
