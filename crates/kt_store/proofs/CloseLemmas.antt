-- The effect of finishing a run on the tables.
use Rattle.kt_store.proofs.Common.{AllByRecursion, Applies, AreValidRuns, Bool, Database, Does, Enforced, Entry, Ghosts, Given, HasCleanDisk, Held, Incomplete, Int, IsAscending, IsComplete, IsDatabase, IsPermutation, IsValidRun, IsSettledWithRuns, IsTrue, IsSchema2Of, List, StatementMayCommit, Mode, None, Ok, Option, Run, RunClosed, Some, StandsFor, IsSchema2Database, Tally, RunsStatement, Trees, Update, [], all_from, all_weaker, ap, arith, finished_run_row, drop, edit_of, entries_of, entry_row, entry_rows, false, finish, finish_fault, finish_refusal, finish_refusal_of, finish_run_sql, flat_map, ids_of, if◌then◌else◌, length, map, nat_lt, nat_tests, pair_rows, pos, prop_rows, refl, run_at, runs_table, schema_2, state, subst, suc, sym, true, zero, ℕ, ◌++◌, ◌+◌, ◌<◌, ◌∙◌, ◌∷◌, ◌≡◌, ◌≤◌}
use Rattle.std.specs.List.{slice_index_or}
use Rattle.kt_store.proofs.RunsByNumber.{finish_each, finish_unseen, run_of}
use Rattle.kt_store.proofs.SqlFacts.{finish_is}
use Rattle.kt_store.proofs.FinishLemmas.{finish_program, finish_writes, finished_rows}
use Rattle.kt_store.proofs.Numbered.{numbers_finish}
use Rattle.kt_store.proofs.WriteLemmas.{executed_update, crash_update}

whole_run : (r : Run) → IsValidRun r → length r.entries ≡ r.total → IsValidRun (record r { finished = true })
whole_run r is whole = record { small = is.small; ordered = is.ordered; below = is.below; sound = is.sound; whole = λ done. whole }

-- the tables after the UPDATE of `finish` represent the runs with one run finished
pub finish_in : (runs : List Run) (k : ℕ) (r : Run) → run_at runs (suc k) ≡ Some r → length r.entries ≡ r.total → (db after : Database) → IsSchema2Database db runs → after.schema ≡ schema_2
    → Applies schema_2 Enforced db.trees (edit_of db.trees runs_table (ids_of (finished_run_row r ∷ [])) Given 1 (finished_run_row r ∷ [])) after.trees → IsSchema2Database after (finish (suc k) runs)
finish_in runs k r there whole db after has schema_is applies =
    record {
      schema = schema_is;
      marked = ap (map (drop 1)) (applies.tables.0 (λ e. cc)) ∙ has.marked;
      runs_are = finished_rows k db.trees after.trees runs r has.valid.numbered has.runs_are there applies;
      entries_are = subst (λ l. IsPermutation l (map (drop 1) (after.trees 3))) (sym (finish_unseen entry_rows (λ r more. map (entry_row r.number) r.entries ++ more) (λ r rs. refl) (suc k) (λ r more. refl) runs))
          (subst (λ l. IsPermutation (entry_rows runs) (map (drop 1) l)) (sym (applies.tables.1.1.0 (λ e. cc))) has.entries_are);
      props_are = subst (λ l. IsPermutation l (map (drop 1) (after.trees 5))) (sym (finish_unseen prop_rows (λ r more. flat_map (pair_rows r.number) r.entries ++ more) (λ r rs. refl) (suc k) (λ r more. refl) runs))
          (subst (λ l. IsPermutation (prop_rows runs) (map (drop 1) l)) (sym (applies.tables.1.1.1.0 (λ e. cc))) has.props_are);
      valid = record {
        numbered = numbers_finish (suc k) 1 runs has.valid.numbered;
        each = finish_each IsValidRun k runs r has.valid.numbered has.valid.each there (whole_run r (run_of (suc k) runs r has.valid there) whole);
        few = omega (arith, has.valid.few, finish_unseen length (λ r n. suc n) (λ r rs. refl) (suc k) (λ r n. refl) runs);
      };
    }

pub finish_step : (runs : List Run) (k : ℕ) (r : Run) → run_at runs (suc k) ≡ Some r → length r.entries ≡ r.total
    → (limit : Option ℕ) (mode : Mode) (db after : Database) (text : List ℕ) (tally : Tally) → mode.keys ≡ Enforced → IsSchema2Database db runs
    → Does limit mode (Int (pos (suc k)) ∷ []) db text None (Update 1 finish_program) (Ok (tally, after)) → IsSchema2Database after (finish (suc k) runs)
finish_step runs k r there whole limit mode db after text tally enforced has does =
    let did = finish_writes limit mode (suc k) db after text tally runs r enforced has there does in
    finish_in runs k r there whole db after has did.0 did.1

module _ {S : Type 0} (g : Ghosts S) (old new : Held S) (runs : List Run) (run : ℕ) (has : StandsFor (state g old) runs) (earlier : HasCleanDisk (state g new) → HasCleanDisk (state g old)) where
  abbrev pub Closes : Type 0
  Closes = HasCleanDisk (state g old) → IsComplete run runs

  executed_at : (run : ℕ) (r : Run) → run_at runs run ≡ Some r → length r.entries ≡ r.total → HasCleanDisk (state g new) → RunsStatement g finish_run_sql (Int (pos run) ∷ []) old new
      → IsSettledWithRuns (state g new) (finish run runs) × IsTrue (state g new).is_open × IsDatabase (state g new).now
  executed_at zero r there whole clean it = absurd cc
  executed_at (suc k) r there whole clean it =
      executed_update finish_run_sql (Int (pos (suc k)) ∷ []) 1 finish_program finish_is.0 finish_is.1 runs (finish (suc k) runs) (finish_step runs k r there whole) g old new has earlier clean it

  crash_at : (run : ℕ) (r : Run) → run_at runs run ≡ Some r → length r.entries ≡ r.total → HasCleanDisk (state g new) → (trees : Trees) → StatementMayCommit g finish_run_sql (Int (pos run) ∷ []) old trees → IsSchema2Of (finish run runs) trees
  crash_at zero r there whole clean trees it = absurd cc
  crash_at (suc k) r there whole clean trees it =
      crash_update finish_run_sql (Int (pos (suc k)) ∷ []) 1 finish_program finish_is.0 finish_is.1 runs (finish (suc k) runs) (finish_step runs k r there whole) g old new has earlier clean trees it

  pub executed_finish : Closes → HasCleanDisk (state g new) → RunsStatement g finish_run_sql (Int (pos run) ∷ []) old new → IsSettledWithRuns (state g new) (finish run runs) × IsTrue (state g new).is_open × IsDatabase (state g new).now
  executed_finish closes clean it = let f = closes (earlier clean) in executed_at run f.1 f.3 f.4 clean it

  pub crash_finish : Closes → HasCleanDisk (state g new) → (trees : Trees) → StatementMayCommit g finish_run_sql (Int (pos run) ∷ []) old trees → IsSchema2Of (finish run runs) trees
  crash_finish closes clean trees it = let f = closes (earlier clean) in crash_at run f.1 f.3 f.4 clean trees it

-- the number of ascending positions below a bound is at most the bound
no_more : (from top : ℕ) (es : List Entry) → from ≤ top → AllByRecursion (λ (e : Entry). from ≤ e.position) es → IsAscending (λ (a b : Entry). a.position < b.position) es
    → AllByRecursion (λ (e : Entry). e.position < top) es → from + length es ≤ top
no_more from top [] low above up below = omega (arith, low)
no_more from top (e ∷ es) low above up below = omega (arith, above.0, no_more (suc e.position) top es (omega (arith, below.0)) (all_weaker (λ (x : Entry). e.position < x.position) (λ (x : Entry). suc e.position ≤ x.position) (λ x h. omega (arith, h)) es up.0) up.1 below.1)

-- if there are as many ascending positions as their bound, each position is its index
at_place : (from i : ℕ) (es : List Entry) (e : Entry) → AllByRecursion (λ (d : Entry). from ≤ d.position) es → IsAscending (λ (a b : Entry). a.position < b.position) es
    → AllByRecursion (λ (d : Entry). d.position < from + length es) es → i < length es → e ≡ slice_index_or es i e → e.position ≡ from + i
at_place from i [] e above up below low is = absurd (omega (arith, low))
at_place from zero (d ∷ es) e above up below low is =
    let few = no_more (suc d.position) (from + suc (length es)) es (omega (arith, below.0)) (all_weaker (λ (x : Entry). d.position < x.position) (λ (x : Entry). suc d.position ≤ x.position) (λ x h. omega (arith, h)) es up.0) up.1 below.1 in
    ap (λ (x : Entry). x.position) is ∙ omega (arith, above.0, few)
at_place from (suc i) (d ∷ es) e above up below low is =
    at_place (suc from) i es e (all_weaker (λ (x : Entry). d.position < x.position) (λ (x : Entry). suc from ≤ x.position) (λ x h. omega (arith, h, above.0)) es up.0) up.1
    (all_weaker (λ (x : Entry). x.position < from + suc (length es)) (λ (x : Entry). x.position < suc from + length es) (λ x h. omega (arith, h)) es below.1) (omega (arith, low)) is ∙ omega arith

pub at_places : (es : List Entry) (i : ℕ) (e : Entry) → IsAscending (λ (a b : Entry). a.position < b.position) es → AllByRecursion (λ (d : Entry). d.position < length es) es → i < length es
    → e ≡ slice_index_or es i e → e.position ≡ i
at_places es i e up below low is = at_place 0 i es e (all_from (λ (d : Entry). 0 ≤ d.position) es (λ d _. omega arith)) up (subst (λ n. AllByRecursion (λ (d : Entry). d.position < n) es) (omega arith) below) low is ∙ omega arith

pub at_most : (r : Run) → IsValidRun r → length r.entries ≤ r.total
at_most r is = omega (arith, no_more 0 r.total r.entries (omega arith) (all_from (λ (e : Entry). 0 ≤ e.position) r.entries (λ e _. omega arith)) is.ordered is.below)

-- a run that can be finished is unfinished and has as many entries as cases
complete : (closed : Bool) (total count : ℕ) → finish_fault closed total count ≡ None → (closed ≡ false) × (total ≤ count)
complete closed total count = by closed (nat_lt count total) refl
  where
    by : (closed few : Bool) → nat_lt count total ≡ few → (if closed then Some RunClosed else if few then Some Incomplete else None) ≡ None → (closed ≡ false) × (total ≤ count)
    by false false all h = (refl, grind (arith, nat_tests, all))
    by _ _ all h = absurd cc

module _ (runs : List Run) (run : ℕ) (r : Run) (there : run_at runs run ≡ Some r) (closed : Bool) (total n : ℕ) (same : closed ≡ r.finished) (many : total ≡ r.total)
    (is : n ≡ length (entries_of (run_at runs run))) where
  counted : n ≡ length r.entries
  counted = is ∙ ap (λ o. length (entries_of o)) there

  -- the error of a finish follows from the run's state
  pub finish_refusal_is : finish_refusal runs run ≡ finish_fault closed total n
  finish_refusal_is = ap finish_refusal_of there ∙ sym (rw (same, many, counted) refl)

  pub finishes : finish_fault closed total n ≡ None → AreValidRuns runs → (finish_refusal runs run ≡ None) × IsComplete run runs
  finishes accepted valid =
      let it = complete closed total n accepted in
      let f = place run there in
      (finish_refusal_is ∙ accepted, (f.0, r, f.1, there, omega (arith, it.1, many, counted, at_most r (run_of run runs r valid there))))
    where
      place : (run : ℕ) → run_at runs run ≡ Some r → (k : ℕ) × (run ≡ suc k)
      place zero there = absurd cc
      place (suc k) there = (k, refl)
