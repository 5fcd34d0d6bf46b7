-- The results of the queries of entries by position.
use Rattle.kt_store.proofs.Common.{AllByRecursion, AreValidRuns, Binary, Bool, Entry, Ghosts, Held, Int, IsAscending, IsValidEntry, IsPermutation, IsValidRun, IsSettledWithRuns, IsSureAnswer, Less, List, None, Option, Output, Query, Row, Run, Shown, QueriesRuns, Some, State, Term, [], ap, ap₂, arith, ascending, ascending-filter, ascending-map, ascending_weaker, binary, col, cond, drop, entries_of, select_entries_sql, entry_row, entry_rows, false, filter, from_truth, has_position, holds, is_true, length, length-map, list_all, map, map-map, nat_lt, nat_tests, output, output_cmp, overlay, pos, reads_as, refl, run_at, schema_2, state, subst, select_entry_sql, true, full_entry_columns, ℕ, ◌&&◌, ◌<◌, ◌==◌, ◌||◌, ◌∙◌, ◌∷◌, ◌≡◌}
use Rattle.kt_store.proofs.QueryLemmas.{selects, answered_sorted}
use Rattle.kt_store.proofs.EntryLemmas.{back, of_stored, of_run, tests, each, all_pass, and_true, truth}
use Rattle.kt_store.proofs.Values.{below, same_test}
use Rattle.kt_store.proofs.SqlFacts.{entries_select_is, entries_query, there_is, there_query, is}
use Rattle.kt_store.proofs.RunsByNumber.{run_of}
use Rattle.kt_store.proofs.OutputsLemmas.{has}

module _ (wheres project : List Term) (params : Row) where
  abbrev pub query : Query
  query = selects 3 wheres project ((col 1 2, ascending Binary) ∷ [])

  abbrev pub passes : Row → Bool
  passes r = list_all (holds (params ∷ r ∷ [])) wheres

  abbrev pub out : Row → Output
  out r = output query (params ∷ r ∷ [])

  -- `Same r`: the query ignores the rowid of the stored row `r`
  abbrev pub Same : Row → Type 0
  Same r = (passes r ≡ passes (back (drop 1 r))) × (out r ≡ out (back (drop 1 r)))

  abbrev lower : Output → Output → Type 0
  lower x y = output_cmp query x y ≡ Less

  module _ (same : (r : Row) → Same r) (n : ℕ) (keep : Entry → Bool) (picks : (m : ℕ) (e : Entry) → passes (back (entry_row m e)) ≡ (m == n) && keep e) where
    abbrev entry_out : Entry → Output
    entry_out e = out (back (entry_row n e))

    lower_entries : (d e : Entry) → d.position < e.position → lower (entry_out d) (entry_out e)
    lower_entries d e h = rw (below d.position e.position h) refl

    rises : (es : List Entry) → IsAscending (λ (a b : Entry). a.position < b.position) es → IsAscending lower (map entry_out es)
    rises es h = ascending-map lower entry_out es
        (ascending_weaker (λ (a b : Entry). a.position < b.position) (λ (a b : Entry). lower (entry_out a) (entry_out b)) lower_entries es h)

    -- the query returns the columns of those entries of run `n` that `keep` selects, ordered by
    -- position
    pub tells_kept : (old : State) (runs : List Run) (rows : List Row) → IsSettledWithRuns old runs → IsAscending (λ (a b : Entry). a.position < b.position) (entries_of (run_at runs n))
        → IsSureAnswer query (overlay old.now.trees []) params rows → rows ≡ map (λ e. (entry_out e).1) (filter keep (entries_of (run_at runs n)))
    tells_kept old runs rows has up ensure_sound =
        let es = filter keep (entries_of (run_at runs n)) in
        let from = of_stored (old.now.trees 3) (entry_rows runs) has.tables.entries_are passes out (λ r. (same r).0) (λ r. (same r).1) in
        let outs : map (λ r. out (back r)) (filter (λ r. passes (back r)) (entry_rows runs)) ≡ map entry_out es =
        ap (map (λ r. out (back r))) (of_run (λ r. passes (back r)) keep n runs picks has.tables.valid.numbered) ∙ map-map (λ r. out (back r)) (entry_row n) es in
        let alike = subst (λ l. IsPermutation l (map out (filter passes (old.now.trees 3)))) outs from in
        answered_sorted 3 wheres project query.order old.now.trees params rows ensure_sound (map entry_out es) alike (rises es (ascending-filter _ keep (entries_of (run_at runs n)) up))
        ∙ map-map (λ (o : Output). o.1) entry_out es

-- ---- the result of the query for the entries of a run

abbrev Up : List Entry → Type 0
Up es = IsAscending (λ (a b : Entry). a.position < b.position) es

pub up_of : (runs : List Run) (n : ℕ) → AreValidRuns runs → Up (entries_of (run_at runs n))
up_of runs n valid = go (run_at runs n) (λ r there. run_of n runs r valid there)
  where
    go : (o : Option Run) → ((r : Run) → o ≡ Some r → IsValidRun r) → Up (entries_of o)
    go None h = tt
    go (Some r) h = (h r refl).ordered

pub sound_of : (runs : List Run) (n : ℕ) → AreValidRuns runs → AllByRecursion IsValidEntry (entries_of (run_at runs n))
sound_of runs n valid = go (run_at runs n) (λ r there. run_of n runs r valid there)
  where
    go : (o : Option Run) → ((r : Run) → o ≡ Some r → IsValidRun r) → AllByRecursion IsValidEntry (entries_of o)
    go None h = tt
    go (Some r) h = (h r refl).sound

abbrev entries_params : ℕ → Row
entries_params n = Int (pos n) ∷ []

same_rows : (n : ℕ) (r : Row) → Same tests entries_query.project (entries_params n) r
same_rows n [] = (refl, refl)
same_rows n (x ∷ r) = (refl, refl)

pub tells_entries : (old new : State) (runs : List Run) (n : ℕ) (rows : List Row) → IsSettledWithRuns old runs → Shown select_entries_sql (entries_params n) old new rows → rows ≡ map full_entry_columns (entries_of (run_at runs n))
tells_entries old new runs n rows has h =
    let reads = reads_as select_entries_sql (entries_params n) old new schema_2 has.tables.schema _ entries_select_is.0 entries_select_is.2 entries_select_is.1 rows h in
    tells_kept tests entries_query.project (entries_params n) (same_rows n) n (λ (e : Entry). true) (each n) old runs rows has (up_of runs n has.tables.valid) reads.answer
    ∙ ap (map full_entry_columns) (all_pass (entries_of (run_at runs n)))

-- ---- whether a run has an entry at a position, by its query

abbrev pub there_params : ℕ → ℕ → Row
there_params n p = Int (pos n) ∷ Int (pos p) ∷ []

abbrev pub there_tests : List Term
there_tests = is (col 1 1) (col 0 0) ∷ is (col 1 2) (col 0 1) ∷ []

abbrev there_passes : Row → Row → Bool
there_passes params r = list_all (holds (params ∷ r ∷ [])) there_tests

there_rows : (n p : ℕ) (r : Row) → Same there_tests there_query.project (there_params n p) r
there_rows n p [] = (refl, refl)
there_rows n p (x ∷ r) = (refl, refl)

pub there_each : (n p m : ℕ) (e : Entry) → there_passes (there_params n p) (back (entry_row m e)) ≡ (m == n) && (e.position == p)
unfolding binary
there_each n p m e =
    ap₂ (λ a b. is_true (from_truth (Some a)) && (is_true (from_truth (Some b)) && true)) (same_test m n) (same_test e.position p) ∙ ap₂ (λ a b. a && (b && true)) (truth (m == n)) (truth (e.position == p)) ∙ ap (λ b. (m == n) && b) (and_true (e.position == p))

pub any_left : (p : ℕ) (es : List Entry) → nat_lt 0 (length (filter (has p) es)) ≡ has_position p es
any_left p [] = refl
any_left p (e ∷ es) = go (e.position == p) (any_left p es)
  where
    go : (b : Bool) → nat_lt 0 (length (filter (has p) es)) ≡ has_position p es
        → nat_lt 0 (length (cond b (e ∷ filter (has p) es) (filter (has p) es))) ≡ (b || has_position p es)
    go true more = grind (arith, nat_tests)
    go false more = more

pub tells_there : {S : Type 0} (g : Ghosts S) (new : Held S) (runs : List Run) (n p : ℕ) (rows : List Row) → QueriesRuns g runs select_entry_sql (there_params n p) new rows → nat_lt 0 (length rows) ≡ has_position p (entries_of (run_at runs n))
tells_there g new runs n p rows it =
    let params = there_params n p in
    let es = entries_of (run_at runs n) in
    let reads = reads_as select_entry_sql params (state g it.mid) (state g new) schema_2 it.stored.tables.schema _ there_is.0 there_is.2 there_is.1 rows it.shown in
    let are = tells_kept there_tests there_query.project params (there_rows n p) n (has p) (there_each n p) (state g it.mid) runs rows it.stored (up_of runs n it.stored.tables.valid) reads.answer in
    ap (λ l. nat_lt 0 (length l)) are ∙ ap (nat_lt 0) (length-map (filter (has p) es) _) ∙ any_left p es
