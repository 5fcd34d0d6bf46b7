-- The results of the queries for one run and for all runs.
use Rattle.kt_store.proofs.Common.{AllByRecursion, AreNumbered, Binary, Bool, Compare, Eq, Ghosts, Held, Int, IsAscending, IsPermutation, IsSettledWithRuns, Less, List, None, Option, Row, Run, Shown, QueriesRuns, Some, State, Term, Trees, [], ap, ap₂, arith, ascending, binary, col, column, eval, false, filter, filter-map, filter_same, flag, flat_map_single, get_or, head_columns, holds, is_eq, is_true, length, length_permutation, list_all, map, map-map, nat_lt, nat_tests, nil_from_length, one_permutation, option_map, option_to_list, output, output_cmp, pos, reads_as, refl, rowid, run_at, run_row, select_run_sql, select_runs_sql, schema_2, slice_get, state, subst, suc, sym, take, true, unsigned_abs, value_cmp, zero, ℕ, ◌&&◌, ◌++◌, ◌<◌, ◌∙◌, ◌∷◌, ◌≡◌, ◌≢◌}
use Rattle.kt_store.proofs.RunsByNumber.{all_above}
use Rattle.kt_store.proofs.EntryLemmas.{and_true, of_one, truth, all_pass}
use Rattle.kt_store.proofs.SqlFacts.{is, run_is, runs_select_is, runs_query}
use Rattle.kt_store.proofs.Values.{same_test, some_mapped, below}
use Rattle.kt_store.proofs.QueryLemmas.{answered, show, picked, answered_in_order}

abbrev has_number : ℕ → Row → Bool
has_number n row = is_eq (value_cmp (rowid row) (Int (pos n)))

pub found_run : (n : ℕ) (runs : List Run) → AreNumbered 1 runs → filter (has_number n) (map run_row runs) ≡ map run_row (option_to_list (run_at runs n))
found_run n runs h = ap (filter (has_number n)) (sym (flat_map_single run_row runs)) ∙ of_one (has_number n) (λ r. run_row r ∷ []) (λ r. run_row r ∷ []) n here apart runs h ∙ flat_map_single run_row (option_to_list (run_at runs n))
  where
    here : (r : Run) → r.number ≡ n → filter (has_number n) (run_row r ∷ []) ≡ run_row r ∷ []
    here r is = let same : has_number n (run_row r) ≡ true = same_test r.number n ∙ grind (arith, nat_tests, is) in rw same refl

    apart : (r : Run) → r.number ≢ n → filter (has_number n) (run_row r ∷ []) ≡ []
    apart r other = let differs : has_number n (run_row r) ≡ false = same_test r.number n ∙ grind (arith, nat_tests, other) in rw differs refl

-- a WHERE on the number selects the row of the run with this number
pub picked_run : (n : ℕ) (key : Term) (params : Row) → ((r : Row) → eval key (params ∷ r ∷ []) ≡ Int (pos n)) → (runs : List Run) → AreNumbered 1 runs
    → filter (λ r. list_all (holds (params ∷ r ∷ [])) (is (col 1 0) key ∷ [])) (map run_row runs) ≡ map run_row (option_to_list (run_at runs n))
unfolding binary
picked_run n key params key_is runs h =
    filter-map _ run_row runs
    ∙ ap (map run_row) (filter_same (λ r. list_all (holds (params ∷ run_row r ∷ [])) (is (col 1 0) key ∷ [])) (λ r. has_number n (run_row r)) each runs)
    ∙ sym (filter-map (has_number n) run_row runs) ∙ found_run n runs h
  where
    each : (r : Run) → list_all (holds (params ∷ run_row r ∷ [])) (is (col 1 0) key ∷ []) ≡ has_number n (run_row r)
    each r = ap (λ v. is_true (binary (Compare Eq Binary) (Int (pos r.number)) v) && true) (key_is (run_row r)) ∙ ap (λ b. b && true) (truth (has_number n (run_row r))) ∙ and_true (has_number n (run_row r))

-- ---- the result of the query for one run

abbrev pub head_row : Run → Row
head_row r = Int (pos r.total) ∷ Int (flag r.finished) ∷ []

at_most_one : (o : Option Run) (rows : List Row) → IsPermutation (map head_row (option_to_list o)) rows → rows ≡ map head_row (option_to_list o)
at_most_one None rows h = nil_from_length rows (length_permutation [] rows h)
at_most_one (Some r) rows h = one_permutation (head_row r) rows h

shown_rows : (trees : Trees) (n : ℕ) (o : Option Run) (rows : List Row)
    → IsPermutation (map (show 2 (is (col 1 0) (col 0 0) ∷ []) (col 1 3 ∷ col 1 4 ∷ []) [] trees (Int (pos n) ∷ [])) (map run_row (option_to_list o))) rows → IsPermutation (map head_row (option_to_list o)) rows
shown_rows trees n None rows h = h
shown_rows trees n (Some r) rows h = h

pub tells_run : {S : Type 0} (g : Ghosts S) (new : Held S) (runs : List Run) (n : ℕ) (rows : List Row) → QueriesRuns g runs select_run_sql (Int (pos n) ∷ []) new rows → rows ≡ map head_row (option_to_list (run_at runs n))
tells_run g new runs n rows it =
    let params = Int (pos n) ∷ [] in
    let reads = reads_as select_run_sql params (state g it.mid) (state g new) schema_2 it.stored.tables.schema _ run_is.0 run_is.2 run_is.1 rows it.shown in
    let tests = is (col 1 0) (col 0 0) ∷ [] in
    let project = col 1 3 ∷ col 1 4 ∷ [] in
    let all = answered 2 tests project [] (state g it.mid).now.trees params rows reads.answer in
    let found : picked 2 tests project [] (state g it.mid).now.trees params ≡ map run_row (option_to_list (run_at runs n)) =
    ap (filter (λ r. list_all (holds (params ∷ r ∷ [])) tests)) it.stored.tables.runs_are ∙ picked_run n (col 0 0) params (λ r. refl) runs it.stored.tables.valid.numbered in
    at_most_one (run_at runs n) rows (shown_rows (state g it.mid).now.trees n (run_at runs n) rows (subst (λ l. IsPermutation (map (show 2 tests project [] (state g it.mid).now.trees params) l) rows) found all))

abbrev pub head : Run → ℕ × ℕ
head r = (r.total, unsigned_abs (flag r.finished))

-- if the query returned no row, there is no such run
pub none_there : (f : Run → Row) (o : Option Run) (rows : List Row) → rows ≡ map f (option_to_list o) → slice_get rows 0 ≡ None → o ≡ None
none_there f None rows are none = refl
none_there f (Some r) rows are none = absurd (let e : Some (f r) ≡ None = sym (ap (λ l. slice_get l 0) are) ∙ none in cc)

pub some_there : (f : Run → Row) (o : Option Run) (rows : List Row) (row : Row) → rows ≡ map f (option_to_list o) → slice_get rows 0 ≡ Some row → (r : Run) × (o ≡ Some r) × (row ≡ f r)
some_there f None rows row are some = absurd (let e : None ≡ Some row = sym (ap (λ l. slice_get l 0) are) ∙ some in cc)
some_there f (Some r) rows row are some = let e : Some (f r) ≡ Some row = sym (ap (λ l. slice_get l 0) are) ∙ some in let same : row ≡ f r = cc in (r, refl, same)

-- the number that is read from the finished flag is 1 or 0
pub flag_read : (n : ℕ) (finished : Bool) → Int (pos n) ≡ Int (flag finished) → n ≡ unsigned_abs (flag finished)
flag_read n finished is = let same : pos n ≡ flag finished = cc in ap unsigned_abs same

pub both_read : (o : Option Run) (r : Run) (cells : Row) (total finished : ℕ) → o ≡ Some r → cells ≡ head_row r → column cells 0 ≡ Int (pos total) → column cells 1 ≡ Int (pos finished) → Some (total, finished) ≡ option_map head o
both_read o r cells total finished is same first second =
    let a : Int (pos total) ≡ Int (pos r.total) = sym first ∙ ap (λ l. column l 0) same in
    let x : total ≡ r.total = cc in
    let y = flag_read finished r.finished (sym second ∙ ap (λ l. column l 1) same) in
    ap₂ (λ p q. Some (p, q)) x y ∙ ap (option_map head) (sym is)

pub set : (b : Bool) → nat_lt 0 (unsigned_abs (flag b)) ≡ b
set true = refl
set false = refl

pub one_found : (o : Option Run) (total finished : ℕ) → Some (total, finished) ≡ option_map head o → (r : Run) × (o ≡ Some r) × (total ≡ r.total) × (nat_lt 0 finished ≡ r.finished)
one_found o total finished h =
    let it = some_mapped head o (total, finished) h in
    (it.0, it.1, ap (λ (p : ℕ × ℕ). p.0) it.2, ap (λ (p : ℕ × ℕ). nat_lt 0 p.1) it.2 ∙ set it.0.finished)

-- ---- the result of the query for all runs

abbrev params_of : Row → List Row
params_of r = [] ∷ r ∷ []

abbrev lower : Row → Row → Type 0
lower x y = output_cmp runs_query (output runs_query (params_of x)) (output runs_query (params_of y)) ≡ Less

lower_runs : (r s : Run) → r.number < s.number → lower (run_row r) (run_row s)
lower_runs r s h = rw (below r.number s.number h) refl

rises : (from : ℕ) (runs : List Run) → AreNumbered from runs → IsAscending lower (map run_row runs)
rises from [] h = tt
rises from (r ∷ runs) h = (all_above (lower (run_row r)) r.number (suc from) runs (lower_runs r) h.1 (omega (arith, h.0)), rises (suc from) runs h.1)

pub tells_heads : (old new : State) (runs : List Run) (rows : List Row) → IsSettledWithRuns old runs → Shown select_runs_sql [] old new rows → rows ≡ map head_columns runs
tells_heads old new runs rows has h =
    let reads = reads_as select_runs_sql [] old new schema_2 has.tables.schema _ runs_select_is.0 runs_select_is.2 runs_select_is.1 rows h in
    let picked : filter (λ (r : Row). true) (old.now.trees 2) ≡ map run_row runs = all_pass (old.now.trees 2) ∙ has.tables.runs_are in
    answered_in_order 2 [] (col 1 0 ∷ col 1 2 ∷ col 1 3 ∷ col 1 4 ∷ []) ((col 1 0, ascending Binary) ∷ []) old.now.trees [] rows reads.answer
    (subst (IsAscending lower) (sym picked) (rises 1 runs has.tables.valid.numbered))
    ∙ ap (map (λ r. column r 0 ∷ column r 2 ∷ column r 3 ∷ column r 4 ∷ [])) picked ∙ map-map _ run_row runs

-- a row at index `i` is that of one more item, which meets the predicate of all items
pub one_more : {X Y Z : Type 0} (P : X → Type 0) (f : X → Y) (h : X → Z) (xs : List X) (i : ℕ) (y : Y) → AllByRecursion P xs → i < length xs → y ≡ get_or (map f xs) i y
    → (x : X) × (y ≡ f x) × P x × (map h (take (suc i) xs) ≡ map h (take i xs) ++ h x ∷ [])
one_more P f h [] i y all low is = absurd (omega (arith, low))
one_more P f h (x ∷ xs) zero y all low is = (x, is, all.0, refl)
one_more P f h (x ∷ xs) (suc i) y all low is =
    let it = one_more P f h xs i y all.1 (omega (arith, low)) is in
    (it.0, it.1, it.2, ap (λ l. h x ∷ l) it.3)
