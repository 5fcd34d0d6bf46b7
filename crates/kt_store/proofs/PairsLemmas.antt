-- The result of the query for the properties of an entry.
use Rattle.kt_store.proofs.Common.{AllByRecursion, AreNumbered, AreValidRuns, Binary, Bool, Entry, IsAscending, IsPermutation, IsSettledWithRuns, Less, List, None, Option, Output, Row, Run, Shown, Some, State, Variable, [], all-append, all_weaker, ap, append-nil, ap₂, arith, ascending, ascending-map, binary, col, drop, entries_of, entry_at, false, filter, filter-append, filter_all, filter_none, find, flat_map, from_truth, is_true, list_all, holds, map, map-map, nat_tests, option_to_list, output, output_cmp, pair_columns, pair_row, pair_rows, pair_rows_from, pairs_of, select_props_sql, prop_rows, reads_as, refl, run_at, schema_2, subst, suc, true, ℕ, ◌&&◌, ◌++◌, ◌<◌, ◌==◌, ◌∙◌, ◌∷◌, ◌≡◌, ◌≢◌, ◌≤◌}
use Rattle.kt_store.proofs.SqlFacts.{pairs_select_is, pairs_query}
use Rattle.kt_store.proofs.QueryLemmas.{answered_sorted}
use Rattle.kt_store.proofs.EntryLemmas.{back, of_stored, of_one, and_true, truth}
use Rattle.kt_store.proofs.EntriesLemmas.{there_params, there_tests, up_of}
use Rattle.kt_store.proofs.OutputsLemmas.{has}
use Rattle.kt_store.proofs.Values.{below, same_test}

-- a fact about the row of each property with an index from `k` on holds for the rows of properties
-- with indexes from `k`
all_from : (P : Row → Type 0) (n p k : ℕ) (vs : List Variable) → ((j : ℕ) (v : Variable) → k ≤ j → P (pair_row n p j v)) → AllByRecursion P (pair_rows_from n p k vs)
all_from P n p k [] each = tt
all_from P n p k (v ∷ vs) each = (each k v (omega arith), all_from P n p (suc k) vs (λ j w past. each j w (omega (arith, past))))

all_rows : (P : Row → Type 0) (n : ℕ) (es : List Entry) → ((p k : ℕ) (v : Variable) → P (pair_row n p k v)) → AllByRecursion P (flat_map (pair_rows n) es)
all_rows P n [] each = tt
all_rows P n (e ∷ es) each = all-append P (pair_rows n e) (flat_map (pair_rows n) es) (all_from P n e.position 0 e.meta (λ j v _. each e.position j v)) (all_rows P n es each)

-- a filter over the rows of all properties that keeps only those of some entries of run `n`
module _ (test : Row → Bool) (n : ℕ) (keep : ℕ → Bool) (each : (m p k : ℕ) (v : Variable) → test (pair_row m p k v) ≡ (m == n) && keep p) where
  hit : (m : ℕ) → m ≡ n → (es : List Entry) → filter test (flat_map (pair_rows m) es) ≡ flat_map (pair_rows n) (filter (λ (e : Entry). keep e.position) es)
  hit m same [] = refl
  hit m same (e ∷ es) = filter-append test (pair_rows m e) (flat_map (pair_rows m) es) ∙ by (hit m same es) (keep e.position) refl
    where
      by : filter test (flat_map (pair_rows m) es) ≡ flat_map (pair_rows n) (filter (λ (e : Entry). keep e.position) es)
          → (b : Bool) → keep e.position ≡ b → filter test (pair_rows m e) ++ filter test (flat_map (pair_rows m) es) ≡ flat_map (pair_rows n) (filter (λ (e : Entry). keep e.position) (e ∷ es))
      by later true is =
          let all = filter_all test (pair_rows m e) (all_from (λ r. test r ≡ true) m e.position 0 e.meta (λ j v _. each m e.position j v ∙ grind (arith, nat_tests, same, is))) in
          rw (is, all, later) (ap (λ j. pair_rows j e ++ flat_map (pair_rows n) (filter (λ (e : Entry). keep e.position) es)) same)
      by later false is =
          let none = filter_none test (pair_rows m e) (all_from (λ r. test r ≡ false) m e.position 0 e.meta (λ j v _. each m e.position j v ∙ grind (arith, nat_tests, same, is))) in
          rw (is, none) later

  miss : (m : ℕ) → m ≢ n → (es : List Entry) → filter test (flat_map (pair_rows m) es) ≡ []
  miss m apart es = filter_none test (flat_map (pair_rows m) es) (all_rows (λ r. test r ≡ false) m es (λ p k v. each m p k v ∙ grind (arith, nat_tests, apart)))

pub of_pairs : (test : Row → Bool) (n : ℕ) (keep : ℕ → Bool) (runs : List Run) → ((m p j : ℕ) (v : Variable) → test (pair_row m p j v) ≡ (m == n) && keep p) → AreNumbered 1 runs
    → filter test (prop_rows runs) ≡ flat_map (pair_rows n) (filter (λ (e : Entry). keep e.position) (entries_of (run_at runs n)))
of_pairs test n keep runs each h =
    of_one test (λ (r : Run). flat_map (pair_rows r.number) r.entries) (λ (r : Run). flat_map (pair_rows n) (filter (λ (e : Entry). keep e.position) r.entries)) n
    (λ r is. hit test n keep each r.number is r.entries) (λ r other. miss test n keep each r.number other r.entries) runs h
    ∙ found (run_at runs n)
  where
    found : (o : Option Run) → flat_map (λ (r : Run). flat_map (pair_rows n) (filter (λ (e : Entry). keep e.position) r.entries)) (option_to_list o) ≡ flat_map (pair_rows n) (filter (λ (e : Entry). keep e.position) (entries_of o))
    found None = refl
    found (Some r) = append-nil (flat_map (pair_rows n) (filter (λ (e : Entry). keep e.position) r.entries))

-- if entries are ordered by position, the properties of those at position `p` are those of one
-- entry
one_entry : (n p : ℕ) (es : List Entry) → IsAscending (λ (a b : Entry). a.position < b.position) es → flat_map (pair_rows n) (filter (has p) es) ≡ pair_rows_from n p 0 (pairs_of (find (has p) es))
one_entry n p [] up = refl
one_entry n p (e ∷ es) up = by (one_entry n p es up.1) (has p e) refl
  where
    by : flat_map (pair_rows n) (filter (has p) es) ≡ pair_rows_from n p 0 (pairs_of (find (has p) es)) → (b : Bool) → has p e ≡ b
        → flat_map (pair_rows n) (filter (has p) (e ∷ es)) ≡ pair_rows_from n p 0 (pairs_of (find (has p) (e ∷ es)))
    by later true here =
        let is : e.position ≡ p = grind (arith, nat_tests, here) in
        let none = filter_none (has p) es (all_weaker (λ (x : Entry). e.position < x.position) (λ x. has p x ≡ false) (λ x past. grind (arith, nat_tests, past, is)) es up.0) in
        rw (here, none) (append-nil (pair_rows n e) ∙ ap (λ q. pair_rows_from n q 0 e.meta) is)
    by later false other = rw other later

-- a filter on run and position over the rows of all properties keeps those of this run's entry at
-- this position
pub of_entry : (test : Row → Bool) (n p : ℕ) (runs : List Run) → AreValidRuns runs → ((m q k : ℕ) (v : Variable) → test (pair_row m q k v) ≡ (m == n) && (q == p))
    → filter test (prop_rows runs) ≡ pair_rows_from n p 0 (pairs_of (entry_at (run_at runs n) p))
of_entry test n p runs valid each =
    of_pairs test n (λ q. q == p) runs each valid.numbered ∙ one_entry n p (entries_of (run_at runs n)) (up_of runs n valid) ∙ ap (pair_rows_from n p 0) (found (run_at runs n))
  where
    found : (o : Option Run) → pairs_of (find (has p) (entries_of o)) ≡ pairs_of (entry_at o p)
    found None = refl
    found (Some r) = refl

-- the rows of an entry's properties ascend in each relation in which rows with a lower index are
-- lower
pub pairs_rise : (n p : ℕ) (Rel : Row → Row → Type 0) → ((k j : ℕ) (v w : Variable) → k < j → Rel (pair_row n p k v) (pair_row n p j w)) → (k : ℕ) (vs : List Variable) → IsAscending Rel (pair_rows_from n p k vs)
pairs_rise n p Rel by_place k [] = tt
pairs_rise n p Rel by_place k (v ∷ vs) = (all_from (Rel (pair_row n p k v)) n p (suc k) vs (λ j w past. by_place k j v w past), pairs_rise n p Rel by_place (suc k) vs)

-- a function that maps the row of each property to its columns maps the rows of a list of
-- properties to theirs
pub all_columns : (f : Row → Row) (n p : ℕ) → ((k : ℕ) (v : Variable) → f (pair_row n p k v) ≡ pair_columns v) → (k : ℕ) (vs : List Variable) → map f (pair_rows_from n p k vs) ≡ map pair_columns vs
all_columns f n p is k [] = refl
all_columns f n p is k (v ∷ vs) = ap₂ (λ x xs. x ∷ xs) (is k v) (all_columns f n p is (suc k) vs)

-- ---- the result of the query

abbrev passes : Row → Row → Bool
passes params r = list_all (holds (params ∷ r ∷ [])) there_tests

same_passes : (params r : Row) → passes params r ≡ passes params (back (drop 1 r))
same_passes params [] = refl
same_passes params (x ∷ r) = refl

each_pair : (n p m q k : ℕ) (v : Variable) → passes (there_params n p) (back (pair_row m q k v)) ≡ (m == n) && (q == p)
unfolding binary
each_pair n p m q k v =
    ap₂ (λ a b. is_true (from_truth (Some a)) && (is_true (from_truth (Some b)) && true)) (same_test m n) (same_test q p) ∙ ap₂ (λ a b. a && (b && true)) (truth (m == n)) (truth (q == p)) ∙ ap (λ b. (m == n) && b) (and_true (q == p))

abbrev out : Row → Row → Output
out params r = output pairs_query (params ∷ r ∷ [])

same_out : (params r : Row) → out params r ≡ out params (back (drop 1 r))
same_out params [] = refl
same_out params (x ∷ r) = refl

abbrev lower : Output → Output → Type 0
lower x y = output_cmp pairs_query x y ≡ Less

module _ (n p : ℕ) where
  abbrev shows : Row → Output
  shows r = out (there_params n p) (back r)

  lower_places : (k j : ℕ) (v w : Variable) → k < j → lower (shows (pair_row n p k v)) (shows (pair_row n p j w))
  lower_places k j v w h = rw (below k j h) refl

pub tells_pairs : (old new : State) (runs : List Run) (n p : ℕ) (rows : List Row) → IsSettledWithRuns old runs → Shown select_props_sql (there_params n p) old new rows → rows ≡ map pair_columns (pairs_of (entry_at (run_at runs n) p))
tells_pairs old new runs n p rows has h =
    let params = there_params n p in
    let vs = pairs_of (entry_at (run_at runs n) p) in
    let mine = pair_rows_from n p 0 vs in
    let reads = reads_as select_props_sql params old new schema_2 has.tables.schema _ pairs_select_is.0 pairs_select_is.2 pairs_select_is.1 rows h in
    let from = of_stored (old.now.trees 5) (prop_rows runs) has.tables.props_are (passes params) (out params) (same_passes params) (same_out params) in
    let one = of_entry (λ r. passes params (back r)) n p runs has.tables.valid (each_pair n p) in
    let same = subst (λ l. IsPermutation l (map (out params) (filter (passes params) (old.now.trees 5)))) (ap (map (shows n p)) one) from in
    let rises = ascending-map lower (shows n p) mine (pairs_rise n p (λ a b. lower (shows n p a) (shows n p b)) (lower_places n p) 0 vs) in
    answered_sorted 5 there_tests pairs_query.project ((col 1 3, ascending Binary) ∷ []) old.now.trees params rows reads.answer (map (shows n p) mine) same rises
    ∙ map-map (λ (o : Output). o.1) (shows n p) mine ∙ all_columns (λ r. (shows n p r).1) n p (λ k v. refl) 0 vs
