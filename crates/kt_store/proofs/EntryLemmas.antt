-- The results of the queries of entries.
use Rattle.kt_store.proofs.Common.{AreNumbered, Bool, Entry, Int, IsPermutation, IsPermutation-filter, IsPermutation-map, List, None, Null, Option, Row, Run, Some, Term, [], all-map, ap, append-nil, ap₂, arith, binary, col, drop, entries_of, entry_row, entry_rows, false, filter, filter-append, filter-map, filter_none, filter_same, flat_map, from_truth, holds, is_true, list_all, map, map-map, map_same, nat_tests, option_to_list, pos, refl, run_at, slice_get, subst, suc, sym, true, zero, ℕ, ◌&&◌, ◌++◌, ◌+◌, ◌<◌, ◌==◌, ◌∙◌, ◌∷◌, ◌≡◌, ◌≢◌}
use Rattle.kt_store.proofs.SqlFacts.{is}
use Rattle.kt_store.proofs.Values.{same_test}

-- `back row`: the stored form of the columns `row`, with NULL in place of the rowid
abbrev pub back : Row → Row
back row = Null ∷ row

module _ {X : Type 0} (stored all : List Row) (are : IsPermutation all (map (drop 1) stored)) (passes : Row → Bool) (show : Row → X)
    (same_passes : (r : Row) → passes r ≡ passes (back (drop 1 r))) (same_show : (r : Row) → show r ≡ show (back (drop 1 r))) where
  without_id : (rows : List Row) → map show (filter passes rows) ≡ map (λ r. show (back r)) (filter (λ r. passes (back r)) (map (drop 1) rows))
  without_id rows =
      ap (map show) (filter_same passes (λ r. passes (back (drop 1 r))) same_passes rows) ∙ map_same show (λ r. show (back (drop 1 r))) same_show (filter (λ r. passes (back (drop 1 r))) rows)
      ∙ sym (map-map (λ r. show (back r)) (drop 1) (filter (λ r. passes (back (drop 1 r))) rows)) ∙ ap (map (λ r. show (back r))) (sym (filter-map (λ r. passes (back r)) (drop 1) rows))

  pub of_stored : IsPermutation (map (λ r. show (back r)) (filter (λ r. passes (back r)) all)) (map show (filter passes stored))
  of_stored = subst (λ l. IsPermutation (map (λ r. show (back r)) (filter (λ r. passes (back r)) all)) l) (sym (without_id stored))
      (IsPermutation-map (λ r. show (back r)) _ _ (IsPermutation-filter (λ r. passes (back r)) all (map (drop 1) stored) are))

-- a filter over the rows of all runs that keeps only rows of run `n`
module _ (test : Row → Bool) (rows shown : Run → List Row) (n : ℕ) (here : (r : Run) → r.number ≡ n → filter test (rows r) ≡ shown r) (apart : (r : Run) → r.number ≢ n → filter test (rows r) ≡ []) where
  none_later : (from : ℕ) (runs : List Run) → AreNumbered from runs → n < from → filter test (flat_map rows runs) ≡ []
  none_later from [] h low = refl
  none_later from (r ∷ runs) h low =
      filter-append test (rows r) (flat_map rows runs) ∙ ap₂ (λ x y. x ++ y) (apart r (λ e. omega (arith, e, h.0, low))) (none_later (suc from) runs h.1 (omega (arith, low)))

  one_from : (from k : ℕ) (runs : List Run) → n ≡ from + k → AreNumbered from runs → filter test (flat_map rows runs) ≡ flat_map shown (option_to_list (slice_get runs k))
  one_from from k [] is h = refl
  one_from from zero (r ∷ runs) is h =
      filter-append test (rows r) (flat_map rows runs) ∙ ap₂ (λ x y. x ++ y) (here r (omega (arith, is, h.0))) (none_later (suc from) runs h.1 (omega (arith, is)))
  one_from from (suc k) (r ∷ runs) is h =
      filter-append test (rows r) (flat_map rows runs) ∙ ap₂ (λ x y. x ++ y) (apart r (λ e. omega (arith, e, is, h.0))) (one_from (suc from) k runs (omega (arith, is)) h.1)

pub of_one : (test : Row → Bool) (rows shown : Run → List Row) (n : ℕ) → ((r : Run) → r.number ≡ n → filter test (rows r) ≡ shown r) → ((r : Run) → r.number ≢ n → filter test (rows r) ≡ [])
    → (runs : List Run) → AreNumbered 1 runs → filter test (flat_map rows runs) ≡ flat_map shown (option_to_list (run_at runs n))
of_one test rows shown zero here apart runs h = none_later test rows shown 0 here apart 1 runs h (omega arith)
of_one test rows shown (suc k) here apart runs h = one_from test rows shown (suc k) here apart 1 k runs (omega arith) h

-- a filter over the rows of all entries that keeps only entries of run `n`
module _ (test : Row → Bool) (keep : Entry → Bool) (n : ℕ) (each : (m : ℕ) (e : Entry) → test (entry_row m e) ≡ (m == n) && keep e) where
  hit : (m : ℕ) → m ≡ n → (es : List Entry) → filter test (map (entry_row m) es) ≡ map (entry_row n) (filter keep es)
  hit m is es =
      let same : (m == n) ≡ true = grind (arith, nat_tests, is) in
      filter-map test (entry_row m) es ∙ ap (map (entry_row m)) (filter_same (λ e. test (entry_row m e)) keep (λ e. rw (each m e, same) refl) es) ∙ ap (λ k. map (entry_row k) (filter keep es)) is

  miss : (m : ℕ) → m ≢ n → (es : List Entry) → filter test (map (entry_row m) es) ≡ []
  miss m apart es =
      let other : (m == n) ≡ false = grind (arith, nat_tests, apart) in
      filter_none test (map (entry_row m) es) (all-map (λ r. test r ≡ false) (entry_row m) (λ e. rw (each m e, other) refl) es)

pub of_run : (test : Row → Bool) (keep : Entry → Bool) (n : ℕ) (runs : List Run) → ((m : ℕ) (e : Entry) → test (entry_row m e) ≡ (m == n) && keep e) → AreNumbered 1 runs
    → filter test (entry_rows runs) ≡ map (entry_row n) (filter keep (entries_of (run_at runs n)))
of_run test keep n runs each h =
    of_one test (λ (r : Run). map (entry_row r.number) r.entries) (λ (r : Run). map (entry_row n) (filter keep r.entries)) n (λ r is. hit test keep n each r.number is r.entries) (λ r other. miss test keep n each r.number other r.entries) runs h
    ∙ found (run_at runs n)
  where
    found : (o : Option Run) → flat_map (λ (r : Run). map (entry_row n) (filter keep r.entries)) (option_to_list o) ≡ map (entry_row n) (filter keep (entries_of o))
    found None = refl
    found (Some r) = append-nil (map (entry_row n) (filter keep r.entries))

pub truth : (a : Bool) → is_true (from_truth (Some a)) ≡ a
truth true = refl
truth false = refl

pub and_true : (b : Bool) → b && true ≡ b
and_true true = refl
and_true false = refl

-- the WHERE that compares the first column with the first parameter, the run
abbrev pub tests : List Term
tests = is (col 1 1) (col 0 0) ∷ []

abbrev pub passes : Row → Row → Bool
passes params r = list_all (holds (params ∷ r ∷ [])) tests

pub same_passes : (params r : Row) → passes params r ≡ passes params (back (drop 1 r))
same_passes params [] = refl
same_passes params (x ∷ r) = refl

pub each : (n m : ℕ) (e : Entry) → passes (Int (pos n) ∷ []) (back (entry_row m e)) ≡ (m == n) && true
unfolding binary
each n m e = ap (λ a. is_true (from_truth (Some a)) && true) (same_test m n) ∙ ap (λ b. b && true) (truth (m == n))

-- a filter that keeps all items changes nothing
pub all_pass : {X : Type 0} (xs : List X) → filter (λ (x : X). true) xs ≡ xs
all_pass [] = refl
all_pass (x ∷ xs) = ap (λ l. x ∷ l) (all_pass xs)
