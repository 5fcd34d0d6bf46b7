-- The effect of the INSERT of `put`, and the rows of entries and properties after an entry is
-- added.
use Rattle.kt_store.proofs.Common.{AllByRecursion, AreNumbered, Bool, Chosen, Enforced, Entry, Equal, Greater, HaveNoPairs, IsPermutation, IsPermutation-append_comm, IsPermutation-append_left, IsPermutation-append_right, IsPermutation-cons, IsPermutation-middle, IsPermutation-refl, IsPermutation-trans, Less, List, Ordering, Row, Run, Trees, [], ap, append_assoc, arith, cond, edit_of, entries_table, entry_row, entry_rows, false, flat_map, flat_map_same_on, flat_map_single, insert_by_position, is_eq, is_taken, length, map, match_ordering, nat_lt, nat_tests, pair_rows, pair_rows_from, prop_rows, put_row, refl, rowid, schema_2, subst, subst₂, suc, sym, taken_by, true, value_cmp, value_rows, with_entry, works, zero, ℕ, ◌++◌, ◌+◌, ◌<◌, ◌==◌, ◌||◌, ◌∙◌, ◌∷◌, ◌≡◌}
use Rattle.kt_store.proofs.SqlFacts.{put_terms}

-- a row with a new rowid is added to the others
pub put_beside : (new : Row) (rows : List Row) → is_taken rows new ≡ false → IsPermutation (new ∷ rows) (put_row new rows)
put_beside new [] free = IsPermutation-refl (new ∷ [])
put_beside new (r ∷ rows) free = go (value_cmp (rowid r) (rowid new)) free (put_beside new rows)
  where
    go : (o : Ordering) → (is_eq o || is_taken rows new) ≡ false → (is_taken rows new ≡ false → IsPermutation (new ∷ rows) (put_row new rows))
        → IsPermutation (new ∷ r ∷ rows) (match_ordering o (r ∷ put_row new rows) (new ∷ rows) (new ∷ r ∷ rows))
    go Less free more = IsPermutation-trans _ _ _ (IsPermutation-middle (new ∷ []) r rows) (IsPermutation-cons r (new ∷ rows) (put_row new rows) (more free))
    go Equal free more = absurd (let e : true ≡ false = free in cc)
    go Greater free more = IsPermutation-refl (new ∷ r ∷ rows)

abbrev pub put_rows : ℕ → Entry → List Row
put_rows run e = value_rows (entry_row run e) 13 1 put_terms

pub put_works : (params : Row) (trees : Trees) → let edit = edit_of trees entries_table [] Chosen 0 (value_rows params 13 1 put_terms) in works schema_2 Enforced 0 edit.table.tree (taken_by trees edit) edit.news ≡ []
put_works params trees = refl

-- ---- the rows after an entry is added

swap_blocks : {X : Type 0} (a b c : List X) → IsPermutation (a ++ (b ++ c)) (b ++ (a ++ c))
swap_blocks a b c = subst₂ IsPermutation (append_assoc a b c) (append_assoc b a c) (IsPermutation-append_left c (a ++ b) (b ++ a) (IsPermutation-append_comm a b))

-- `of run e`: the rows of entry `e` in the run with number `run`, in either table
module _ (of : ℕ → Entry → List Row) where
  -- the rows of a new entry and of a run's entries are those of the entries with the new one
  -- inserted, in some order
  inserted : (run : ℕ) (e : Entry) (es : List Entry) → IsPermutation (of run e ++ flat_map (of run) es) (flat_map (of run) (insert_by_position e es))
  inserted run e [] = IsPermutation-refl _
  inserted run e (x ∷ es) = go (nat_lt e.position x.position) (inserted run e es)
    where
      go : (b : Bool) → IsPermutation (of run e ++ flat_map (of run) es) (flat_map (of run) (insert_by_position e es))
          → IsPermutation (of run e ++ (of run x ++ flat_map (of run) es)) (flat_map (of run) (cond b (e ∷ x ∷ es) (x ∷ insert_by_position e es)))
      go true more = IsPermutation-refl _
      go false more = IsPermutation-trans _ _ _ (swap_blocks (of run e) (of run x) (flat_map (of run) es)) (IsPermutation-append_right (of run x) _ _ more)

  abbrev rows_of : Run → List Row
  rows_of r = flat_map (of r.number) r.entries

  more : (from k : ℕ) (e : Entry) (runs : List Run) → AreNumbered from runs → k < length runs → IsPermutation (of (from + k) e ++ flat_map rows_of runs) (flat_map rows_of (with_entry (from + k) e runs))
  more from k e [] h low = absurd (omega (arith, low))
  more from zero e (r ∷ runs) h low =
      let same : (r.number == from + 0) ≡ true = grind (arith, nat_tests, h.0) in
      let number : from + 0 ≡ r.number = omega (arith, h.0) in
      rw same (subst (λ n. IsPermutation (of n e ++ flat_map rows_of (r ∷ runs)) (flat_map (of r.number) (insert_by_position e r.entries) ++ flat_map rows_of runs)) (sym number)
      (subst (λ l. IsPermutation l (flat_map (of r.number) (insert_by_position e r.entries) ++ flat_map rows_of runs)) (append_assoc (of r.number e) (rows_of r) (flat_map rows_of runs))
      (IsPermutation-append_left (flat_map rows_of runs) (of r.number e ++ rows_of r) (flat_map (of r.number) (insert_by_position e r.entries)) (inserted r.number e r.entries))))
  more from (suc k) e (r ∷ runs) h low =
      let apart : (r.number == from + suc k) ≡ false = grind (arith, nat_tests, h.0) in
      let place : suc from + k ≡ from + suc k = omega arith in
      let rest : IsPermutation (of (from + suc k) e ++ flat_map rows_of runs) (flat_map rows_of (with_entry (from + suc k) e runs)) =
      subst (λ n. IsPermutation (of n e ++ flat_map rows_of runs) (flat_map rows_of (with_entry n e runs))) place (more (suc from) k e runs h.1 (omega (arith, low))) in
      rw apart (IsPermutation-trans _ _ _ (swap_blocks (of (from + suc k) e) (rows_of r) (flat_map rows_of runs))
      (IsPermutation-append_right (rows_of r) (of (from + suc k) e ++ flat_map rows_of runs) (flat_map rows_of (with_entry (from + suc k) e runs)) rest))

pub more_pairs : (from k : ℕ) (e : Entry) (runs : List Run) → AreNumbered from runs → k < length runs → IsPermutation (pair_rows (from + k) e ++ prop_rows runs) (prop_rows (with_entry (from + k) e runs))
more_pairs = more pair_rows

-- `single run e`: the rows of entry `e` of run `run` in the table `entries`, which is one row
abbrev single : ℕ → Entry → List Row
single run e = entry_row run e ∷ []

singles : (runs : List Run) → flat_map (λ (r : Run). flat_map (single r.number) r.entries) runs ≡ entry_rows runs
singles = flat_map_same_on (λ (r : Run). flat_map (single r.number) r.entries) (λ (r : Run). map (entry_row r.number) r.entries) (λ r. flat_map_single (entry_row r.number) r.entries)

pub more_rows : (from k : ℕ) (e : Entry) (runs : List Run) → AreNumbered from runs → k < length runs → IsPermutation (entry_row (from + k) e ∷ entry_rows runs) (entry_rows (with_entry (from + k) e runs))
more_rows from k e runs h low =
    subst₂ (λ old new. IsPermutation (entry_row (from + k) e ∷ old) new) (singles runs) (singles (with_entry (from + k) e runs)) (more single from k e runs h low)

none_of : (run : ℕ) (es : List Entry) → AllByRecursion (λ (e : Entry). e.meta ≡ []) es → flat_map (pair_rows run) es ≡ []
none_of run [] h = refl
none_of run (e ∷ es) h = ap (λ l. l ++ flat_map (pair_rows run) es) (ap (pair_rows_from run e.position 0) h.0) ∙ none_of run es h.1

-- runs whose entries have no properties have no rows in the table `props`
pub no_pairs : (runs : List Run) → HaveNoPairs runs → prop_rows runs ≡ []
no_pairs [] h = refl
no_pairs (r ∷ runs) h = ap (λ l. l ++ prop_rows runs) (none_of r.number r.entries h.0) ∙ no_pairs runs h.1
