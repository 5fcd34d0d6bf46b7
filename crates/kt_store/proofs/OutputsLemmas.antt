-- The entry of a run at a position, found by its stored row.
use Rattle.kt_store.proofs.Common.{Bool, Entry, List, None, Option, Row, Run, Some, ap, arith, cases_lt, entries_of, entry_at, entry_row, filter, find, inl, inr, greatest_run_number, length, map, option_map, refl, run_at, slice_get, slice_get-filter, slice_get-map, slice_get_past, subst, suc, sym, zero, ℕ, ◌<◌, ◌==◌, ◌∙◌, ◌≡◌, ◌≢◌, ◌≤◌}
use Rattle.kt_store.proofs.Values.{some_mapped, none_mapped}

-- `has p e`: `true` if the entry `e` has position `p`
abbrev pub has : ℕ → Entry → Bool
has p e = e.position == p

-- the first of the rows of entries at a position is that of the first such entry
first_is : (f : Entry → Row) (p : ℕ) (es : List Entry) → slice_get (map f (filter (has p) es)) 0 ≡ option_map f (find (has p) es)
first_is f p es = slice_get-map f (filter (has p) es) 0 ∙ ap (option_map f) (slice_get-filter (has p) es)

-- a stored row at a position is that of the run's entry at this position
pub row_there : (o : Option Run) (n p : ℕ) (row : Row) → Some row ≡ slice_get (map (entry_row n) (filter (has p) (entries_of o))) 0 → (e : Entry) × (entry_at o p ≡ Some e) × (row ≡ entry_row n e)
row_there None n p row first = absurd cc
row_there (Some r) n p row first = some_mapped (entry_row n) (find (has p) r.entries) row (first ∙ first_is (entry_row n) p r.entries)

pub no_row : (o : Option Run) (n p : ℕ) → None ≡ slice_get (map (entry_row n) (filter (has p) (entries_of o))) 0 → entry_at o p ≡ None
no_row None n p none = refl
no_row (Some r) n p none = none_mapped (entry_row n) (find (has p) r.entries) (none ∙ first_is (entry_row n) p r.entries)

run_past : (runs : List Run) (run : ℕ) → length runs < run → run_at runs run ≡ None
run_past runs zero low = refl
run_past runs (suc k) low = slice_get_past runs k (omega (arith, low))

-- no run has a number that differs from its key in the tables (`lookup::key`)
pub past_run : (runs : List Run) (run number : ℕ) → length runs ≤ greatest_run_number → (run ≤ greatest_run_number → number ≡ run) → number ≢ run → run_at runs run ≡ None
past_run runs run number few same other = elim (cases_lt greatest_run_number run) [
  | inl past ↦ run_past runs run (omega (arith, few, past))
  | inr low ↦ absurd (other (same low))
]

-- a number and its key in the tables find the same run
pub same_run : (runs : List Run) (run number : ℕ) → length runs ≤ greatest_run_number → (run ≤ greatest_run_number → number ≡ run) → (greatest_run_number < run → number ≡ 0) → run_at runs number ≡ run_at runs run
same_run runs run number few same none = elim (cases_lt greatest_run_number run) [
  | inl past ↦ ap (run_at runs) (none past) ∙ sym (run_past runs run (omega (arith, few, past)))
  | inr low ↦ ap (run_at runs) (same low)
]

-- a fact about `None` and about the run with the key holds for the run with the requested number
pub no_run : (P : Option Run → Type 0) → P None → (runs : List Run) (run number : ℕ) → length runs ≤ greatest_run_number → (run ≤ greatest_run_number → number ≡ run) → P (run_at runs number) → P (run_at runs run)
no_run P none runs run number few same here = elim (cases_lt greatest_run_number run) [
  | inl past ↦ subst P (sym (run_past runs run (omega (arith, few, past)))) none
  | inr low ↦ subst (λ (n : ℕ). P (run_at runs n)) (same low) here
]
