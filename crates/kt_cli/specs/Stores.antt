-- The effect of a sequence of store calls on the represented runs.
use Rattle.std.specs.Prelude.{ℕ, List, [], ◌∷◌, ◌++◌, ⊤, Ok, Err}
use Rattle.kt_cli.specs.Types.{Agrees, Began, Chain, Entry, Finished, Head, Outline, Outputs, Pairs, Put, Run, StoreCall, runs_after, with_entry}
use Rattle.kt_store.specs.Runs.{new_run, insert_by_position, finish}
use Rattle.kt_store.specs.declared.result_store.StoreSpec as keeping

-- `with_entries_inserted present entries`: the entries `present` with each of `entries` inserted in
-- the order of their positions in the plan.
abbrev pub with_entries_inserted : List Entry → List Entry → List Entry
with_entries_inserted present [] = present
with_entries_inserted present (e ∷ es) = with_entries_inserted (insert_by_position e present) es

-- `entries_by_position entries`: `entries` sorted by their positions in the plan.
abbrev pub entries_by_position : List Entry → List Entry
entries_by_position entries = with_entries_inserted [] entries

-- `put_calls number entries`: the calls that put each of `entries` into run `number`, all
-- successful.
abbrev pub put_calls : ℕ → List Entry → List StoreCall
put_calls number [] = []
put_calls number (e ∷ es) = Put number e (Ok tt) ∷ put_calls number es

-- `crash_runs_after call runs may`: the lists of runs that a crash after `call` may leave, apart
-- from the list that the store then represents. Before the call the store represents `runs`, and a
-- crash may leave `runs` or one of `may`.
abbrev pub crash_runs_after : StoreCall → List Run → List (List Run) → List (List Run)
crash_runs_after (Began total moment (Ok number)) runs may = []
crash_runs_after (Began total moment (Err fault)) runs may = (runs ++ new_run runs total moment ∷ []) ∷ may
crash_runs_after (Put number e (Ok done)) runs may = []
crash_runs_after (Put number e (Err fault)) runs may = with_entry number e runs ∷ may
crash_runs_after (Finished number (Ok done)) runs may = []
crash_runs_after (Finished number (Err fault)) runs may = finish number runs ∷ may
crash_runs_after (Head number answer) runs may = may
crash_runs_after (Outline number answer) runs may = may
crash_runs_after (Pairs number position answer) runs may = may
crash_runs_after (Outputs number position answer) runs may = may

-- ---- calls in sequence

-- `runs_after_calls calls runs`: the runs of a store that had `runs`, after `calls` were made in
-- order.
abbrev pub runs_after_calls : List StoreCall → List Run → List Run
runs_after_calls [] runs = runs
runs_after_calls (call ∷ calls) runs = runs_after_calls calls (runs_after call runs)

-- `crash_runs_after_calls calls runs may`: the lists of runs that a crash after `calls` may leave,
-- apart from the list that the store then represents. Before the calls the store represents `runs`,
-- and a crash may leave `runs` or one of `may`.
abbrev pub crash_runs_after_calls : List StoreCall → List Run → List (List Run) → List (List Run)
crash_runs_after_calls [] runs may = may
crash_runs_after_calls (call ∷ calls) runs may = crash_runs_after_calls calls (runs_after call runs) (crash_runs_after call runs may)

-- `Agree runs calls`: on a store with `runs`, `calls` are made in order, and the result of each
-- call is correct for the runs before this call.
abbrev pub Agree : List Run → List StoreCall → Type 0
Agree runs [] = ⊤
Agree runs (call ∷ calls) = Agrees runs call × Agree (runs_after call runs) calls

module _ {R : Type 0} (r : keeping.Ghosts R) where
  -- `ChangesRuns r calls old new`: the effect of `calls` on a store with the specification `r`,
  -- from state `old` to `new`. If `old` represents `runs`, `new` represents the runs after `calls`.
  -- If `new` is then sound, `old` was sound, and the result of each call is correct. If a crash in
  -- `old` left `runs` or one of `may`, a crash in `new` leaves the runs after `calls` or one of
  -- `crash_runs_after_calls calls runs may`.
  pub record ChangesRuns (calls : List StoreCall) (old new : R) : Type 0 where
    pub stands : (runs : List Run) → r.stands old runs → r.stands new (runs_after_calls calls runs)
    pub earlier : (runs : List Run) → r.stands old runs → r.sound new → r.sound old
    pub agree : (runs : List Run) → r.stands old runs → r.sound new → Agree runs calls
    pub crash : (runs : List Run) (may : List (List Run)) → r.stands old runs → r.leaves old (runs ∷ may) → r.leaves new (runs_after_calls calls runs ∷ crash_runs_after_calls calls runs may)

  -- `CallsStore r calls old new`: `calls` with their results lead a store with the specification
  -- `r` from state `old` to `new`, with the effect `ChangesRuns`.
  pub record CallsStore (calls : List StoreCall) (old new : R) : Type 0 where
    pub answered : Chain r.answers old calls new
    pub kept : ChangesRuns calls old new
