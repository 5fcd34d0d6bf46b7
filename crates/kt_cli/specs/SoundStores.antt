-- The effect of a command on the runs of a sound store, which returns exactly what was written.
use Rattle.std.specs.Prelude.{ℕ, suc, Bool, true, List, [], ◌∷◌, ◌++◌, ◌≡◌, ◌⊎◌, Option, Some, None, IfSome, Ok, Err, length}
use Rattle.std.specs.List.{AllByRecursion}
use Rattle.kt_cli.specs.Types.{Began, Command, Entry, Finished, Head, IsDatabaseFault, Outline, Outputs, Pairs, Put, Run, StoreCall, StoreFault}
use Rattle.kt_store.specs.declared.result_store.StoreSpec as keeping
use Rattle.kt_store.specs.declared.store_fault.StoreFault.TheVariants.{StoreFull}
use Rattle.kt_cli.specs.Command.{CommandResult}
use Rattle.kt_cli.specs.CommandStates.{CommandState, World}
use Rattle.kt_cli.specs.Stores.{entries_by_position, runs_after_calls}

-- `with_new_run runs moment total finished entries`: `runs` with one run appended, which has the
-- start `moment`, `total` cases, the flag `finished`, and `entries` sorted by their positions in
-- the plan.
abbrev pub with_new_run : List Run → ℕ → ℕ → Bool → List Entry → List Run
with_new_run runs moment total finished entries = runs ++ record { number = suc (length runs); started = moment; total = total; finished = finished; entries = entries_by_position entries } ∷ []

-- `entries_put calls`: the entries of the successful puts among `calls`, in the order of the calls.
abbrev pub entries_put : List StoreCall → List Entry
entries_put [] = []
entries_put (Put number e (Ok done) ∷ calls) = e ∷ entries_put calls
entries_put (other ∷ calls) = entries_put calls

-- `call_fault call`: the fault of `call`, or `None` if the call succeeded.
abbrev pub call_fault : StoreCall → Option StoreFault
call_fault (Began total moment (Err fault)) = Some fault
call_fault (Put number e (Err fault)) = Some fault
call_fault (Finished number (Err fault)) = Some fault
call_fault (Head number (Err fault)) = Some fault
call_fault (Outline number (Err fault)) = Some fault
call_fault (Pairs number position (Err fault)) = Some fault
call_fault (Outputs number position (Err fault)) = Some fault
call_fault done = None

-- `HasAllowedFault call`: if `call` failed, the cause is that memory ran out, that the database
-- failed, or that the store has the maximum number of runs.
abbrev pub HasAllowedFault : StoreCall → Type 0
HasAllowedFault call = IfSome (call_fault call) (λ fault. IsDatabaseFault fault ⊎ (fault ≡ StoreFull))

-- `AddsAtMostOneRun runs calls`: `calls` left `runs` unchanged, or appended a run with the entries
-- that they put. The run is finished only if the number of these entries is its total.
pub data AddsAtMostOneRun (runs : List Run) (calls : List StoreCall) : Type 0 where
  none : runs_after_calls calls runs ≡ runs → AddsAtMostOneRun runs calls
  one_run : (moment total : ℕ) (finished : Bool) → runs_after_calls calls runs ≡ with_new_run runs moment total finished (entries_put calls)
      → (finished ≡ true → length (entries_put calls) ≡ total) → AddsAtMostOneRun runs calls

module _ {W R : Type 0} {w : World W} {r : keeping.Ghosts R} {c : Command} {old new : CommandState W R} {exit : ℕ} (did : CommandResult w r c old new exit) (runs : List Run) where
  -- `IsSoundExecution did runs`: each store call of the command execution `did` meets
  -- `HasAllowedFault`. All its store calls together meet `AddsAtMostOneRun` for `runs`, the runs
  -- before the command. For each store, `CommandResult.stored` states when the results of the calls
  -- agree with the runs, and which runs a crash leaves.
  pub record IsSoundExecution : Type 0 where
    pub only_fails : AllByRecursion HasAllowedFault did.seen.calls
    pub adds : AddsAtMostOneRun runs did.seen.calls
