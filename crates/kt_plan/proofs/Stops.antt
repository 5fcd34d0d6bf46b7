-- Lemmas on steps that may end early because an allocation failed.
use Rattle.std.proofs.Common.{Result, Ok, Err, IsErrAnd, ◌≡◌}
use Rattle.kt_plan.proofs.Common.{HoldsOrNoMemory, IsNoMemoryError, finished, memory_ran_out, SelectionError}
use Rattle.kt_base.specs.declared.no_memory.NoMemory.{NoMemory as OutOfMemory}
use Rattle.kt_plan.specs.declared.selection_error.SelectionError.TheVariants as stop

module _ {C T E : Type 0} {IsNoMemory : E → Type 0} {IsPrefix : C → Type 0} {Holds : C → Result T E → Type 0} {calls : C} where
  -- A step with a value did not run out of memory.
  pub held : {value : T} → HoldsOrNoMemory IsNoMemory IsPrefix Holds (Ok value) calls → Holds calls (Ok value)
  held (finished _ _ h) = h

  -- An error of one step is the error of another if each way to it is a way to it there.
  pub error_as : {D U : Type 0} {IsLonger : D → Type 0} {Means : D → Result U E → Type 0} {others : D} {fault : E} → (IsPrefix calls → IsLonger others)
      → (Holds calls (Err fault) → Means others (Err fault)) → HoldsOrNoMemory IsNoMemory IsPrefix Holds (Err fault) calls → HoldsOrNoMemory IsNoMemory IsLonger Means (Err fault) others
  error_as longer means (finished _ _ h) = finished _ _ (means h)
  error_as longer means (memory_ran_out _ _ m p) = memory_ran_out _ _ m (longer p)

-- A failed allocation may be the result of a step after a prefix of its calls.
pub ran_out : {C T : Type 0} {IsPrefix : C → Type 0} {Holds : C → Result T SelectionError → Type 0} (calls : C) (result : Result T SelectionError) (refusal : OutOfMemory)
    → IsErrAnd result (λ e. e ≡ stop.NoMemory refusal) → IsPrefix calls → HoldsOrNoMemory IsNoMemoryError IsPrefix Holds result calls
ran_out calls (Ok value) refusal r p = absurd r
ran_out calls (Err fault) refusal r p = memory_ran_out fault calls (refusal, r) p
