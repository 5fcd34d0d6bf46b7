-- The error of a failed allocation, which stops a command.
use Rattle.std.specs.Prelude.{◌≡◌, Result, Err}
use Rattle.kt_plan.specs.Types.{NoMemory as OutOfMemory, SelectionError}
use Rattle.kt_plan.specs.declared.selection_error.SelectionError.TheVariants as stop

-- `IsNoMemoryError fault`: `fault`, the error of a command, is a failed allocation.
abbrev pub IsNoMemoryError : SelectionError → Type 0
IsNoMemoryError fault = (refusal : OutOfMemory) × (fault ≡ stop.NoMemory refusal)

-- `HoldsOrNoMemory IsNoMemory IsPrefix Holds result calls`: a step of a command made the calls
-- `calls` and had the result `result`. Either `Holds` is true of both, or an allocation failed. In
-- the second case, `result` is an error that meets `IsNoMemory`, and `IsPrefix` is true of `calls`,
-- the calls before the failure.
pub data HoldsOrNoMemory {C T E : Type 0} (IsNoMemory : E → Type 0) (IsPrefix : C → Type 0) (Holds : C → Result T E → Type 0) : Result T E → C → Type 0 where
  finished : (result : Result T E) (calls : C) → Holds calls result → HoldsOrNoMemory IsNoMemory IsPrefix Holds result calls
  memory_ran_out : (fault : E) (calls : C) → IsNoMemory fault → IsPrefix calls → HoldsOrNoMemory IsNoMemory IsPrefix Holds (Err fault) calls
