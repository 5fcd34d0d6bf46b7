-- The calls of a driver over a whole trace.
use Rattle.std.specs.Prelude.{◌≡◌, ℕ, List, [], ◌++◌, Some, slice_get}
use Rattle.kt_child.specs.Types.{Chain, Job, Trace}
use Rattle.kt_child.specs.declared.driving.driver.Driver.{Driver}
use Rattle.kt_sched.specs.Trace.{NoEvent, Then, Event, Start, End, Leads}
use Rattle.kt_os.specs.System.Calls.{Call}
use Rattle.kt_child.specs.Driving.DriverState.{DriverState, Ends, Starts, driver_state}
use Rattle.kt_child.specs.Driving.DriverSteps.{DriverStarts, DriverWaits}

-- `plan` has the jobs. The paths of programs are relative to the directory `source`. The
-- directories of attempts are below `root`, the root directory of the driver.
module _ (plan : List Job) (source root : List ℕ) where
  -- `HandlesEvent old calls event new`: `calls` are all calls to the system for `event`, a start or
  -- an end of a child. The driver state goes from `old` to `new`.
  abbrev pub HandlesEvent : DriverState → List Call → Event → DriverState → Type 0
  HandlesEvent old calls (Start i role answer) new = (job : Job) × (slice_get plan i ≡ Some job) × Starts source root old job role calls answer new
  HandlesEvent old calls (End ended) new = Ends old calls ended new

  -- `Runs old T calls new`: `calls` are all calls to the system for the events of the trace `T`, in
  -- order. The driver state goes from `old` to `new`.
  abbrev pub Runs : DriverState → Trace → List Call → DriverState → Type 0
  Runs old NoEvent calls new = (calls ≡ []) × (new ≡ old)
  Runs old (Then T event) calls new =
      (mid : DriverState) × (before : List Call) × (asked : List Call) × (calls ≡ before ++ asked) × Runs old T before mid × HandlesEvent mid asked event new

-- `leads` is the relation of the system's calls.
module _ {O : Type 0} (leads : O → Call → O → Type 0) where
  -- `RunsFrom plan T b old new`: all calls that lead the driver from the state `old` to `new` are
  -- those of the trace `T` of `plan` (`Runs`). The trace begins with the driver state `b`.
  abbrev pub RunsFrom : List Job → Trace → DriverState → Driver O → Driver O → Type 0
  RunsFrom plan T b old new = (calls : List Call) × Chain leads old.os calls new.os × Runs plan old.source old.root b T calls (driver_state new)

  -- `CallsMatchTraces`: for each trace of a driver, the driver's calls to the system are exactly
  -- those that `RunsFrom` states for the events of the trace. So the results of the calls determine
  -- each end in the trace.
  abbrev pub CallsMatchTraces : Type 0
  CallsMatchTraces =
      (plan : List Job) (T : Trace) (d e : Driver O) → Leads (DriverStarts leads) (DriverWaits leads) plan T d e → RunsFrom plan T (driver_state d) d e
