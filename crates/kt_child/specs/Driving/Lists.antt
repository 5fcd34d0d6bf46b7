-- A list of test cases that an ATF program prints.
use Rattle.std.specs.Prelude.{◌≡◌, ◌<◌, ◌+◌, ◌-◌, ◌^◌, ◌⊎◌, ℕ, List, [], ◌∷◌, ◌++◌, Bool, Result, Ok, Err}
use Rattle.kt_child.specs.Types.{CaseAttempt, Chain, FileRead, ListBytes, Listing, OsFault, Outcome, SpawnPlan, Variable, RunningChild}
use Rattle.kt_child.specs.declared.driving.driver.Driver.{Driver}
use Rattle.kt_base.specs.declared.failed_start.Refused.TheVariants.{Memory, Directory}
use Rattle.kt_atflist.specs.declared.listing.Listing.TheVariants.{Refused as RefusedFor, Ended}
use Rattle.kt_os.specs.System.Calls.{Call, ReadFile, RemoveTree}
use Rattle.kt_child.specs.Driving.DriverState.{PolledChild, FinishesByPolls, polled_children}
use Rattle.kt_child.specs.Driving.JobPlan.{list_case, list_purpose, spawn_plan_for}
use Rattle.kt_child.specs.Driving.Starting.{SpawnsByPlan, new_running_child}
use Rattle.kt_child.specs.Polling.Rounds.{PollsInRounds}
use Rattle.kt_child.specs.Ending.Reads.{IsListWithin, list_of}

-- `AwaitsList plan c calls outcome bytes`: `plan` and `c` are the `SpawnPlan` and the case of a
-- program that lists its test cases. `calls` poll the program until it has finished, read at most
-- 1,048,576 bytes of its output and remove its directory. `outcome` follows from all responses to
-- the polls, and `bytes` is the list in the output (`list_of`).
abbrev pub AwaitsList : SpawnPlan → CaseAttempt → List Call → Outcome → ListBytes → Type 0
AwaitsList plan c calls outcome bytes =
    (place : ℕ) × (left : List RunningChild) × (polls : List Call) × (read : Result FileRead OsFault) × (done : Bool)
    × (calls ≡ polls ++ ReadFile plan.out 1048576 read ∷ RemoveTree plan.dir done ∷ [])
    × PollsInRounds (new_running_child plan.limit c ∷ []) polls place outcome left
    × ((after : List PolledChild) × (over : PolledChild) × FinishesByPolls (polled_children (new_running_child plan.limit c ∷ [])) polls after place over outcome)
    × (bytes ≡ list_of read) × IsListWithin bytes

-- `RunsList plan c calls result`: `plan` and `c` are the `SpawnPlan` and the case of a program that
-- lists its test cases. `calls` are all calls from the start of the program to the removal of its
-- directory. `result` is the cause of a refusal, or the program's outcome and its list.
abbrev pub RunsList : SpawnPlan → CaseAttempt → List Call → Listing → Type 0
RunsList plan c calls (RefusedFor cause) = SpawnsByPlan plan calls (Err cause)
RunsList plan c calls (Ended outcome bytes) =
    (start : List Call) × (more : List Call) × (calls ≡ start ++ more)
    × SpawnsByPlan plan start (Ok tt) × AwaitsList plan c more outcome bytes

-- `leads` is the relation of the system's calls.
module _ {O : Type 0} (leads : O → Call → O → Type 0) where
  -- `ListsProgram old program variables answer new`: `new` is the driver `old` after it listed the
  -- test cases of `program`, with the suite's `variables` and the result `answer`. Each listing
  -- uses an attempt number, if a number is left. No call is made if no number is left or an
  -- allocation of the driver fails.
  abbrev pub ListsProgram : Driver O → List ℕ → List Variable → Listing → Driver O → Type 0
  ListsProgram old program variables answer new =
      ((old.next ≡ 2 ^ 64 - 1) × (answer ≡ RefusedFor Directory) × (new.os ≡ old.os) × (new.next ≡ old.next))
      ⊎ ((old.next < 2 ^ 64 - 1) × (new.next ≡ old.next + 1) × (answer ≡ RefusedFor Memory) × (new.os ≡ old.os))
      ⊎ ((old.next < 2 ^ 64 - 1) × (new.next ≡ old.next + 1)
      × ((calls : List Call) × Chain leads old.os calls new.os
      × RunsList (spawn_plan_for old.source (list_purpose program variables) (list_case old.root old.next)) (list_case old.root old.next) calls answer))
