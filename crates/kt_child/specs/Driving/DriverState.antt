-- The state of a driver: its running children with their responses, the cases with a pending
-- cleanup, and the number of the next attempt.
use Rattle.std.specs.Prelude.{◌≡◌, ℕ, ◌+◌, ◌-◌, ◌<◌, ◌^◌, ◌⊎◌, List, [], ◌∷◌, ◌++◌, Bool, Option, Some, None, Result, map, remove, slice_get}
use Rattle.kt_child.specs.Types.{Body, CaseAttempt, Chain, Cleanup, Ended, Job, OsFault, Outcome, ChildState, Refused as RefusedFor, Role, StartAnswer, Started as StartedAt, RunningChild}
use Rattle.kt_child.specs.declared.driving.driver.Driver.{Driver}
use Rattle.kt_base.specs.declared.failed_start.Refused.TheVariants.{Directory}
use Rattle.kt_os.specs.System.Calls.{Call, Kill, Pause, Poll}
use Rattle.kt_child.specs.Planning.ChildPlan.{child_of, paths_of}
use Rattle.kt_child.specs.Polling.ChildOutcome.{ChildResponse, KillResponse, PollResponse, Yields, responses_so_far}
use Rattle.kt_child.specs.Polling.Rounds.{PollsInRounds}
use Rattle.kt_child.specs.Ending.Ends.{FinishesChild}
use Rattle.kt_child.specs.Driving.ChildrenState.{ChildrenState, pending_with}
use Rattle.kt_child.specs.Driving.JobPlan.{case_of, child_timeout_seconds, job_spawn_plan}
use Rattle.kt_child.specs.Driving.Starting.{StartsByPlan}

-- `PolledChild`: a running child with its case, its timeout in seconds, and the results of its
-- polls and its kill since its start.
pub record PolledChild : Type 0 where
  pub case : CaseAttempt
  pub limit : ℕ
  pub responses : List ChildResponse

-- `DriverState`: the running children of a driver in the order of their start, the cases with a
-- pending cleanup, and the next attempt number.
pub record DriverState : Type 0 where
  pub running_children : List PolledChild
  pub pending_cleanups : List CaseAttempt
  pub next : ℕ

-- `polled_children children`: the running children `children` as `PolledChild`, each with the
-- results of its polls and its kill. The poll counts of a child determine these results
-- (`responses_so_far`).
abbrev pub polled_children : List RunningChild → List PolledChild
polled_children children = map (λ k. record { case = k.case; limit = k.limit; responses = responses_so_far k.limit k.counts }) children

-- `driver_state_of b next`: the driver state with the children and pending cleanups of `b`, and the
-- next attempt number `next`.
abbrev pub driver_state_of : ChildrenState → ℕ → DriverState
driver_state_of b next = record { running_children = polled_children b.children; pending_cleanups = b.pending; next = next }

-- `driver_state d`: the running children, the pending cleanups and the next attempt number of the
-- driver `d`.
abbrev pub driver_state : {O : Type 0} → Driver O → DriverState
driver_state d = driver_state_of d.running d.next

-- `TakesAttemptNumber old number new`: an attempt gets the number `number`, and the counter of
-- attempts goes from `old` to `new`. If `old` is 2^64 - 1, `number` is `None` and the counter is
-- unchanged. Otherwise `number` is `old`, and `new` is `old + 1`.
abbrev pub TakesAttemptNumber : ℕ → Option ℕ → ℕ → Type 0
TakesAttemptNumber old None new = (old ≡ 2 ^ 64 - 1) × (new ≡ old)
TakesAttemptNumber old (Some number) new = (old < 2 ^ 64 - 1) × (number ≡ old) × (new ≡ old + 1)

-- `TakesCase root old job role c new`: `c` is the case for the start of a child of `job` in `role`.
-- The driver state goes from `old` to `new`. A body gets the next attempt number and its paths
-- below `root`, the driver's root directory. A cleanup gets the number and the paths of the pending
-- case of `job`, which is removed.
abbrev pub TakesCase : List ℕ → DriverState → Job → Role → CaseAttempt → DriverState → Type 0
TakesCase root old job Body c new =
    TakesAttemptNumber old.next (Some c.attempt) new.next × (new.pending_cleanups ≡ old.pending_cleanups) × (c ≡ case_of job Body old.next (paths_of root old.next))
TakesCase root old job Cleanup c new =
    (place : ℕ) × (pending : CaseAttempt) × (slice_get old.pending_cleanups place ≡ Some pending) × (pending.position ≡ job.position)
    × (new.next ≡ old.next) × (new.pending_cleanups ≡ remove old.pending_cleanups place) × (c ≡ case_of job Cleanup pending.attempt pending.paths)

-- `children_after_start alive job c result`: the running children after a start of a child of `job`
-- with the case `c` and the result `result`. `alive` are the running children before the start. If
-- `result` is `Started`, the child is appended, without responses.
abbrev pub children_after_start : List PolledChild → Job → CaseAttempt → StartAnswer → List PolledChild
children_after_start alive job c (StartedAt moment) = alive ++ record { case = c; limit = child_timeout_seconds job c.role; responses = [] } ∷ []
children_after_start alive job c (RefusedFor cause) = alive

-- `source` is the absolute path of the root Kyuafile's directory, and `root` the root directory of
-- the driver.
module _ (source root : List ℕ) where
  -- `Starts old job role calls answer new`: `calls` are the calls for the start of a child of `job`
  -- in `role`, and `answer` is the result of the start. The driver state goes from `old` to `new`.
  -- A body is refused if no attempt number is left.
  abbrev pub Starts : DriverState → Job → Role → List Call → StartAnswer → DriverState → Type 0
  Starts old job role calls answer new =
      ((role ≡ Body) × (old.next ≡ 2 ^ 64 - 1) × (answer ≡ RefusedFor Directory) × (calls ≡ []) × (new ≡ old))
      ⊎ ((c : CaseAttempt) × TakesCase root old job role c new × StartsByPlan (job_spawn_plan source job c) calls answer
      × (new.running_children ≡ children_after_start old.running_children job c answer))

-- `child_with_response a answer`: the running child `a` with `answer` as one more response.
abbrev pub child_with_response : PolledChild → ChildResponse → PolledChild
child_with_response a answer = record { case = a.case; limit = a.limit; responses = a.responses ++ answer ∷ [] }

-- `AddsResponse old call new`: `call` takes the running children from `old` to `new`. In `new`, the
-- child that it polls or kills has the result as one more response. A pause changes no child. The
-- names of children are unique in a driver (`HasUniqueNumbers`), so `call` determines the child.
pub data AddsResponse : List PolledChild → Call → List PolledChild → Type 0 where
  polled : (a : PolledChild) (others : List PolledChild) (answer : Result ChildState OsFault)
      → AddsResponse (a ∷ others) (Poll (child_of a.case) answer) (child_with_response a (PollResponse answer) ∷ others)
  killed : (a : PolledChild) (others : List PolledChild) (done : Bool)
      → AddsResponse (a ∷ others) (Kill (child_of a.case) done) (child_with_response a (KillResponse done) ∷ others)
  later : (a : PolledChild) (others after : List PolledChild) (call : Call) → AddsResponse others call after → AddsResponse (a ∷ others) call (a ∷ after)
  paused : (alive : List PolledChild) (done : Bool) → AddsResponse alive (Pause done) alive

-- `FinishesByPolls old polls after place over outcome`: `polls` take the running children from
-- `old` to `after`. In `after`, `over` is the child at the index `place`. This child has finished
-- with `outcome`, which follows from all its responses (`Yields`).
abbrev pub FinishesByPolls : List PolledChild → List Call → List PolledChild → ℕ → PolledChild → Outcome → Type 0
FinishesByPolls old polls after place over outcome =
    Chain AddsResponse old polls after × (slice_get after place ≡ Some over) × Yields over.limit over.responses outcome

-- `Ends old calls e new`: `calls` poll the running children until one has finished, and then
-- determine its end `e`: its outcome, evidence and outputs. The driver state goes from `old` to
-- `new`, which lacks the child.
pub record Ends (old : DriverState) (calls : List Call) (e : Ended) (new : DriverState) : Type 0 where
  pub polls : List Call
  pub leaving : List Call
  pub asked : calls ≡ polls ++ leaving
  pub after : List PolledChild
  pub place : ℕ
  pub over : PolledChild
  pub follows : FinishesByPolls old.running_children polls after place over e.outcome
  pub left : FinishesChild over.case leaving e.outcome e
  pub running_children : new.running_children ≡ remove after place
  pub pending_cleanups : new.pending_cleanups ≡ pending_with over.case old.pending_cleanups
  pub next : new.next ≡ old.next

-- `WaitsForEnd children old calls e left new`: `calls` are the calls of a wait, which returns the
-- end `e` of a child. They take the driver state from `old` to `new` (`Ends`). `children` are the
-- running children before the polls (`PollsInRounds`). `left` are the running children after them,
-- without the finished child.
abbrev pub WaitsForEnd : List RunningChild → DriverState → List Call → Ended → List RunningChild → DriverState → Type 0
WaitsForEnd children old calls e left new =
    (end : Ends old calls e new) × (after : List RunningChild) × PollsInRounds children end.polls end.place e.outcome after × (left ≡ remove after end.place)
