-- The scheduler's state, and its relation to the responses so far.
use Rattle.std.specs.Prelude.{ℕ, Bool, true, false, List, [], ◌∷◌, ◌++◌, ◌==◌, ◌≡◌, ◌≢◌, ◌<◌, ◌≤◌, ◌⊎◌, Option, Some, None, map, take, drop, filter, count_by, sum_by, length, slice_get, is_some, is_none, ⊤}
use Rattle.std.specs.Option.{option_map, option_to_list}
use Rattle.kt_sched.specs.Types.{Answer, Body, Case, CaseRecord, Cleaning, Cleanup, Decided, Ended, EndedBody, Entry, Finished, Job, VerdictValue, Next, PendingCleanup, Running, Stage, Started, Taken, Waiting}
use Rattle.kt_sched.specs.declared.next.Next.TheVariants as next
use Rattle.kt_status.specs.Tables.{IsVerdict}
use Rattle.kt_sched.specs.Trace.{Event, Start, End, Trace, Then, events_of}
use Rattle.kt_sched.specs.History.{kind_of_event, is_whole}
use Rattle.kt_sched.specs.TurnOrder.{body_starts, turns}
use Rattle.kt_sched.specs.ScheduleRules.{pending_cleanup}
use Rattle.kt_sched.specs.RecordOrder.{is_put_allowed, was_put_allowed, recorded}
use Rattle.kt_sched.specs.EntryOf.{entry, IsEntry, empty_output}
use Rattle.kt_sched.specs.Plan.{IsPlan}
use Rattle.kt_sched.specs.Responses.{Responses, has_failed, IsAnswerTo}

-- `SchedState`: a state of the scheduler, with the fields of `Sched`.
pub record SchedState : Type 0 where
  pub cases : List Case
  pub order : List ℕ
  pub turn : ℕ
  pub active : ℕ
  pub width : ℕ
  pub pending : Option ℕ
  pub ready : Option ℕ
  pub asked : Next
  pub failed : Bool

-- `is_waiting_stage stage`: `stage` is a first stage of a case, `Waiting` or `Decided`.
abbrev pub is_waiting_stage : Stage → Bool
is_waiting_stage Waiting = true
is_waiting_stage Decided = true
is_waiting_stage _ = false

-- `is_active_stage stage`: a case in the stage `stage` is active: its body or cleanup runs, or its
-- cleanup is to be started.
abbrev pub is_active_stage : Stage → Bool
is_active_stage (Running m) = true
is_active_stage (PendingCleanup b) = true
is_active_stage (Cleaning b) = true
is_active_stage _ = false

-- `stage_changes_left stage`: the greatest number of changes of the stage that may follow for a
-- case in the stage `stage`, until the stage is `Taken`.
abbrev pub stage_changes_left : Stage → ℕ
stage_changes_left Waiting = 5
stage_changes_left Decided = 1
stage_changes_left (Running m) = 4
stage_changes_left (PendingCleanup b) = 3
stage_changes_left (Cleaning b) = 2
stage_changes_left (Finished t) = 1
stage_changes_left Taken = 0

-- `changes_left cases`: the greatest number of changes of a stage that may follow for all `cases`
-- together (`stage_changes_left`).
abbrev pub changes_left : List Case → ℕ
changes_left cases = sum_by (λ c. stage_changes_left c.stage) cases

-- `ReducesChangesLeft next old new`: `old` and `new` are the greatest numbers of changes of a stage
-- that may follow (`changes_left`), before and after the response to the step `next`. The response
-- to a put keeps this number, and the response to a start or a wait reduces it. `Done` has no
-- condition.
abbrev pub ReducesChangesLeft : Next → ℕ → ℕ → Type 0
ReducesChangesLeft (next.Put i) old new = new ≡ old
ReducesChangesLeft (next.Start i role) old new = new < old
ReducesChangesLeft next.Wait old new = new < old
ReducesChangesLeft next.Done old new = ⊤

-- `unstarted_record verdict`: the `CaseRecord` of a case that was not started and has the verdict
-- `verdict`.
abbrev pub unstarted_record : VerdictValue → CaseRecord
unstarted_record verdict = record { verdict = verdict; started = 0; millis = 0; body = empty_output; cleanup = empty_output }

-- `record_in job stage`: the `CaseRecord` of the case of `job` in the stage `stage`. It is `None`
-- if the stage is neither `Finished` nor `Decided`.
abbrev pub record_in : Job → Stage → Option CaseRecord
record_in job (Finished t) = Some t
record_in job Decided = option_map unstarted_record job.decided
record_in job _ = None

-- `entry_with job t`: the entry of `job` with the `CaseRecord` `t`.
abbrev pub entry_with : Job → CaseRecord → Entry
entry_with job t = entry job t.verdict t.started t.millis t.body t.cleanup

-- `ended_body verdict started e`: the data that is kept of a body with the verdict `verdict`. The
-- body started at the timestamp `started` and ended with `e`.
abbrev pub ended_body : VerdictValue → ℕ → Ended → EndedBody
ended_body verdict started e = record { started = started; ended = e.moment; verdict = verdict; output = e.output }

-- `IsStage i job stage events`: `stage` is the stage of case `i`, whose job is `job`, after its
-- events `events`.
abbrev pub IsStage : ℕ → Job → Stage → List Event → Type 0
IsStage i job Waiting es = (es ≡ []) × (job.decided ≡ None)
IsStage i job Decided es = (es ≡ []) × (is_some job.decided ≡ true)
IsStage i job (Running m) es = (es ≡ Start i Body (Started m) ∷ []) × (job.decided ≡ None)
IsStage i job (PendingCleanup b) es =
    (e : Ended) × (es ≡ Start i Body (Started b.started) ∷ End e ∷ []) × (e.role ≡ Body) × (job.cleanup ≡ true)
    × IsVerdict e.evidence e.outcome b.verdict × (b ≡ ended_body b.verdict b.started e) × (job.decided ≡ None)
IsStage i job (Cleaning b) es =
    (e : Ended) × (m : ℕ) × (es ≡ Start i Body (Started b.started) ∷ End e ∷ Start i Cleanup (Started m) ∷ []) × (e.role ≡ Body) × (job.cleanup ≡ true)
    × IsVerdict e.evidence e.outcome b.verdict × (b ≡ ended_body b.verdict b.started e) × (job.decided ≡ None)
IsStage i job (Finished t) es = (is_whole job (map kind_of_event es) ≡ true) × IsEntry job es (entry_with job t)
IsStage i job Taken es = is_whole job (map kind_of_event es) ≡ true

-- `RepresentsCase T i job cases`: the element `i` of `cases` has the stage of case `i` after the
-- events `T`. It has the job `job` of this case, unless its stage is `Taken`.
pub record RepresentsCase (T : Trace) (i : ℕ) (job : Job) (cases : List Case) : Type 0 where
  pub case : Case
  pub found : slice_get cases i ≡ Some case
  pub stage : IsStage i job case.stage (events_of i T)
  pub kept : case.stage ≢ Taken → case.job ≡ job

-- `HasExclusiveFlag cases i flag`: case `i` of `cases` is exclusive if `flag` is true, and is not
-- exclusive if `flag` is false.
abbrev pub HasExclusiveFlag : List Case → ℕ → Bool → Type 0
HasExclusiveFlag cases i flag = (c : Case) × (slice_get cases i ≡ Some c) × (c.job.exclusive ≡ flag)

-- `is_decided_stage stage`: `stage` is `Decided`: the verdict was decided before the run, and the
-- entry was not moved out yet.
abbrev pub is_decided_stage : Stage → Bool
is_decided_stage Decided = true
is_decided_stage _ = false

-- `HasDecidedFlag cases i flag`: case `i` of `cases` is in the stage `Decided` if `flag` is true,
-- else in another stage.
abbrev pub HasDecidedFlag : List Case → ℕ → Bool → Type 0
HasDecidedFlag cases i flag = (c : Case) × (slice_get cases i ≡ Some c) × (is_decided_stage c.stage ≡ flag)

-- `HasTurn b i`: in the state `b`, case `i` is the next case in turn order (exclusive cases come
-- last). No put failed, and the case may be started, or its entry be put: fewer cases are active
-- than the width, and none if case `i` is exclusive.
abbrev pub HasTurn : SchedState → ℕ → Type 0
HasTurn b i = (b.failed ≡ false) × (slice_get b.order b.turn ≡ Some i) × (b.active < b.width) × (b.active ≡ 0 ⊎ HasExclusiveFlag b.cases i false)

-- `IsSettled b`: in the state `b`, no entry of a decided case can be made ready to be put. Either a
-- put failed, a case is ready already, or no case is left. Otherwise, the next case in turn order
-- (exclusive cases come last) is not decided, or must wait for active cases (`HasTurn`).
abbrev pub IsSettled : SchedState → Type 0
IsSettled b = b.ready ≡ None → (i : ℕ) → HasTurn b i → HasDecidedFlag b.cases i false

-- `HasRequested b next`: the scheduler may be in the state `b` after it requested the step `next`.
-- A put is the put of the ready case, and no put failed before. At a start or a wait, no case is
-- ready or can be made ready (`IsSettled`). A cleanup to be started is that of the pending case. At
-- the start of a body or a wait, no cleanup is pending. A body is that of the next case
-- (`HasTurn`), and at a wait, a case is active. `Done` has no condition.
abbrev pub HasRequested : SchedState → Next → Type 0
HasRequested b (next.Start i Body) = (b.ready ≡ None) × (b.pending ≡ None) × HasTurn b i × IsSettled b
HasRequested b (next.Start i Cleanup) = (b.ready ≡ None) × (b.pending ≡ Some i) × IsSettled b
HasRequested b next.Wait = (b.ready ≡ None) × (b.pending ≡ None) × (0 < b.active) × IsSettled b
HasRequested b (next.Put i) = (b.failed ≡ false) × (b.ready ≡ Some i)
HasRequested b next.Done = ⊤

-- `HasRecord cases i`: case `i` of `cases` has a `CaseRecord` (`record_in`), so `Sched::take` can
-- return its entry.
abbrev pub HasRecord : List Case → ℕ → Type 0
HasRecord cases i = (c : Case) × (t : CaseRecord) × (slice_get cases i ≡ Some c) × (record_in c.job c.stage ≡ Some t)

-- `IsNotTaken cases i`: the stage of case `i` of `cases` is not `Taken`, so `Sched::job` may return
-- its job.
abbrev pub IsNotTaken : List Case → ℕ → Type 0
IsNotTaken cases i = (c : Case) × (slice_get cases i ≡ Some c) × (c.stage ≢ Taken)

-- `is_decided job`: the verdict of `job` is decided before the run.
abbrev pub is_decided : Job → Bool
is_decided job = is_some job.decided

-- `is_undecided job`: the verdict of `job` is not decided before the run.
abbrev pub is_undecided : Job → Bool
is_undecided job = is_none job.decided

-- `allowed_puts plan n T turn`: the decided jobs of `plan` whose entries may be put after the
-- events `T`, with the width `n`. Jobs before the index `turn` in turn order (exclusive jobs come
-- last) are left out.
abbrev pub allowed_puts : List Job → ℕ → Trace → ℕ → List Job
allowed_puts plan n T turn = filter (is_put_allowed plan n T) (drop turn (turns plan))

-- `positions jobs`: the positions in the plan of the jobs in the list `jobs`, in the order of the
-- list.
abbrev pub positions : List Job → List ℕ
positions jobs = map (λ (job : Job). job.position) jobs

-- `TracksAllowedPuts plan n T turn`: `turn` is an index in the turn order of `plan` (exclusive
-- cases come last), after the events `T` and with the width `n`. The puts of all decided cases
-- before this index were allowed after `T` or a prefix of `T`. From this index on, each put that
-- was ever allowed is still allowed after `T`.
pub record TracksAllowedPuts (plan : List Job) (n : ℕ) (T : Trace) (turn : ℕ) : Type 0 where
  pub gone : (k : ℕ) (job : Job) → k < turn → slice_get (turns plan) k ≡ Some job → is_decided job ≡ true → was_put_allowed plan n T job ≡ true
  pub due : (k : ℕ) (job : Job) → turn ≤ k → slice_get (turns plan) k ≡ Some job → was_put_allowed plan n T job ≡ is_put_allowed plan n T job

-- `is_pending_stage stage`: the cleanup of a case in the stage `stage` is to be started.
abbrev pub is_pending_stage : Stage → Bool
is_pending_stage (PendingCleanup b) = true
is_pending_stage _ = false

-- `is_pending_case pending k`: case `k` is the case `pending`, whose cleanup is to be started. It
-- is false if `pending` is `None`.
abbrev pub is_pending_case : Option ℕ → ℕ → Bool
is_pending_case None k = false
is_pending_case (Some i) k = k == i

-- `RepresentCases plan n T cases a width pending`: `cases`, `a`, `width` and `pending` are fields
-- of the state of a scheduler of `plan` with the width `n`, after the events `T`. `cases` has each
-- case in its stage. `a` is the number of active cases, at most `n`, and 1 if an exclusive case is
-- active. `width` is `n`. `pending` is the position of the case whose cleanup is to be started, if
-- any.
pub record RepresentCases (plan : List Job) (n : ℕ) (T : Trace) (cases : List Case) (a width : ℕ) (pending : Option ℕ) : Type 0 where
  pub is_plan : IsPlan plan
  pub room : 0 < n
  pub width_is : width ≡ n
  pub pending_is : pending ≡ pending_cleanup plan T
  pub count : length cases ≡ length plan
  pub each : (i : ℕ) (job : Job) → slice_get plan i ≡ Some job → RepresentsCase T i job cases
  pub beyond : (i : ℕ) → length plan ≤ i → events_of i T ≡ []
  pub active : a ≡ count_by (λ c. is_active_stage c.stage) cases
  pub most : a ≤ n
  pub lone : (k : ℕ) (j : Job) (c : Case) → slice_get plan k ≡ Some j → slice_get cases k ≡ Some c → j.exclusive ≡ true → is_active_stage c.stage ≡ true → a ≡ 1
  pub owing : (k : ℕ) (c : Case) → slice_get cases k ≡ Some c → is_pending_stage c.stage ≡ is_pending_case pending k
  pub owed_within : (k : ℕ) → pending ≡ Some k → k < length cases

-- `RepresentsTurn plan T cases order turn`: `cases`, `order` and `turn` are fields of the state of
-- a scheduler of `plan` after the events `T`. `order` has the positions of the cases in turn order
-- (exclusive cases come last). `turn` is the index of the next case in `order`. Exactly the
-- undecided cases before this index were started or refused.
pub record RepresentsTurn (plan : List Job) (T : Trace) (cases : List Case) (order : List ℕ) (turn : ℕ) : Type 0 where
  pub walk : order ≡ positions (turns plan)
  pub within : turn ≤ length order
  pub starts : body_starts T ≡ positions (filter is_undecided (take turn (turns plan)))
  pub met : (k i : ℕ) (c : Case) → slice_get order k ≡ Some i → slice_get cases i ≡ Some c
      → (turn ≤ k → is_waiting_stage c.stage ≡ true) × (k < turn → c.stage ≢ Waiting)

-- `RepresentPuts plan n fed order turn next stop`: the fields `order`, `turn`, `next` and `stop` of
-- a scheduler's state represent the puts that are left after the responses `fed`. `plan` and `n`
-- are the plan and the width of the run. `stop` is true if a put failed. Otherwise, the first put
-- left is that of the ready case `next`, if any. Then come the puts of `allowed_puts` for `turn`,
-- an index in the turn order `order`.
pub record RepresentPuts (plan : List Job) (n : ℕ) (fed : Responses) (order : List ℕ) (turn : ℕ) (next : Option ℕ) (stop : Bool) : Type 0 where
  pub failed : stop ≡ has_failed fed
  pub stopped : stop ≡ true → next ≡ None
  pub stored : fed.stored ≤ length (recorded plan n fed.trace)
  pub gone : has_failed fed ≡ false → TracksAllowedPuts plan n fed.trace turn
  pub ready : has_failed fed ≡ false → drop fed.stored (recorded plan n fed.trace) ≡ option_to_list next ++ positions (allowed_puts plan n fed.trace turn)
  pub ripe : (i m : ℕ) → next ≡ Some i → slice_get order m ≡ Some i → m < turn

-- `RepresentsRun plan n fed b`: `b` is the state of the scheduler of `plan` with the width `n`
-- after the responses `fed`.
pub record RepresentsRun (plan : List Job) (n : ℕ) (fed : Responses) (b : SchedState) : Type 0 where
  pub cases : RepresentCases plan n fed.trace b.cases b.active b.width b.pending
  pub turn : RepresentsTurn plan fed.trace b.cases b.order b.turn
  pub puts : RepresentPuts plan n fed b.order b.turn b.ready b.failed
  pub has_record : (i : ℕ) → b.ready ≡ Some i → b.asked ≡ next.Done → HasRecord b.cases i
  pub asked : HasRequested b b.asked

-- `HoldsForEachRun b P`: `P` holds for each plan, width and responses that lead a scheduler to the
-- state `b` (`RepresentsRun`).
abbrev pub HoldsForEachRun : SchedState → (List Job → ℕ → Responses → Type 0) → Type 0
HoldsForEachRun b P = (plan : List Job) (n : ℕ) (fed : Responses) → RepresentsRun plan n fed b → P plan n fed

-- `IsReachable b`: `b` is the state of a scheduler, for some plan, width and responses.
abbrev pub IsReachable : SchedState → Type 0
IsReachable b = (plan : List Job) × (n : ℕ) × (fed : Responses) × RepresentsRun plan n fed b

-- `IsAnswer b answer`: `answer` is a possible response to the step that was requested last in the
-- state `b`.
abbrev pub IsAnswer : SchedState → Answer → Type 0
IsAnswer b answer = (plan : List Job) × (n : ℕ) × (fed : Responses) × RepresentsRun plan n fed b × IsAnswerTo fed.trace b.asked answer

-- `RecordsEvent old e new`: the event `e` leads the scheduler from the state `old` to `new`. If
-- `old` represents a run, `new` represents this run with `e` as one more event. Fewer changes of a
-- stage may follow than before (`changes_left`), and no step is requested.
pub record RecordsEvent (old : SchedState) (e : Event) (new : SchedState) : Type 0 where
  pub stands : HoldsForEachRun old (λ plan n fed. RepresentsRun plan n (record fed { trace = Then fed.trace e }) new)
  pub less : changes_left new.cases < changes_left old.cases
  pub asked : new.asked ≡ next.Done
