-- The effects of the scheduler's steps on its cases.
use Rattle.std.specs.Prelude.{ℕ, Bool, true, false, List, ◌≡◌, ◌-◌, Option, Some, None, filter, map, not, ◌&&◌, slice_get, slice_set, if◌then◌else◌}
use Rattle.kt_sched.specs.Types.{Body, Case, CaseRecord, Cleaning, Cleanup, Decided, Ended, EndedBody, Entry, Finished, Job, VerdictValue, Output, PendingCleanup, Refused, Role, Running, Stage, Started, Taken, Waiting}
use Rattle.kt_status.specs.declared.cleanup_end.CleanupEnd.TheVariants as end
use Rattle.kt_status.specs.Tables.{IsVerdict, IsVerdictOfRefusal, IsVerdictAfterCleanup}
use Rattle.kt_sched.specs.EntryOf.{empty_output}
use Rattle.kt_sched.specs.Trace.{Event, Start, End}
use Rattle.kt_sched.specs.SchedState.{unstarted_record, ended_body, entry_with, record_in}

-- `stage_runs role stage`: a case in the stage `stage` has a running child in the role `role`.
abbrev pub stage_runs : Role → Stage → Bool
stage_runs Body (Running m) = true
stage_runs Cleanup (Cleaning b) = true
stage_runs role other = false

-- `initial_stage decided`: the stage of a case with the decided verdict `decided`, if any, before
-- the first response.
abbrev pub initial_stage : Option VerdictValue → Stage
initial_stage None = Waiting
initial_stage (Some verdict) = Decided

-- `initial_case job`: the case of `job` before the first response.
abbrev pub initial_case : Job → Case
initial_case job = record { job = job; stage = initial_stage job.decided }

-- `ReplacesStage old new i stage was`: `new` are the cases `old`, but case `i` has the stage
-- `stage` instead of `was`.
pub record ReplacesStage (old new : List Case) (i : ℕ) (stage was : Stage) : Type 0 where
  pub job : Job
  pub found : slice_get old i ≡ Some (record { job = job; stage = was })
  pub changed : new ≡ slice_set old i (record { job = job; stage = stage })

-- `TakesEntry old new i entry`: `entry` is the entry of case `i` of the cases `old`. `new` are the
-- cases `old`, but case `i` has the stage `Taken`. Its job in `new` is not specified.
pub record TakesEntry (old new : List Case) (i : ℕ) (entry : Entry) : Type 0 where
  pub had : Job
  pub was : Stage
  pub left : Job
  pub case_record : CaseRecord
  pub found : slice_get old i ≡ Some (record { job = had; stage = was })
  pub has_record : record_in had was ≡ Some case_record
  pub is : entry ≡ entry_with had case_record
  pub changed : new ≡ slice_set old i (record { job = left; stage = Taken })

-- `record_after_cleanup verdict body last output`: the `CaseRecord` of a case with the verdict
-- `verdict` and the ended body `body`. Its cleanup ended, or its start was refused. `output` is the
-- output of the cleanup. The duration of the case ends at the timestamp `last`.
abbrev pub record_after_cleanup : VerdictValue → EndedBody → ℕ → Output → CaseRecord
record_after_cleanup verdict body last output =
    record { verdict = verdict; started = body.started; millis = last - body.started; body = body.output; cleanup = output }

-- `record_without_cleanup verdict started e`: the `CaseRecord` of a case with the verdict `verdict`
-- and without a declared cleanup. Its body started at the timestamp `started` and ended with `e`.
abbrev pub record_without_cleanup : VerdictValue → ℕ → Ended → CaseRecord
record_without_cleanup verdict started e =
    record { verdict = verdict; started = started; millis = e.moment - started; body = e.output; cleanup = empty_output }

-- `can_start role stage`: the child of a case in the role `role` can be started in the stage
-- `stage`: a body in `Waiting`, and a cleanup in `PendingCleanup`.
abbrev pub can_start : Role → Stage → Bool
can_start Body Waiting = true
can_start Cleanup (PendingCleanup b) = true
can_start role other = false

-- `ChangesStage cleanup was event now`: `event` moves a case from the stage `was` to the stage
-- `now`. `cleanup` is true if the case declares a cleanup.
abbrev pub ChangesStage : Bool → Stage → Event → Stage → Type 0
ChangesStage cleanup Waiting (Start i Body (Started m)) (Running k) = k ≡ m
ChangesStage cleanup Waiting (Start i Body (Refused c)) (Finished t) = IsVerdictOfRefusal c t.verdict × (t ≡ unstarted_record t.verdict)
ChangesStage cleanup (PendingCleanup b) (Start i Cleanup (Started m)) (Cleaning x) = x ≡ b
ChangesStage cleanup (PendingCleanup b) (Start i Cleanup (Refused c)) (Finished t) =
    IsVerdictAfterCleanup b.verdict end.Refused t.verdict × (t ≡ record_after_cleanup t.verdict b b.ended empty_output)
ChangesStage cleanup (Running m) (End e) (PendingCleanup b) =
    (stage_runs e.role (Running m) ≡ true) × (cleanup ≡ true) × IsVerdict e.evidence e.outcome b.verdict × (b ≡ ended_body b.verdict m e)
ChangesStage cleanup (Running m) (End e) (Finished t) =
    (stage_runs e.role (Running m) ≡ true) × (cleanup ≡ false) × IsVerdict e.evidence e.outcome t.verdict × (t ≡ record_without_cleanup t.verdict m e)
ChangesStage cleanup (Cleaning b) (End e) (Finished t) =
    (stage_runs e.role (Cleaning b) ≡ true) × IsVerdictAfterCleanup b.verdict (end.Ended e.outcome) t.verdict × (t ≡ record_after_cleanup t.verdict b e.moment e.output)
ChangesStage cleanup was e now = ⊥

-- `pending_at stage i`: `i`, the position of a case in the stage `stage`, if the cleanup of the
-- case is to be started, else `None`.
abbrev pub pending_at : Stage → ℕ → Option ℕ
pending_at (PendingCleanup b) i = Some i
pending_at _ i = None

-- `is_over stage`: a case in the stage `stage` is over, so no more events of it follow: the stage
-- is `Decided`, `Finished` or `Taken`.
abbrev pub is_over : Stage → Bool
is_over Decided = true
is_over (Finished t) = true
is_over Taken = true
is_over _ = false

-- `ready_at stage failed i`: `i`, the position of a case in the stage `stage`, if the case is over
-- and `failed` is false, else `None`. `failed` is true if a put failed.
abbrev pub ready_at : Stage → Bool → ℕ → Option ℕ
ready_at stage failed i = if is_over stage && not failed then Some i else None

-- `is_same_flag flag other`: `flag` and `other` are equal.
abbrev pub is_same_flag : Bool → Bool → Bool
is_same_flag true b = b
is_same_flag false b = not b

-- `positions_where flag jobs`: the positions of the exclusive jobs among `jobs` if `flag` is true,
-- else of the other jobs.
abbrev pub positions_where : Bool → List Job → List ℕ
positions_where flag jobs = map (λ (job : Job). job.position) (filter (λ (job : Job). is_same_flag flag job.exclusive) jobs)
