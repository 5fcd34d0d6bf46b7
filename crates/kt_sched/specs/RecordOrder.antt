-- The order in which entries are recorded, and the number of events after which each put is
-- scheduled.
use Rattle.std.specs.Prelude.{ℕ, Bool, List, [], ◌∷◌, ◌++◌, ◌==◌, ◌&&◌, ◌||◌, nat_lt, not, map, filter, is_some, is_none, if◌then◌else◌}
use Rattle.std.specs.List.{list_any, list_all}
use Rattle.kt_sched.specs.Types.{Job}
use Rattle.kt_sched.specs.Trace.{Event, Trace, NoEvent, Then, position_of, event_count}
use Rattle.kt_sched.specs.History.{has_whole_history, active}
use Rattle.kt_sched.specs.TurnOrder.{body_starts, turns}

-- `ScheduledPut`: the put of an entry that a run must make: the position of its case, and the
-- number of events after which the put is scheduled.
pub record ScheduledPut : Type 0 where
  pub position : ℕ
  pub after : ℕ

-- `is_begun T job`: the start of the body of `job` is in the trace `T`, even if it was refused, or
-- `job` is decided and never starts.
abbrev pub is_begun : Trace → Job → Bool
is_begun T job = is_some job.decided || list_any (λ i. i == job.position) (body_starts T)

-- `jobs_before i jobs`: the jobs that precede the job with the position `i` in the list `jobs`. If
-- no job in the list has this position, these are all `jobs`.
abbrev pub jobs_before : ℕ → List Job → List Job
jobs_before i [] = []
jobs_before i (job ∷ jobs) = if job.position == i then [] else job ∷ jobs_before i jobs

-- `is_put_allowed plan n T job`: `job` is decided, and its entry may be put after the events `T`.
-- Each case of `plan` that precedes `job` in turn order (exclusive cases come last) is begun
-- (`is_begun`). Fewer than `n` cases are active, and none if `job` is exclusive.
abbrev pub is_put_allowed : List Job → ℕ → Trace → Job → Bool
is_put_allowed plan n T job =
    is_some job.decided && list_all (is_begun T) (jobs_before job.position (turns plan))
    && (if job.exclusive then active plan T == 0 else nat_lt (active plan T) n)

-- `was_put_allowed plan n T job`: with the width `n`, the entry of the decided `job` of `plan`
-- could be put after the events `T` or a prefix of `T` (`is_put_allowed`).
abbrev pub was_put_allowed : List Job → ℕ → Trace → Job → Bool
was_put_allowed plan n NoEvent job = is_put_allowed plan n NoEvent job
was_put_allowed plan n (Then T e) job = was_put_allowed plan n T job || is_put_allowed plan n (Then T e) job

-- `jobs_finished_by plan T e`: the job of `plan` whose case the event `e` finishes, after the
-- events `T`, as a list of at most one job. After `e`, the history of the case is whole. A decided
-- job is not in the list.
abbrev pub jobs_finished_by : List Job → Trace → Event → List Job
jobs_finished_by plan T e =
    filter (λ job. job.position == position_of e && (is_none job.decided && (has_whole_history (Then T e) job && not (has_whole_history T job)))) plan

-- `puts_scheduled_at k jobs`: the puts of the entries of `jobs`, all scheduled after `k` events.
abbrev pub puts_scheduled_at : ℕ → List Job → List ScheduledPut
puts_scheduled_at k jobs = map (λ job. record { position = job.position; after = k }) jobs

-- `scheduled_puts plan n T`: the puts that are scheduled in the run of `plan` with the width `n`
-- after the events `T`, in order. Each event schedules the put of the case that it finishes. Then
-- it schedules the puts of the decided cases that become allowed (`is_put_allowed`), in turn order:
-- exclusive cases come last. The puts of decided cases that are allowed before the first event come
-- first.
abbrev pub scheduled_puts : List Job → ℕ → Trace → List ScheduledPut
scheduled_puts plan n NoEvent = puts_scheduled_at 0 (filter (is_put_allowed plan n NoEvent) (turns plan))
scheduled_puts plan n (Then T e) =
    scheduled_puts plan n T ++ (puts_scheduled_at (event_count (Then T e)) (jobs_finished_by plan T e)
    ++ puts_scheduled_at (event_count (Then T e)) (filter (λ job. is_put_allowed plan n (Then T e) job && not (was_put_allowed plan n T job)) (turns plan)))

-- `recorded plan n T`: the positions of the cases whose puts are scheduled in the run of `plan`
-- with the width `n` after the events `T`, in order (`scheduled_puts`). Their entries are recorded
-- in this order.
abbrev pub recorded : List Job → ℕ → Trace → List ℕ
recorded plan n T = map (λ due. due.position) (scheduled_puts plan n T)
