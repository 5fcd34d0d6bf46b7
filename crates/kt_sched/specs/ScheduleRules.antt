-- The rules of the schedule. Most are conditions on an event and the events before it.
use Rattle.std.specs.Prelude.{ℕ, Bool, true, false, List, [], ◌&&◌, ◌||◌, ◌≡◌, ◌<◌, ◌⊎◌, Option, Some, None, map, take, length, slice_get, IfSome, MatchOption, if◌then◌else◌, ⊤}
use Rattle.std.specs.List.{list_all}
use Rattle.kt_sched.specs.Types.{Body, Cleanup, Job, Role}
use Rattle.kt_sched.specs.Children.{is_same_role}
use Rattle.kt_sched.specs.Trace.{Event, Start, End, Trace, NoEvent, Then, events_of, first_events}
use Rattle.kt_sched.specs.History.{has_whole_history, is_active, active}
use Rattle.kt_sched.specs.TurnOrder.{body_starts, undecided_turns, next_to_start}

-- `HoldsAtEachEvent P T`: the rule `P` holds for each event of the trace `T`. `P U e` is the rule
-- for the event `e` after the events `U`.
abbrev pub HoldsAtEachEvent : (Trace → Event → Type 0) → Trace → Type 0
HoldsAtEachEvent P NoEvent = ⊤
HoldsAtEachEvent P (Then T e) = HoldsAtEachEvent P T × P T e

-- `Order plan T`: the bodies in the trace `T` start in the turn order of `plan`: exclusive cases
-- come last, and decided cases are left out. Refused starts count, too.
abbrev pub Order : List Job → Trace → Type 0
Order plan T = body_starts T ≡ map (λ job. job.position) (take (length (body_starts T)) (undecided_turns plan))

-- `KeepsWidth plan n T event`: if `event` starts a body, fewer than `n` cases of `plan` are active
-- after the events `T` before it.
abbrev pub KeepsWidth : List Job → ℕ → Trace → Event → Type 0
KeepsWidth plan n T (Start i Body answer) = active plan T < n
KeepsWidth plan n T other = ⊤

-- `MayStartExclusive plan T`: after the events `T`, no case of `plan` is active, and each case that
-- is not exclusive is over (`is_whole`).
abbrev pub MayStartExclusive : List Job → Trace → Type 0
MayStartExclusive plan T = (active plan T ≡ 0) × (list_all (λ (job : Job). job.exclusive || has_whole_history T job) plan ≡ true)

-- `IsExclusiveAtStart plan T i role`: the rule of exclusive cases allows the start of case `i` of
-- `plan` in the role `role` after the events `T`. An exclusive body starts only if no case is
-- active and each case that is not exclusive is over (`MayStartExclusive`). While an exclusive case
-- is active, only its own cleanup starts.
pub record IsExclusiveAtStart (plan : List Job) (T : Trace) (i : ℕ) (role : Role) : Type 0 where
  pub quiet : (job : Job) → slice_get plan i ≡ Some job → job.exclusive ≡ true → role ≡ Body → MayStartExclusive plan T
  pub own : (job : Job) (k : ℕ) → slice_get plan k ≡ Some job → job.exclusive ≡ true → is_active T job ≡ true → (k ≡ i) × (role ≡ Cleanup)

-- `KeepsExclusive plan T event`: if `event` is a start of a case of `plan`, the rule of exclusive
-- cases allows this start after the events `T` (`IsExclusiveAtStart`).
abbrev pub KeepsExclusive : List Job → Trace → Event → Type 0
KeepsExclusive plan T (Start i role answer) = IsExclusiveAtStart plan T i role
KeepsExclusive plan T (End ended) = ⊤

-- `case_declares_cleanup plan i`: case `i` of `plan` declares a cleanup.
abbrev pub case_declares_cleanup : List Job → ℕ → Bool
case_declares_cleanup plan i = elim (slice_get plan i) [ None ↦ false | Some job ↦ job.cleanup ]

-- `pending_cleanup plan T`: the position of the case of `plan` whose body ended with the last event
-- of `T`, if the case declares a cleanup. It is `None` if the last event is not such an end.
abbrev pub pending_cleanup : List Job → Trace → Option ℕ
pending_cleanup plan NoEvent = None
pending_cleanup plan (Then T (Start i role answer)) = None
pending_cleanup plan (Then T (End ended)) = if is_same_role ended.role Body && case_declares_cleanup plan ended.position then Some ended.position else None

-- `IsCleanupStart event position`: `event` is the start of the cleanup of case `position`.
abbrev pub IsCleanupStart : Event → ℕ → Type 0
IsCleanupStart (Start i role answer) position = (i ≡ position) × (role ≡ Cleanup)
IsCleanupStart (End ended) position = ⊥

-- `KeepsCleanupNext plan T event`: if the last event of `T` ended a body of `plan` with a
-- declared cleanup, `event` is the start of this cleanup.
abbrev pub KeepsCleanupNext : List Job → Trace → Event → Type 0
KeepsCleanupNext plan T e = IfSome (pending_cleanup plan T) (IsCleanupStart e)

-- `IsBusy plan n T`: no body of `plan` may be started after the events `T` with the width `n`.
-- Either `n` cases are active, no body is left, or the next body is exclusive and a case is active.
abbrev pub IsBusy : List Job → ℕ → Trace → Type 0
IsBusy plan n T =
    (active plan T ≡ n) ⊎ MatchOption (next_to_start plan T) ⊤ (λ job. (job.exclusive ≡ true) × (0 < active plan T))

-- `WaitsWhenBusy plan n T event`: if `event` is the end of a child, no body of `plan` may be
-- started after the events `T` with the width `n`. So a run waits only when no body may start.
abbrev pub WaitsWhenBusy : List Job → ℕ → Trace → Event → Type 0
WaitsWhenBusy plan n T (Start i role answer) = ⊤
WaitsWhenBusy plan n T (End ended) = IsBusy plan n T

-- `Legal plan n T`: `T` is the trace of a run of `plan` with the width `n` without a failed put.
-- Each case is over after `T` (`is_whole`). The rules of order, width, exclusiveness, cleanups and
-- waits hold.
pub record Legal (plan : List Job) (n : ℕ) (T : Trace) : Type 0 where
  pub whole : list_all (has_whole_history T) plan ≡ true
  pub order : Order plan T
  pub width : HoldsAtEachEvent (KeepsWidth plan n) T
  pub exclusive : HoldsAtEachEvent (KeepsExclusive plan) T
  pub prompt : HoldsAtEachEvent (KeepsCleanupNext plan) T
  pub busy : HoldsAtEachEvent (WaitsWhenBusy plan n) T

-- `Stopped plan n T k`: `T` is the trace of a run of `plan` with the width `n`, in which a put
-- failed after `k` events. No body starts after these events, and each case that has an event is
-- over (`is_whole`). The rules of order, width, exclusiveness and cleanups hold. The rule of waits
-- holds for the first `k` events only.
pub record Stopped (plan : List Job) (n : ℕ) (T : Trace) (k : ℕ) : Type 0 where
  pub starts : body_starts T ≡ body_starts (first_events k T)
  pub whole : (job : Job) (i : ℕ) → slice_get plan i ≡ Some job → (events_of i T ≡ []) ⊎ (has_whole_history T job ≡ true)
  pub order : Order plan T
  pub width : HoldsAtEachEvent (KeepsWidth plan n) T
  pub exclusive : HoldsAtEachEvent (KeepsExclusive plan) T
  pub prompt : HoldsAtEachEvent (KeepsCleanupNext plan) T
  pub busy : HoldsAtEachEvent (WaitsWhenBusy plan n) (first_events k T)
