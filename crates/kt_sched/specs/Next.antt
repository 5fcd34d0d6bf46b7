-- The next step of a run.
use Rattle.std.specs.Prelude.{ℕ, true, false, List, [], ◌∷◌, ◌≡◌, ◌<◌, ◌⊎◌, Some, None, slice_get, is_some, ⊤}
use Rattle.std.specs.List.{list_all}
use Rattle.kt_sched.specs.Types.{Body, Cleanup, Job, Next, Role}
use Rattle.kt_sched.specs.declared.next.Next.TheVariants as next
use Rattle.kt_sched.specs.Trace.{Trace, events_of}
use Rattle.kt_sched.specs.History.{BodyStarted, BodyEnded, history, is_whole, has_whole_history, active}
use Rattle.kt_sched.specs.TurnOrder.{next_to_start}
use Rattle.kt_sched.specs.ScheduleRules.{pending_cleanup, IsBusy, IsExclusiveAtStart}
use Rattle.kt_sched.specs.RecordOrder.{recorded, was_put_allowed}
use Rattle.kt_sched.specs.Responses.{Responses, has_failed, runs}

-- `IsUpToDate plan n fed`: after the responses `fed` in the run of `plan` with the width `n`, no
-- put is left: each put that the events schedule (`recorded`) has succeeded.
abbrev pub IsUpToDate : List Job → ℕ → Responses → Type 0
IsUpToDate plan n fed = slice_get (recorded plan n fed.trace) fed.stored ≡ None

-- `MayStartBody plan n T i`: the body of case `i` of `plan` may start after the events `T`. It is
-- the next body to start (`next_to_start`), and fewer than `n` cases are active. The rule of
-- exclusive cases allows the start (`IsExclusiveAtStart`).
pub record MayStartBody (plan : List Job) (n : ℕ) (T : Trace) (i : ℕ) : Type 0 where
  pub job : Job
  pub next : next_to_start plan T ≡ Some job
  pub place : job.position ≡ i
  pub room : active plan T < n
  pub exclusive : IsExclusiveAtStart plan T i Body

-- `IsNext plan n fed next`: `next` is the step that must come next after the responses `fed`, in
-- the run of `plan` with the width `n`. If several steps are possible, a put comes first. Then come
-- the start of a cleanup, the start of a body and a wait, in this order. After a failed put,
-- nothing is put and no body is started.
abbrev pub IsNext : List Job → ℕ → Responses → Next → Type 0
IsNext plan n fed (next.Put i) = (has_failed fed ≡ false) × (slice_get (recorded plan n fed.trace) fed.stored ≡ Some i)
IsNext plan n fed (next.Start i Cleanup) = (has_failed fed ≡ false → IsUpToDate plan n fed) × (pending_cleanup plan fed.trace ≡ Some i)
IsNext plan n fed (next.Start i Body) =
    (has_failed fed ≡ false) × IsUpToDate plan n fed × (pending_cleanup plan fed.trace ≡ None) × MayStartBody plan n fed.trace i
IsNext plan n fed next.Wait =
    (has_failed fed ≡ false → IsUpToDate plan n fed) × (pending_cleanup plan fed.trace ≡ None) × (has_failed fed ≡ false → IsBusy plan n fed.trace)
    × ((i : ℕ) × (role : Role) × (runs i role fed.trace ≡ true))
IsNext plan n fed next.Done =
    (has_failed fed ≡ false → IsUpToDate plan n fed) × (pending_cleanup plan fed.trace ≡ None) × (has_failed fed ≡ false → IsBusy plan n fed.trace)
    × ((i : ℕ) (role : Role) → runs i role fed.trace ≡ false)

-- `MayStartNow plan T i role`: case `i` of `plan` is not over after the events `T` (`is_whole`).
-- The rule of exclusive cases allows its start in the role `role` (`IsExclusiveAtStart`).
pub record MayStartNow (plan : List Job) (T : Trace) (i : ℕ) (role : Role) : Type 0 where
  pub job : Job
  pub place : slice_get plan i ≡ Some job
  pub unfinished : is_whole job (history i T) ≡ false
  pub exclusive : IsExclusiveAtStart plan T i role

-- `AreWhole plan T`: each case of `plan` that has an event in the trace `T` is over: its history in
-- `T` is whole (`is_whole`).
abbrev pub AreWhole : List Job → Trace → Type 0
AreWhole plan T = (i : ℕ) (job : Job) → slice_get plan i ≡ Some job → (events_of i T ≡ []) ⊎ (has_whole_history T job ≡ true)

-- `WerePutsAllowed plan n T`: with the width `n`, the entry of each decided case of `plan` could be
-- put after the events `T` or a prefix of `T` (`was_put_allowed`).
abbrev pub WerePutsAllowed : List Job → ℕ → Trace → Type 0
WerePutsAllowed plan n T = (i : ℕ) (job : Job) → slice_get plan i ≡ Some job → is_some job.decided ≡ true → was_put_allowed plan n T job ≡ true

-- `HasStepFacts plan n fed next`: the facts that hold after the responses `fed`, in the run of
-- `plan` with the width `n`, if `next` is the next step. A case to be started may start now
-- (`MayStartNow`). A body starts as the first event of its case, and a cleanup right after the end
-- of its body. At a wait, a child runs. At the end of the run, each case with an event is over. If
-- no put failed, each case of `plan` is over, and each decided case could be put
-- (`WerePutsAllowed`).
abbrev pub HasStepFacts : List Job → ℕ → Responses → Next → Type 0
HasStepFacts plan n fed (next.Put i) = ⊤
HasStepFacts plan n fed (next.Start i Body) = MayStartNow plan fed.trace i Body × (history i fed.trace ≡ [])
HasStepFacts plan n fed (next.Start i Cleanup) = MayStartNow plan fed.trace i Cleanup × (history i fed.trace ≡ BodyStarted ∷ BodyEnded ∷ [])
HasStepFacts plan n fed next.Wait = (i : ℕ) × (role : Role) × (job : Job) × (runs i role fed.trace ≡ true) × (slice_get plan i ≡ Some job)
HasStepFacts plan n fed next.Done =
    AreWhole plan fed.trace × (has_failed fed ≡ false → (list_all (has_whole_history fed.trace) plan ≡ true) × WerePutsAllowed plan n fed.trace)
