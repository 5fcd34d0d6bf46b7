-- The next case in turn order, and the chosen step.
use Rattle.std.specs.Prelude.{ℕ, true, ◌≡◌, ◌<◌, ◌≤◌, ◌⊎◌, length, slice_get, Option, Some, None}
use Rattle.kt_sched.specs.Types.{Body, Cleanup, Next}
use Rattle.kt_sched.specs.declared.next.Next.TheVariants as next
use Rattle.kt_sched.specs.SchedState.{SchedState, HasExclusiveFlag, HasTurn}

-- `HasNoTurn b`: in the state `b`, the next case in turn order (exclusive cases come last) can't be
-- started, and its entry can't be put. One of these holds: a put failed, no case is left, the width
-- is reached, or the next case is exclusive while another case is active.
abbrev pub HasNoTurn : SchedState → Type 0
HasNoTurn b =
    (b.failed ≡ true) ⊎ ((length b.order ≤ b.turn) ⊎ ((b.width ≤ b.active) ⊎ ((0 < b.active) × ((i : ℕ) × (slice_get b.order b.turn ≡ Some i) × HasExclusiveFlag b.cases i true))))

-- `IsStartableCase b case`: in the state `b`, `case` is the position of the next case in turn order
-- (exclusive cases come last). This case may be started, or its entry be put (`HasTurn`). `case` is
-- `None` if there is no such case (`HasNoTurn`).
abbrev pub IsStartableCase : SchedState → Option ℕ → Type 0
IsStartableCase b None = HasNoTurn b
IsStartableCase b (Some i) = HasTurn b i

-- `IsChosen b next`: `next` is the step that the scheduler chooses in the state `b`. The first of
-- these steps that is possible is chosen: the put of the ready case, the start of the pending
-- cleanup, the start of the next body (`HasTurn`), a wait. A wait is possible if a case is active.
-- If no step is possible, `next` is `Done`.
abbrev pub IsChosen : SchedState → Next → Type 0
IsChosen b (next.Put i) = b.ready ≡ Some i
IsChosen b (next.Start i Cleanup) = (b.ready ≡ None) × (b.pending ≡ Some i)
IsChosen b (next.Start i Body) = (b.ready ≡ None) × (b.pending ≡ None) × HasTurn b i
IsChosen b next.Wait = (b.ready ≡ None) × (b.pending ≡ None) × (0 < b.active) × HasNoTurn b
IsChosen b next.Done = (b.ready ≡ None) × (b.pending ≡ None) × (b.active ≡ 0) × HasNoTurn b
