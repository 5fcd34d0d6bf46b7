-- Traces: the responses of a launcher in order.
use Rattle.std.specs.Prelude.{ℕ, List, [], ◌∷◌, ◌++◌, ◌==◌, ◌≡◌, ◌+◌, ⊤, Some, slice_get, nat_le, if◌then◌else◌}
use Rattle.kt_sched.specs.Types.{Ended, Job, Refused, Role, StartAnswer, Started}
use Rattle.kt_base.specs.Moments.{IsMoment}

-- `Event`: one response of a launcher: the response to a start, or the end of a child.
pub data Event : Type 0 where
  Start : (position : ℕ) (role : Role) (answer : StartAnswer) → Event
  End : (ended : Ended) → Event

-- `HasValidTimestamp answer`: if `answer` reports a start, the timestamp of the start is before the
-- year 10000.
abbrev pub HasValidTimestamp : StartAnswer → Type 0
HasValidTimestamp (Started moment) = IsMoment moment
HasValidTimestamp (Refused cause) = ⊤

-- `Trace`: the responses of a launcher in order.
pub data Trace : Type 0 where
  NoEvent : Trace
  Then : (before : Trace) (event : Event) → Trace

-- For a launcher with the relations `starts` and `waits` of its calls, and the jobs of `plan`.
module _ {L : Type 0} (starts : L → Job → Role → StartAnswer → L → Type 0) (waits : L → Ended → L → Type 0) (plan : List Job) where
  -- `Leads T old new`: the responses `T` lead the launcher from the state `old` to the state `new`,
  -- by its relations `starts` and `waits`. Each start was called with the job of `plan` at the
  -- position of the start.
  abbrev pub Leads : Trace → L → L → Type 0
  Leads NoEvent old new = new ≡ old
  Leads (Then T (Start i role answer)) old new = (mid : L) × (job : Job) × Leads T old mid × (slice_get plan i ≡ Some job) × starts mid job role answer new
  Leads (Then T (End ended)) old new = (mid : L) × Leads T old mid × waits mid ended new

-- `event_count T`: the number of events in `T`.
abbrev pub event_count : Trace → ℕ
event_count NoEvent = 0
event_count (Then T e) = event_count T + 1

-- `first_events k T`: the first `k` events of `T`, or all its events if it has fewer.
abbrev pub first_events : ℕ → Trace → Trace
first_events k NoEvent = NoEvent
first_events k (Then T e) = if nat_le (event_count T + 1) k then Then T e else first_events k T

-- `position_of event`: the position in the plan of the case to which `event` belongs.
abbrev pub position_of : Event → ℕ
position_of (Start i role answer) = i
position_of (End ended) = ended.position

-- `events_of i T`: the events of case `i` in the trace `T`, in order.
abbrev pub events_of : ℕ → Trace → List Event
events_of i NoEvent = []
events_of i (Then T e) = if position_of e == i then events_of i T ++ e ∷ [] else events_of i T
