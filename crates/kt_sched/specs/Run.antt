-- The effects of a run on its launcher and its sink.
use Rattle.std.specs.Prelude.{ℕ, List, [], ◌++◌, ◌==◌, ◌≡◌, ◌<◌, ◌≤◌, Result, Ok, Err, slice_get, Some, length, take, count_by, not}
use Rattle.kt_sched.specs.Types.{Entry, Job, NoMemory, RunFault, SinkFailed, SinkFault, Totals}
use Rattle.kt_base.specs.Kinds.{good as is_good}
use Rattle.kt_sched.specs.declared.launcher.Launcher as launcher
use Rattle.kt_sched.specs.declared.sink.Sink as sink
use Rattle.kt_sched.specs.Trace.{Event, Start, End, HasValidTimestamp, Trace, NoEvent, Leads, events_of}
use Rattle.kt_sched.specs.ScheduleRules.{HoldsAtEachEvent, Legal, Stopped}
use Rattle.kt_sched.specs.RecordOrder.{ScheduledPut, scheduled_puts, recorded}
use Rattle.kt_sched.specs.EntryOf.{PutsInOrder, IsEntryOf, AreEntries}
use Rattle.kt_sched.specs.Children.{IsEvidence}
use Rattle.kt_base.specs.Moments.{IsMoment}

-- `FitsAt plan T event`: the timestamp of `event`, if any, is before the year 10000. If `event` is
-- the end of a child, its evidence fits the interface of its job in `plan`. The rule doesn't depend
-- on `T`, the events before `event`.
abbrev pub FitsAt : List Job → Trace → Event → Type 0
FitsAt plan T (Start i role answer) = HasValidTimestamp answer
FitsAt plan T (End ended) =
    IsMoment ended.moment × ((job : Job) × (slice_get plan ended.position ≡ Some job) × IsEvidence job.interface ended.role ended.evidence)

-- `Counts entries t`: the totals `t` are the number of all `entries`, of those with a good verdict,
-- and of the others. A verdict is good if it is passed, skipped or expected_failure.
pub record Counts (entries : List Entry) (t : Totals) : Type 0 where
  pub total : t.total ≡ length entries
  pub good : t.good ≡ count_by (λ (e : Entry). is_good e.verdict.kind) entries
  pub bad : t.bad ≡ count_by (λ (e : Entry). not (is_good e.verdict.kind)) entries

-- `NamesEachOnce plan positions`: `positions` has each position of `plan` once, and no other
-- element.
pub record NamesEachOnce (plan : List Job) (positions : List ℕ) : Type 0 where
  pub all : length positions ≡ length plan
  pub once : (i : ℕ) → i < length plan → count_by (λ p. p == i) positions ≡ 1

-- `StartsNothing T gained before after`: the trace `T` has no event, the list of entries `gained`
-- is empty, and the sink's states `before` and `after` are equal.
pub record StartsNothing {S : Type 0} (T : Trace) (gained : List Entry) (before after : S) : Type 0 where
  pub events : T ≡ NoEvent
  pub entries : gained ≡ []
  pub same : after ≡ before

module _ {S : Type 0} (puts : S → Entry → Result (Unit {0}) SinkFault → S → Type 0) where
  -- `HasFailedPut plan n T gained fault before after`: in the run of `plan` with the width `n` and
  -- the trace `T`, the puts of the entries `gained` succeeded. The put that is scheduled after them
  -- (`scheduled_puts`) failed with `fault`. All these puts lead the sink from the state `before` to
  -- `after`.
  pub record HasFailedPut (plan : List Job) (n : ℕ) (T : Trace) (gained : List Entry) (fault : SinkFault) (before after : S) : Type 0 where
    pub next : ScheduledPut
    pub is_next : slice_get (scheduled_puts plan n T) (length gained) ≡ Some next
    pub refused : Entry
    pub refused_is : IsEntryOf plan T next.position refused
    pub mid : S
    pub gains : PutsInOrder puts gained before mid
    pub fails : puts mid refused (Err fault) after

  -- `CompletesRun plan n T gained before after totals`: no put of the run of `plan` with the width
  -- `n` failed, and its trace `T` is legal. The put of each case is scheduled once (`recorded`),
  -- and there are as many entries `gained` as cases. The puts of these entries lead the sink from
  -- the state `before` to `after`, and `totals` counts the entries.
  pub record CompletesRun (plan : List Job) (n : ℕ) (T : Trace) (gained : List Entry) (before after : S) (totals : Totals) : Type 0 where
    pub legal : Legal plan n T
    pub once : NamesEachOnce plan (recorded plan n T)
    pub all : length gained ≡ length plan
    pub gains : PutsInOrder puts gained before after
    pub counts : Counts gained totals

  -- `FailsAtPut plan n T gained before after fault`: in the run of `plan` with the width `n` and
  -- the trace `T`, the puts of the entries `gained` succeeded. The next scheduled put failed with
  -- `fault`. All these puts lead the sink from the state `before` to `after`, and no body is
  -- started after the failed put (`Stopped`).
  pub record FailsAtPut (plan : List Job) (n : ℕ) (T : Trace) (gained : List Entry) (before after : S) (fault : SinkFault) : Type 0 where
    pub failed : HasFailedPut plan n T gained fault before after
    pub stopped : Stopped plan n T failed.next.after

  -- `EndsAs plan n T gained before after result`: the run of `plan` with the width `n` and the
  -- trace `T` returns `result`. The sink gains the entries `gained` and goes from the state
  -- `before` to `after`. `CompletesRun` holds if `result` has totals. `FailsAtPut` holds if it
  -- reports a failed put, and `StartsNothing` if it reports a failed allocation.
  abbrev pub EndsAs : List Job → ℕ → Trace → List Entry → S → S → Result Totals RunFault → Type 0
  EndsAs plan n T gained before after (Ok totals) = CompletesRun plan n T gained before after totals
  EndsAs plan n T gained before after (Err (SinkFailed fault)) = FailsAtPut plan n T gained before after fault
  EndsAs plan n T gained before after (Err (NoMemory refusal)) = StartsNothing T gained before after

module _ {L S : Type 0} (l : launcher.Ghosts L) (s : sink.Ghosts S) where
  -- `RunsPlan plan n old new before after result`: the run of `plan` with the width `n` returns
  -- `result` (`EndsAs`). Its trace leads the launcher from the state `old` to `new`. In the trace,
  -- each case has at most 4 events and at most one scheduled put. The sink goes from the state
  -- `before` to `after` and gains entries. They are the entries of the first scheduled puts, in
  -- order. `l` and `s` are the relations of the launcher and the sink.
  pub record RunsPlan (plan : List Job) (n : ℕ) (old new : L) (before after : S) (result : Result Totals RunFault) : Type 0 where
    pub trace : Trace
    pub leads : Leads l.starts l.waits plan trace old new
    pub fits : HoldsAtEachEvent (FitsAt plan) trace
    pub calls : (i : ℕ) → length (events_of i trace) ≤ 4
    pub once : (i : ℕ) → count_by (λ p. p == i) (recorded plan n trace) ≤ 1
    pub gained : List Entry
    pub are : AreEntries plan trace (take (length gained) (recorded plan n trace)) gained
    pub kept : (put : List Entry) → s.entries before put → s.entries after (put ++ gained)
    pub ends : EndsAs s.puts plan n trace gained before after result
