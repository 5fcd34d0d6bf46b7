-- The entries that are recorded for a plan and a trace.
use Rattle.std.specs.Prelude.{ℕ, List, ◌==◌, ◌≡◌, ◌≤◌, Some, count_by, length, take, slice_get}
use Rattle.kt_cli.specs.Types.{Entry, Job, Trace}
use Rattle.kt_sched.specs.EntryOf.{IsEntryOf, AreEntries}
use Rattle.kt_sched.specs.RecordOrder.{ScheduledPut, scheduled_puts, recorded}
use Rattle.kt_sched.specs.Run.{NamesEachOnce}
use Rattle.kt_sched.specs.ScheduleRules.{Legal, Stopped}

-- `AllRecorded plan n T entries`: the trace `T` of `plan` meets the schedule rules at width `n`.
-- `entries` has one entry for each case of `plan`, in record order, with the verdict that follows
-- from the case's events.
pub record AllRecorded (plan : List Job) (n : ℕ) (T : Trace) (entries : List Entry) : Type 0 where
  pub legal : Legal plan n T
  pub once : NamesEachOnce plan (recorded plan n T)
  pub are : AreEntries plan T (recorded plan n T) entries

-- `IsStopped plan n T entries refused`: in the trace `T` of `plan` at width `n`, `entries` were
-- recorded in record order, each case at most once. The put of the next entry, `refused`, failed,
-- and no body was started afterwards.
pub record IsStopped (plan : List Job) (n : ℕ) (T : Trace) (entries : List Entry) (refused : Entry) : Type 0 where
  pub due : ScheduledPut
  pub next : slice_get (scheduled_puts plan n T) (length entries) ≡ Some due
  pub refused_is : IsEntryOf plan T due.position refused
  pub are : AreEntries plan T (take (length entries) (recorded plan n T)) entries
  pub once : (i : ℕ) → count_by (λ p. p == i) (recorded plan n T) ≤ 1
  pub stopped : Stopped plan n T due.after
