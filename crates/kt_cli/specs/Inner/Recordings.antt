-- The entries that the execution of a plan recorded, and the lines that it printed.
use Rattle.std.specs.Prelude.{ℕ, Bool, false, List, [], ◌∷◌, ◌++◌, ◌≡◌, Result, Ok, Err}
use Rattle.kt_cli.specs.Types.{Counts, Entry, Job, Leads, NoEvent, Put, RunFault, SinkFailed, SinkFault, StoreCall, StoreFault, Totals, Trace}
use Rattle.kt_sched.specs.declared.launcher.Launcher as launcher
use Rattle.kt_sched.specs.declared.run_fault.RunFault.TheVariants.{NoMemory}
use Rattle.kt_store.specs.declared.result_store.StoreSpec as keeping
use Rattle.kt_cli.specs.Inner.Pages.{WritesNext}
use Rattle.kt_cli.specs.Inner.Recording.{sink_fault_of}
use Rattle.kt_cli.specs.CommandStates.{CommandState}
use Rattle.kt_cli.specs.Stores.{CallsStore, put_calls}
use Rattle.kt_cli.specs.Totals.{lines}
use Rattle.kt_cli.specs.Recordings.{AllRecorded, IsStopped}

-- `RecordedAll plan n T entries last totals`: each case of `plan` was recorded in `entries`, with
-- the trace `T` at width `n`, and `totals` counts them. `last`, the store calls after the puts of
-- `entries`, is empty.
pub record RecordedAll (plan : List Job) (n : ℕ) (T : Trace) (entries : List Entry) (last : List StoreCall) (totals : Totals) : Type 0 where
  pub all : AllRecorded plan n T entries
  pub counts : Counts entries totals
  pub taken : last ≡ []

-- `RecordedNone T entries last`: an allocation failed before the first case was started: the trace
-- `T`, the recorded `entries` and the store calls `last` are empty.
pub record RecordedNone (T : Trace) (entries : List Entry) (last : List StoreCall) : Type 0 where
  pub events : T ≡ NoEvent
  pub none : entries ≡ []
  pub taken : last ≡ []

module _ (plan : List Job) (n number : ℕ) (T : Trace) (entries : List Entry) (last : List StoreCall) where
  -- `RecordedSome plan n number T entries last fault`: in the trace `T` of `plan` at width `n`,
  -- `entries` were recorded, and `last` is the failed put of the next entry into run `number`.
  -- `fault` is the fault that the sink returned for this put.
  pub record RecordedSome (fault : SinkFault) : Type 0 where
    pub entry : Entry
    pub refusal : StoreFault
    pub fault_is : fault ≡ sink_fault_of refusal
    pub one : last ≡ Put number entry (Err refusal) ∷ []
    pub stopped : IsStopped plan n T entries entry

  -- `IsRecordingResult plan n number T entries last outcome`: the execution of `plan` at width `n`
  -- with the trace `T` had the result `outcome`. It recorded `entries` in run `number`, and `last`
  -- is the failed put, if any. For a success `RecordedAll` holds, for a failed put `RecordedSome`,
  -- and for a failed allocation `RecordedNone`.
  abbrev pub IsRecordingResult : Result Totals RunFault → Type 0
  IsRecordingResult (Ok totals) = RecordedAll plan n T entries last totals
  IsRecordingResult (Err (SinkFailed fault)) = RecordedSome fault
  IsRecordingResult (Err (NoMemory refusal)) = RecordedNone T entries last

module _ {L R : Type 0} (l : launcher.Ghosts L) (r : keeping.Ghosts R) (plan : List Job) (n number : ℕ) where
  -- `ExecutesAndRecords l r plan n number old new answer failed`: `plan` was executed at width `n`,
  -- from the state `old` to `new`, with the result `answer`. The store calls put entries into run
  -- `number`, and the last put may have failed. The lines of the successful puts were printed in
  -- order, unless a write failed (`failed`). `l` has the relations of the launcher, and `r` is the
  -- specification of the store.
  pub record ExecutesAndRecords (old new : CommandState L R) (answer : Result Totals RunFault) (failed : Bool) : Type 0 where
    pub trace : Trace
    pub leads : Leads l.starts l.waits plan trace old.world new.world
    pub entries : List Entry
    pub last : List StoreCall
    pub stored : CallsStore r (put_calls number entries ++ last) old.store new.store
    pub written : WritesNext old.held false new.held failed (lines entries)
    pub ends : IsRecordingResult plan n number trace entries last answer
