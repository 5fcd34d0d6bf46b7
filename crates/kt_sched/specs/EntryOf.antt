-- The entry of a case, from its job and its own events.
use Rattle.std.specs.Prelude.{ℕ, true, List, [], ◌∷◌, ◌≡◌, ◌-◌, Some, Result, Ok, slice_get, ⊤}
use Rattle.kt_sched.specs.Types.{Body, Cleanup, Ended, Entry, Job, VerdictValue, Output, Refused, SinkFault, Started}
use Rattle.kt_base.specs.declared.failed_start.Refused.{Refused as Cause}
use Rattle.kt_status.specs.declared.cleanup_end.CleanupEnd.TheVariants as cleanup
use Rattle.kt_status.specs.Tables.{IsVerdict, IsVerdictOfRefusal, IsVerdictAfterCleanup}
use Rattle.kt_sched.specs.Trace.{Event, Start, End, Trace, events_of}
use Rattle.kt_sched.specs.History.{history, is_whole}

-- `empty_output`: the output of a child that didn't run.
abbrev pub empty_output : Output
empty_output = record { out = []; err = [] }

-- `entry job verdict started millis body cleanup`: the entry of `job` with the verdict `verdict`
-- and the outputs `body` and `cleanup`. Its start has the timestamp `started`, and its duration is
-- `millis` milliseconds.
abbrev pub entry : Job → VerdictValue → ℕ → ℕ → Output → Output → Entry
entry job verdict started millis body cleanup = record {
  position = job.position;
  program = job.program;
  case_name = job.case_name;
  verdict = verdict;
  started = started;
  millis = millis;
  body = body;
  cleanup = cleanup;
  meta = job.meta;
}

-- `IsEntry job events entry`: `events` are all events of the case of `job`, and `entry` is the
-- entry of this case.
pub data IsEntry (job : Job) : List Event → Entry → Type 0 where
  decided : (v : VerdictValue) → job.decided ≡ Some v → IsEntry job [] (entry job v 0 0 empty_output empty_output)
  refused : (i : ℕ) (cause : Cause) (v : VerdictValue) → IsVerdictOfRefusal cause v
      → IsEntry job (Start i Body (Refused cause) ∷ []) (entry job v 0 0 empty_output empty_output)
  ended : (i m : ℕ) (e : Ended) (v : VerdictValue) → IsVerdict e.evidence e.outcome v
      → IsEntry job (Start i Body (Started m) ∷ End e ∷ []) (entry job v m (e.moment - m) e.output empty_output)
  uncleaned : (i m : ℕ) (e : Ended) (j : ℕ) (cause : Cause) (body v : VerdictValue)
      → IsVerdict e.evidence e.outcome body → IsVerdictAfterCleanup body cleanup.Refused v
      → IsEntry job (Start i Body (Started m) ∷ End e ∷ Start j Cleanup (Refused cause) ∷ []) (entry job v m (e.moment - m) e.output empty_output)
  cleaned : (i m : ℕ) (e : Ended) (j k : ℕ) (f : Ended) (body v : VerdictValue)
      → IsVerdict e.evidence e.outcome body → IsVerdictAfterCleanup body (cleanup.Ended f.outcome) v
      → IsEntry job (Start i Body (Started m) ∷ End e ∷ Start j Cleanup (Started k) ∷ End f ∷ []) (entry job v m (f.moment - m) e.output f.output)

-- `PutsInOrder puts entries old new`: successful puts of `entries`, in order, lead a sink from the
-- state `old` to the state `new`. `puts` is the relation of a put.
abbrev pub PutsInOrder : {S : Type 0} → (S → Entry → Result (Unit {0}) SinkFault → S → Type 0) → List Entry → S → S → Type 0
PutsInOrder puts [] old new = new ≡ old
PutsInOrder {S} puts (e ∷ es) old new = (mid : S) × puts old e (Ok tt) mid × PutsInOrder puts es mid new

-- `IsEntryOf plan T i entry`: `entry` is the entry of case `i` of `plan`, and the case is over
-- after the trace `T` (`is_whole`).
pub record IsEntryOf (plan : List Job) (T : Trace) (i : ℕ) (entry : Entry) : Type 0 where
  pub job : Job
  pub place : slice_get plan i ≡ Some job
  pub whole : is_whole job (history i T) ≡ true
  pub entry_is : IsEntry job (events_of i T) entry

-- `AreEntries plan T positions entries`: `entries` are, in order, the entries of the cases of
-- `plan` at `positions`. Each of these cases is over after the trace `T` (`is_whole`).
abbrev pub AreEntries : List Job → Trace → List ℕ → List Entry → Type 0
AreEntries plan T [] [] = ⊤
AreEntries plan T (p ∷ ps) (e ∷ es) = IsEntryOf plan T p e × AreEntries plan T ps es
AreEntries plan T ps es = ⊥
