-- The output of `debug`.
use Rattle.std.specs.Prelude.{ℕ, Bool, List, [], ◌≡◌, false, Option, Result, Ok, Err}
use Rattle.kt_cli.specs.Types.{Counts, Entry, Job, Leads, NoEvent, RunFault, SinkFailed, SinkFault, Totals, Trace}
use Rattle.kt_sched.specs.declared.launcher.Launcher as launcher
use Rattle.kt_sched.specs.declared.run_fault.RunFault.TheVariants.{NoMemory}
use Rattle.kt_cli.specs.Inner.Pages.{WritesNext}
use Rattle.kt_cli.specs.Recordings.{AllRecorded}
use Rattle.kt_cli.specs.Debugging.{all_debug_bytes, debug_bytes}

-- `Prints failed held entry answer failed' held'`: a put of `entry` into a `Printer` prints the
-- entry, unless a write fails. If an earlier write failed (`failed`), nothing is printed. The
-- result `answer` of the put is always a success. `held` and `held'` are the contents of the writer
-- before and after, and `failed'` is whether a write has failed after the put.
abbrev pub Prints : Bool → Option (List ℕ) → Entry → Result (Unit {0}) SinkFault → Bool → Option (List ℕ) → Type 0
Prints failed held entry answer failed' held' = (answer ≡ Ok tt) × WritesNext held failed held' failed' (debug_bytes entry)

-- `IsDebugResult plan T entries outcome`: if `outcome` is a success, `entries` are those of all
-- cases of `plan` with the trace `T`, and `outcome` has their totals. The only possible error is a
-- failed allocation before a case was started, and then there are no entries.
abbrev pub IsDebugResult : List Job → Trace → List Entry → Result Totals RunFault → Type 0
IsDebugResult plan T entries (Ok totals) = AllRecorded plan 1 T entries × Counts entries totals
IsDebugResult plan T entries (Err (NoMemory refusal)) = (T ≡ NoEvent) × (entries ≡ [])
IsDebugResult plan T entries (Err (SinkFailed fault)) = ⊥

module _ {L : Type 0} (l : launcher.Ghosts L) (plan : List Job) where
  -- `ExecutesDebug l plan old new was now failed answer`: `plan` was executed one case at a time,
  -- from launcher `old` to `new`, with the result `answer`. Each entry was printed, up to a failed
  -- write (`failed`). `was` and `now` are the contents of the writer before and after. `l` has the
  -- relations of the launcher.
  pub record ExecutesDebug (old new : L) (was now : Option (List ℕ)) (failed : Bool) (answer : Result Totals RunFault) : Type 0 where
    pub trace : Trace
    pub leads : Leads l.starts l.waits plan trace old new
    pub entries : List Entry
    pub written : WritesNext was false now failed (all_debug_bytes entries)
    pub ends : IsDebugResult plan trace entries answer
