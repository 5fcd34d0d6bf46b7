-- The run that a report shows.
use Rattle.std.specs.Prelude.{ℕ, List, [], ◌∷◌, Option, Some, None, Result, Ok, Err}
use Rattle.kt_cli.specs.Types.{Entry, Head, Outline, Run, RunHead, StoreCall}
use Rattle.kt_store.specs.Heads.{IsNumbered}
use Rattle.kt_store.specs.declared.result_store.StoreSpec as keeping
use Rattle.kt_cli.specs.declared.commands.report_error.ReportError.{ReportError}
use Rattle.kt_cli.specs.declared.commands.report_error.ReportError.TheVariants.{NoRuns, NoRun, Refused}
use Rattle.kt_cli.specs.FaultLines.{store_fault_line}
use Rattle.kt_cli.specs.Reports.{RunIsNotShown, no_runs_line, no_run_line, run_of}
use Rattle.kt_cli.specs.Stores.{CallsStore}

-- `not_shown_line why`: the error line of a run that can't be shown because of the error `why`.
abbrev pub not_shown_line : ReportError → List ℕ
not_shown_line NoRuns = no_runs_line
not_shown_line (NoRun number) = no_run_line number
not_shown_line (Refused fault) = store_fault_line fault

-- `FindsRun number calls result`: `calls` look up run `number` in the store, or the last run if
-- `number` is `None`. `result` is the run without properties and outputs, or the error.
pub data FindsRun (number : Option ℕ) : List StoreCall → Result Run ReportError → Type 0 where
  read : (head : RunHead) (outline : List Entry) → IsNumbered number head → FindsRun number (Head number (Ok (Some head)) ∷ Outline head.number (Ok outline) ∷ []) (Ok (run_of head outline))
  missing : (calls : List StoreCall) (why : ReportError) → RunIsNotShown number calls (not_shown_line why) → FindsRun number calls (Err why)

module _ {R : Type 0} (r : keeping.Ghosts R) where
  -- `ReadsRun r number old new answer`: calls that look up run `number`, or the last run if
  -- `number` is `None`, led a store from `old` to `new`. `answer` is the run without properties and
  -- outputs, or the error. `r` is the specification of the store.
  pub record ReadsRun (number : Option ℕ) (old new : R) (answer : Result Run ReportError) : Type 0 where
    pub calls : List StoreCall
    pub stored : CallsStore r calls old new
    pub finds : FindsRun number calls answer

  -- `IsMissing r number old new why`: a store has no run `number`, or no last run if `number` is
  -- `None`. The calls that find the cause led the store from `old` to `new`, and `why` is the
  -- error. `r` is the specification of the store.
  pub record IsMissing (number : Option ℕ) (old new : R) (why : ReportError) : Type 0 where
    pub calls : List StoreCall
    pub stored : CallsStore r calls old new
    pub finds : FindsRun number (Head number (Ok None) ∷ calls) (Err why)
