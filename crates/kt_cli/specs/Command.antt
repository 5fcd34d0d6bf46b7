-- The meaning of a command: its output, its exit status and its effect on the stored runs, by the
-- results of its calls. `RunResult` and `Means` are tables: a row is one way in which the command
-- can end.
use Rattle.std.specs.Prelude.{ℕ, Bool, List, [], ◌∷◌, ◌++◌, ◌≡◌, Some, Ok, Err}
use Rattle.kt_cli.specs.Types.{Candidate, CaseOptions, Command, CommandSelection, Entry, Finished, Kind, NoEvent, Now, Put, SelectionError, StoreCall, StoreFault, Trace, case_options_of, filter_rule_of, utf8}
use Rattle.kt_store.specs.declared.result_store.StoreSpec as keeping
use Rattle.kt_args.specs.declared.command.Command.TheVariants as command
use Rattle.kt_args.specs.declared.filter_rule.FilterRule.TheVariants.{AnyFilters, OneCase}
use Rattle.kt_args.specs.declared.options.ReportOptions.{ReportOptions}
use Rattle.kt_plan.specs.Selecting.{Selects}
use Rattle.kt_cli.specs.declared.output.exit.Exit.{Exit}
use Rattle.kt_cli.specs.Courses.{CommandCalls, IsPrepared, CallsWorld, MakesCallPrefix, OnlyCallsStore, OnlyListsCases}
use Rattle.kt_cli.specs.Debugging.{all_debug_bytes, debug_exit}
use Rattle.kt_cli.specs.FaultLines.{memory_line, store_fault_line}
use Rattle.kt_cli.specs.Listings.{list_output, list_exit}
use Rattle.kt_cli.specs.Pages.{Printed}
use Rattle.kt_cli.specs.Recordings.{AllRecorded, IsStopped}
use Rattle.kt_cli.specs.Reports.{PrintsReport, PrintsJunitReport}
use Rattle.kt_cli.specs.CommandStates.{CommandState, World}
use Rattle.kt_cli.specs.StopLines.{stop_exit, stop_line}
use Rattle.kt_cli.specs.Stores.{CallsStore, put_calls}
use Rattle.kt_cli.specs.Testing.{PlannedRun, begin_call, test_output, test_exit, planned_run}
use Rattle.kt_cli.specs.Totals.{lines}
use Rattle.kt_cli.specs.Warnings.{warnings}

-- ---- one run

-- `RunResult planned T calls bytes exit`: `test` executes the run `planned`, whose children have
-- the trace `T`, with the calls `calls` to the store. It begins the run, puts each entry and
-- finishes the run. `bytes` is its output: the entries' lines, then the totals and warnings. `exit`
-- is its exit status. The first call that fails is the last one, and its error line follows the
-- lines of the entries that were put. If an allocation fails before the first case, no entry is
-- put, and only the out-of-memory line is printed.
pub data RunResult (planned : PlannedRun) (T : Trace) : List StoreCall → List ℕ → ℕ → Type 0 where
  recorded : (number : ℕ) (entries : List Entry) → AllRecorded planned.plan planned.width T entries
      → RunResult planned T (begin_call planned (Ok number) ∷ (put_calls number entries ++ Finished number (Ok tt) ∷ [])) (test_output entries planned.words planned.unmatched) (test_exit entries planned.unmatched)
  not_begun : (fault : StoreFault) → T ≡ NoEvent → RunResult planned T (begin_call planned (Err fault) ∷ []) (utf8 (store_fault_line fault)) 2
  not_run : (number : ℕ) → T ≡ NoEvent → RunResult planned T (begin_call planned (Ok number) ∷ []) (utf8 memory_line) 2
  not_put : (number : ℕ) (entries : List Entry) (refused : Entry) (fault : StoreFault) → IsStopped planned.plan planned.width T entries refused
      → RunResult planned T (begin_call planned (Ok number) ∷ (put_calls number entries ++ Put number refused (Err fault) ∷ [])) (lines entries ++ utf8 (store_fault_line fault)) 2
  not_finished : (number : ℕ) (entries : List Entry) (fault : StoreFault) → AllRecorded planned.plan planned.width T entries
      → RunResult planned T (begin_call planned (Ok number) ∷ (put_calls number entries ++ Finished number (Err fault) ∷ [])) (lines entries ++ utf8 (store_fault_line fault)) 2

-- ---- one command

-- `Means seen failed c bytes exit`: by the calls `seen`, the command `c` prints `bytes` and has the
-- exit status `exit`. `failed` is whether a write failed, after which a report reads no more.
--
-- `list`, `test` and `debug` read the configuration, the filters, the Kyuafiles and the lists of
-- cases, in this order (`Selects`). The first fault ends them (`stopped`), and so does a failed
-- allocation (`no_memory`). `test` and `debug` then check requirements, plan and start cases.
pub data Means (seen : CommandCalls) (failed : Bool) : Command → List ℕ → ℕ → Type 0 where
  stopped : (c : Command) (options : CaseOptions) (fault : SelectionError) → case_options_of c ≡ Some options → Selects (filter_rule_of c) options seen.world_calls (Err fault) → OnlyListsCases seen
      → Means seen failed c (utf8 (stop_line fault)) (stop_exit fault)
  no_memory : (c : Command) (options : CaseOptions) → case_options_of c ≡ Some options → MakesCallPrefix (filter_rule_of c) options seen.world_calls → OnlyListsCases seen
      → Means seen failed c (utf8 memory_line) 2
  listed : (options : CaseOptions) (picked : CommandSelection) → Selects AnyFilters options seen.world_calls (Ok picked) → OnlyListsCases seen
      → Means seen failed (command.List options) (list_output options.filters picked.chosen) (list_exit picked.chosen)
  tested : (options : CaseOptions) (file : List ℕ) (picked : CommandSelection) (moment : ℕ) (bytes : List ℕ) (exit : ℕ) → IsPrepared AnyFilters options seen picked picked.chosen.cases (Now moment ∷ [])
      → RunResult (planned_run seen.plan options picked moment) seen.trace seen.calls bytes exit
      → Means seen failed (command.Test options file) bytes exit
  debugged : (options : CaseOptions) (picked : CommandSelection) (first : Candidate) (others : List Candidate) (entries : List Entry) → picked.chosen.cases ≡ first ∷ others
      → IsPrepared OneCase options seen picked (first ∷ []) [] → AllRecorded seen.plan 1 seen.trace entries → seen.calls ≡ []
      → Means seen failed (command.Debug options) (all_debug_bytes entries) (debug_exit entries)
  nothing_to_debug : (options : CaseOptions) (picked : CommandSelection) → Selects OneCase options seen.world_calls (Ok picked) → picked.chosen.cases ≡ [] → OnlyListsCases seen
      → Means seen failed (command.Debug options) (utf8 (warnings options.filters picked.chosen.unmatched)) 1
  reported : (options : ReportOptions) (kinds : List Kind) (verbose : Bool) (bytes : List ℕ) (exit : ℕ) → OnlyCallsStore seen → PrintsReport options.run kinds failed verbose seen.calls bytes exit
      → Means seen failed (command.Report options kinds verbose) bytes exit
  reported_junit : (options : ReportOptions) (bytes : List ℕ) (exit : ℕ) → OnlyCallsStore seen → PrintsJunitReport options.run failed seen.calls bytes exit
      → Means seen failed (command.ReportJunit options) bytes exit

module _ {W R : Type 0} (w : World W) (r : keeping.Ghosts R) where
  -- `CommandResult w r c old new exit`: `execute` ran the command `c` from state `old` to `new`
  -- with the exit status `exit`. `course` are its calls of the world, in order. `stored` states the
  -- effect of its calls on the runs, and no other field depends on what the store contains. `bytes`
  -- were printed, and `exit` is `intended_exit`. If a write failed, only a proper prefix of `bytes`
  -- was printed, and `exit` is 2. `w` has the relations of the world, and `r` is the specification
  -- of the store.
  pub record CommandResult (c : Command) (old new : CommandState W R) (exit : ℕ) : Type 0 where
    pub seen : CommandCalls
    pub course : CallsWorld w seen old.world new.world
    pub stored : CallsStore r seen.calls old.store new.store
    pub bytes : List ℕ
    pub intended_exit : ℕ
    pub printed : Printed old.held new.held exit bytes intended_exit
    pub is : Means seen printed.failed c bytes intended_exit

  -- ---- commands in order

  -- `ExecutesAllCommands w r commands old new exits`: `commands` were executed in order, from state
  -- `old` to `new`, each in the state that the command before it left. `exits` are their exit
  -- statuses. `w` has the relations of the world, and `r` is the specification of the store.
  pub data ExecutesAllCommands : List Command → CommandState W R → CommandState W R → List Exit → Type 0 where
    none_left : (here : CommandState W R) → ExecutesAllCommands [] here here []
    one_and : (c : Command) (more : List Command) (old mid new : CommandState W R) (exit : Exit) (exits : List Exit) → CommandResult c old mid exit.status → ExecutesAllCommands more mid new exits
        → ExecutesAllCommands (c ∷ more) old new (exit ∷ exits)
