-- Re-exports the names that most proofs of this crate cite. Declares nothing.
pub use Rattle.std.proofs.lemmas.Bool.Decides.{nat_tests}
pub use Rattle.std.proofs.lemmas.Grind.{common_steps, flat_map-append}
pub use Rattle.std.proofs.lemmas.List.{drop-take, length-map}
pub use Rattle.std.proofs.lemmas.Option.{slice_get-get_or, slice_get-map, slice_get_within}
pub use Rattle.std.specs.Fmt.{decimal}
pub use Rattle.std.specs.List.{AllByRecursion, find}
pub use Rattle.std.specs.Option.{option_map}
pub use Rattle.std.specs.Result.{IsErrAnd}
pub use Rattle.std.specs.Vec.{vec_capacity, vec_len}
pub use Rattle.jiff_core.specs.declared.civil.date.Date.{Date}
pub use Rattle.kt_base.proofs.Chains.{chain-append}
pub use Rattle.kt_base.proofs.Showing.{shows_as, shows_both, shows_error, shows_more, shows_none, shows_of, utf8-append}
pub use Rattle.kt_base.specs.Chains.{Chain}
pub use Rattle.kt_base.specs.Emits.{Emits}
pub use Rattle.kt_base.specs.Utf8.{utf8}
pub use Rattle.kt_base.specs.declared.entry.Entry.{Entry}
pub use Rattle.kt_base.specs.declared.verdict.Kind.{Kind}
pub use Rattle.kt_base.specs.declared.entry.Run.{Run}
pub use Rattle.kt_child.specs.Driving.ChildrenState.{ChildrenState, idle_state, is_among}
pub use Rattle.kt_plan.proofs.PlansFit.{plan_fits}
pub use Rattle.kt_plan.specs.WorldCalls.{CallToHost, CallToTree, WorldCall, WorldLeads, host_calls}
pub use Rattle.kt_plan.specs.declared.cases.Candidate.{Candidate}
pub use Rattle.kt_report.proofs.InTurn.{shows_cut_off, shows_whole}
pub use Rattle.kt_report.specs.Junits.{case_bytes, junit_end, junit_start, junit_bytes, junit_layout}
pub use Rattle.kt_report.specs.Lines.{line_bytes}
pub use Rattle.kt_report.specs.Texts.{IsDateOf, entries_by_section, has_kind, last_kind, title_line_after, text_bytes, text_layout, titled_lines}
pub use Rattle.kt_sched.specs.Children.{IsIdle}
pub use Rattle.kt_sched.specs.EntryOf.{AreEntries, PutsInOrder, IsEntry, IsEntryOf, decided, ended, refused}
pub use Rattle.kt_sched.specs.Plan.{IsPlan}
pub use Rattle.kt_sched.specs.RecordOrder.{ScheduledPut, recorded}
pub use Rattle.kt_sched.specs.Run.{EndsAs}
pub use Rattle.kt_sched.specs.Trace.{Event, NoEvent, Trace, events_of}
pub use Rattle.kt_sched.specs.declared.job.Job.{Job}
pub use Rattle.kt_sched.specs.declared.run_fault.RunFault.{RunFault}
pub use Rattle.kt_sched.specs.declared.run_fault.RunFault.TheVariants.{NoMemory, SinkFailed}
pub use Rattle.kt_sched.specs.declared.sink.SinkFault.{SinkFault}
pub use Rattle.kt_sched.specs.declared.totals.Totals.{Totals}
pub use Rattle.kt_store.specs.Ask.{IsDatabaseFault}
pub use Rattle.kt_store.specs.Heads.{IsNumbered, entry_at, head_at, head_of, outline_entry, outputs_of, without_outputs}
pub use Rattle.kt_store.specs.Runs.{AreNumbered, finish, finish_refusal, finish_refusal_of, has_position, insert_by_position, new_run, put_refusal, put_refusal_of, run_at, with_entry}
pub use Rattle.kt_store.specs.Serving.{Agrees, SurvivesCrash, Serves, runs_after}
pub use Rattle.kt_store.specs.StoreCalls.{Began, Finished, Head, Outline, Outputs, Pairs, Put, StoreCall}
pub use Rattle.kt_store.specs.declared.result_store.CaseOutputs.{CaseOutputs}
pub use Rattle.kt_store.specs.declared.result_store.RunHead.{RunHead}
pub use Rattle.kt_store.specs.declared.store_fault.StoreFault.{StoreFault}
pub use Rattle.kt_store.specs.declared.store_fault.StoreFault.TheVariants.{NoRun}
pub use Rattle.kt_args.specs.Commands.{case_options_of, filter_rule_of}
pub use Rattle.kt_args.specs.declared.command.Command.{Command}
pub use Rattle.kt_args.specs.declared.filter_rule.FilterRule.{FilterRule}
pub use Rattle.kt_args.specs.declared.filter_rule.FilterRule.TheVariants.{AnyFilters, OneCase}
pub use Rattle.kt_args.specs.declared.options.ReportOptions.{ReportOptions}
unfoldable pub use lib.Utf8.{encode}
unfoldable pub use Rattle.std.specs.Str.{chars}
pub use Rattle.kt_cli.specs.CaseLines.{case_line}
pub use Rattle.kt_cli.specs.Debugging.{all_debug_bytes, debug_bytes, debug_exit}
pub use Rattle.kt_cli.specs.FaultLines.{memory_line, store_fault_line}
pub use Rattle.kt_cli.specs.HostReplies.{IsHostReply, IsFileCall, host_world, file_call_keeps_children, call_keeps_children}
pub use Rattle.kt_cli.specs.Inner.Debugging.{IsDebugResult, ExecutesDebug, Prints}
pub use Rattle.kt_cli.specs.Inner.FaultLines.{run_line}
pub use Rattle.kt_cli.specs.Inner.Pages.{WritesNext, WritesMore}
pub use Rattle.kt_cli.specs.Inner.Recording.{RecordsEntry, Recording, recording, sink_fault_of}
pub use Rattle.kt_cli.specs.Inner.Recordings.{IsRecordingResult, RecordedAll, RecordedNone, RecordedSome, ExecutesAndRecords}
pub use Rattle.kt_cli.specs.Inner.Reports.{WritesReport}
pub use Rattle.kt_cli.specs.Inner.StoredDetails.{Reading, ReadsEntry, WritesStoredReport, outputs_reading, pairs_reading}
pub use Rattle.kt_cli.specs.Inner.Stores.{runs_after_puts}
pub use Rattle.kt_cli.specs.Inner.Testing.{ExecutesPlan}
pub use Rattle.kt_cli.specs.Command.{CommandResult, Means, debugged, listed, no_memory, nothing_to_debug, reported, reported_junit, stopped, tested}
pub use Rattle.kt_cli.specs.Courses.{CommandCalls, IsPrepared, CallsWorld, MakesCallPrefix, OnlyCallsStore, OnlyListsCases, preparing, selecting, executed_cases}
pub use Rattle.kt_cli.specs.Pages.{Printed}
pub use Rattle.kt_cli.specs.Performing.{ExecutesInFile, ExecutesOnHost, FailsToCreateRoot, ProgramRelations, needs_nothing, closed, done, no_driver, no_file, no_surroundings, no_world, none_made, not_absolute, not_opened, program, state}
pub use Rattle.kt_cli.specs.Recordings.{AllRecorded, IsStopped}
pub use Rattle.kt_cli.specs.Reports.{AreEqualExceptOutputs, PrintsReport, PrintsJunitReport, outputs_calls, pairs_calls, no_output, no_pairs, not_shown, pairs_shown, run_of, run_shown}
pub use Rattle.kt_cli.specs.CommandStates.{CommandState, World, launcher_of, command_state, world_of}
pub use Rattle.kt_cli.specs.SoundStores.{IsSoundExecution, with_new_run}
pub use Rattle.kt_cli.specs.Stores.{Agree, CallsStore, crash_runs_after_calls, crash_runs_after, entries_by_position, runs_after_calls, with_entries_inserted, put_calls}
pub use Rattle.kt_cli.specs.Testing.{PlannedRun, begin_call, exit_status, test_output, test_exit, planned_run}
pub use Rattle.kt_cli.specs.Totals.{bad_count, good_count, lines}
pub use Rattle.kt_cli.specs.Warnings.{warning_at, warnings}
pub use Rattle.kt_report.specs.declared.write_report_error.WriteReportError.TheVariants.{Details, Report}
pub use Rattle.kt_cli.specs.declared.host.host_world.HostWorld.{HostWorld}
pub use Rattle.kt_cli.specs.declared.output.exit.Exit.{Exit}
