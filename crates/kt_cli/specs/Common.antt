-- Re-exports the names that the clauses of this crate cite. Declares nothing.
pub use Rattle.std.proofs.Common.{ap}
pub use Rattle.std.specs.Io.{WritesAtMost}
pub use Rattle.std.specs.Io.KnownBytes.{Keeps, WriteAppends}
pub use Rattle.std.specs.Str.{chars}
pub use Rattle.jiff_core.specs.declared.civil.date.Date.{Date}
pub use Rattle.kt_base.specs.Moments.{IsMoment}
pub use Rattle.kt_base.specs.Emits.{Emits}
pub use Rattle.kt_base.specs.Utf8.{utf8}
pub use Rattle.kt_base.specs.declared.entry.Run.{Run}
pub use Rattle.kt_child.specs.Driving.ChildrenState.{ChildrenState, is_among, launcher_child_in}
pub use Rattle.kt_report.specs.Junits.{junit_layout}
pub use Rattle.kt_report.specs.Texts.{IsDateOf, entries_by_section, text_layout}
pub use Rattle.kt_sched.specs.Children.{IsIdle}
pub use Rattle.kt_sched.specs.Plan.{IsPlan, IsWidth}
pub use Rattle.kt_suite.specs.Selecting.{item_limit}
pub use Rattle.kt_args.specs.Commands.{case_options_of}
pub use Rattle.kt_args.specs.declared.command.Command.{Command}
pub use Rattle.kt_cli.specs.Closings.{ClosesResults}
pub use Rattle.kt_cli.specs.Command.{CommandResult, ExecutesAllCommands}
pub use Rattle.kt_cli.specs.CommandLines.{IsCommandOfArgs}
pub use Rattle.kt_cli.specs.Debugging.{debug_bytes}
pub use Rattle.kt_cli.specs.FaultLines.{fault_line, memory_line, store_fault_line}
pub use Rattle.kt_cli.specs.NonblockingOutputs.{accepted_bytes, has_stopped, unsent_bytes}
pub use Rattle.kt_cli.specs.HostReplies.{HostStarts, HostWaits, IsHostReply, file_call_keeps_children, call_keeps_children}
pub use Rattle.kt_cli.specs.Inner.Debugging.{ExecutesDebug, Prints}
pub use Rattle.kt_cli.specs.Inner.FaultLines.{run_line}
pub use Rattle.kt_cli.specs.Inner.Courses.{ExecutesWithoutStore, ExecutesWithoutWorld}
pub use Rattle.kt_cli.specs.Inner.Pages.{WritesNext}
pub use Rattle.kt_cli.specs.Inner.Recording.{RecordsEntry, HasRecorded, recording, sink_fault_of}
pub use Rattle.kt_cli.specs.Inner.Recordings.{ExecutesAndRecords}
pub use Rattle.kt_cli.specs.Inner.Reports.{WritesReport}
pub use Rattle.kt_cli.specs.Inner.Shown.{IsMissing, ReadsRun, not_shown_line}
pub use Rattle.kt_cli.specs.Inner.StoredDetails.{ReadsEntry, WritesStoredReport, outputs_reading, pairs_reading}
pub use Rattle.kt_cli.specs.Inner.Testing.{ExecutesPlan}
pub use Rattle.kt_cli.specs.LineOutputs.{FlushResult, given_bytes, has_failed, is_broken, line_state, flush_fault, unwritten}
pub use Rattle.kt_cli.specs.Listings.{list_output}
pub use Rattle.kt_cli.specs.Pages.{Printed}
pub use Rattle.kt_cli.specs.Performing.{RunsArguments, ExecutesInFile, ExecutesOnHost, FlushesOutput, IsNewDriver, FailsToCreateDriver, FailsToCreateRoot, IsFirstWorld, RejectsArguments, command_access, program, state}
pub use Rattle.kt_cli.specs.KyuafilePaths.{source_directory}
pub use Rattle.kt_cli.specs.Refused.{PrintedWithStatus, command_exit, command_text, driver_line, failure_exit}
pub use Rattle.kt_cli.specs.Reports.{PrintsReport, PrintsJunitReport}
pub use Rattle.kt_cli.specs.CommandStates.{CommandState, command_state}
pub use Rattle.kt_cli.specs.SoundStores.{IsSoundExecution}
pub use Rattle.kt_cli.specs.StopLines.{stop_exit, stop_line}
pub use Rattle.kt_cli.specs.Stores.{CallsStore}
pub use Rattle.kt_cli.specs.Testing.{totals_and_warnings, planned_run}
pub use Rattle.kt_cli.specs.Totals.{totals_text}
pub use Rattle.kt_cli.specs.Warnings.{warning_at, warnings}
