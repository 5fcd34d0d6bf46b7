-- Re-exports the types and names that the definitions of this crate cite. Declares nothing.
pub use Rattle.jiff_core.specs.declared.civil.date.Date.{Date}
pub use Rattle.kt_base.specs.Chains.{Chain}
pub use Rattle.kt_base.specs.Characters.{is_absolute}
pub use Rattle.kt_base.specs.Emits.{Emits}
pub use Rattle.kt_base.specs.Utf8.{utf8}
pub use Rattle.kt_base.specs.declared.child.Role.{Role}
pub use Rattle.kt_base.specs.declared.entry.Entry.{Entry}
pub use Rattle.kt_base.specs.declared.entry.Run.{Run}
pub use Rattle.kt_base.specs.declared.verdict.Kind.{Kind}
pub use Rattle.kt_child.specs.declared.driving.driver.DriverFault.{DriverFault}
pub use Rattle.kt_child.specs.declared.driving.driver.DriverFault.TheVariants.{NoWorkDirectory}
pub use Rattle.kt_os.specs.System.Calls.{Call}
pub use Rattle.kt_os.specs.declared.machine.process_env.ProcessEnv.{ProcessEnv}
pub use Rattle.kt_os.specs.declared.system.OsFault.{OsFault}
pub use Rattle.kt_plan.specs.WorldCalls.{WorldCall, WorldLeads}
pub use Rattle.kt_plan.specs.Reply.{Now, Reply}
pub use Rattle.kt_plan.specs.declared.cases.Candidate.{Candidate}
pub use Rattle.kt_plan.specs.declared.cases.CommandSelection.{CommandSelection}
pub use Rattle.kt_plan.specs.declared.selection_error.SelectionError.{SelectionError}
pub use Rattle.kt_report.specs.Lines.{line_bytes}
pub use Rattle.kt_report.specs.Texts.{IsDateOf, entries_by_section, last_kind, title_line_after, titled_lines}
pub use Rattle.kt_sched.specs.Run.{Counts}
pub use Rattle.kt_sched.specs.Trace.{Leads, NoEvent, Trace}
pub use Rattle.kt_sched.specs.declared.job.Ended.{Ended}
pub use Rattle.kt_sched.specs.declared.job.Job.{Job}
pub use Rattle.kt_sched.specs.declared.job.StartAnswer.{StartAnswer}
pub use Rattle.kt_sched.specs.declared.run_fault.RunFault.{RunFault}
pub use Rattle.kt_sched.specs.declared.run_fault.RunFault.TheVariants.{SinkFailed}
pub use Rattle.kt_sched.specs.declared.sink.SinkFault.{SinkFault}
pub use Rattle.kt_sched.specs.declared.totals.Totals.{Totals}
pub use Rattle.kt_store.specs.Ask.{IsDatabaseFault}
pub use Rattle.kt_store.specs.Runs.{AreNumbered, with_entry}
pub use Rattle.kt_store.specs.Serving.{Agrees, runs_after}
pub use Rattle.kt_store.specs.StoreCalls.{Began, Finished, Head, Outline, Outputs, Pairs, Put, StoreCall}
pub use Rattle.kt_store.specs.declared.access.Access.{Access}
pub use Rattle.kt_store.specs.declared.result_store.RunHead.{RunHead}
pub use Rattle.kt_store.specs.declared.store_fault.StoreFault.{StoreFault}
pub use Rattle.kt_suite.specs.Answers.{Asked}
pub use Rattle.kt_suite.specs.declared.tree.ReadFault.{ReadFault}
pub use Rattle.kt_args.specs.Commands.{case_options_of, filter_rule_of}
pub use Rattle.kt_args.specs.declared.command.Command.{Command}
pub use Rattle.kt_args.specs.declared.command_fault.CommandFault.{CommandFault}
pub use Rattle.kt_args.specs.declared.filter_rule.FilterRule.{FilterRule}
pub use Rattle.kt_args.specs.declared.options.CaseOptions.{CaseOptions}
pub use Rattle.std.specs.Fmt.{decimal}
pub use Rattle.std.specs.declared.io.Error.{Error}
pub use Rattle.kt_cli.specs.declared.host.host_world.HostWorld.{HostWorld}
