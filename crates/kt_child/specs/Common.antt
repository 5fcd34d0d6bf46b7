-- The names that the clauses of this crate cite, re-exported. Declares nothing.
pub use Rattle.std.specs.Str.{chars}
pub use Rattle.kt_base.specs.Chains.{Chain}
pub use Rattle.kt_base.specs.Moments.{IsMoment}
pub use Rattle.kt_sched.specs.Children.{IsEvidence, IsIdle, MayStart, pending_after_end, pending_after_start, running_after_end, running_after_start}
pub use Rattle.kt_sched.specs.Plan.{IsStartableJob, IsPlan, IsWidth}
pub use Rattle.kt_sched.specs.Run.{RunsPlan}
pub use Rattle.kt_sched.specs.Trace.{HasValidTimestamp, Leads, Trace}
pub use Rattle.kt_child.specs.Driving.ChildrenState.{idle_state, is_among, launcher_child_in}
pub use Rattle.kt_child.specs.Driving.DriverState.{TakesAttemptNumber, WaitsForEnd, driver_state, driver_state_of}
pub use Rattle.kt_child.specs.Driving.DriverSteps.{DriverStarts, DriverWaits}
pub use Rattle.kt_child.specs.Driving.JobPlan.{case_of, child_timeout_seconds, list_case, list_purpose, program_directory, program_path, spawn_plan_for, job_spawn_plan, want_of}
pub use Rattle.kt_child.specs.Driving.Lists.{ListsProgram, RunsList, AwaitsList}
pub use Rattle.kt_child.specs.Driving.Numbers.{AttemptsDiffer, AttemptNumbersAreUnique}
pub use Rattle.kt_child.specs.Driving.Roots.{CreatesRoot, driver_message}
pub use Rattle.kt_child.specs.Driving.Runs.{CallsMatchTraces, RunsFrom}
pub use Rattle.kt_child.specs.Driving.Starting.{StartsByPlan, SpawnsByPlan, SpawnsInExistingDir, SpawnsInNewDir, Started, MakesCalls, refusal_cause, spawn_calls, new_attempt_calls, spawn_call, new_running_child}
pub use Rattle.kt_child.specs.Ending.Ends.{FinishesChild, Removes, stderr_path, is_last_child, stdout_path}
pub use Rattle.kt_child.specs.Ending.Gathering.{ReadsEvidence, ReadsClaim, ReadsTap}
pub use Rattle.kt_child.specs.Ending.Parts.{IsReadEnd, Reads, next_part_call}
pub use Rattle.kt_child.specs.Ending.Reads.{IsListWithin, bytes_of, list_of}
pub use Rattle.kt_child.specs.Inner.Children.{IsRunningChild, IsRunningWithin, AreRunningCounts, TakesBytes, count_in, state_after_start, with_pending}
pub use Rattle.kt_child.specs.Inner.Started.{IsStart}
pub use Rattle.kt_child.specs.Planning.ChildPlan.{child_of, common_variables, env_of, interface_variables, paths_of, locale_names, test_variable, variable, variable_argument, args_of}
pub use Rattle.kt_child.specs.Polling.ChildOutcome.{initial_counts}
pub use Rattle.kt_child.specs.Polling.Polls.{poll_calls, reaches_timeout, progress_after_poll, counts_after_running}
pub use Rattle.kt_child.specs.Polling.Rounds.{PollsAll, PollsUntil, PollsInRounds, children_after_running}
pub use Rattle.kt_os.specs.System.Calls.{Call, Kill, ReadFile, RemoveTree}
pub use Rattle.kt_os.specs.declared.system.FileRead.{FileRead}
pub use Rattle.kt_os.specs.declared.system.OsFault.{OsFault}
pub use Rattle.kt_os.specs.declared.system.ChildState.TheVariants.{Running}
pub use Rattle.kt_os.specs.declared.system.ChildState.{ChildState}
