-- The names that most proofs of this crate cite, re-exported. Declares nothing.
pub use Rattle.std.proofs.Math.ListN.{set}
pub use Rattle.std.proofs.lemmas.Bool.{and_from}
pub use Rattle.std.proofs.lemmas.Bool.Decides.{nat_tests}
pub use Rattle.std.proofs.lemmas.List.{drop_all, drop_at, length-take-le, map_more, take_all, take_at, take_more}
pub use Rattle.std.proofs.lemmas.List.Elements.{All-append, All-cons, All-drop, All-get_or, All-head, All-map, All-nil, All-push, All-set, All-tail, All-take, All-weaker}
pub use Rattle.std.proofs.lemmas.Option.{slice_get-get_or}
pub use Rattle.std.specs.List.{All}
unfoldable pub use Rattle.std.specs.Str.{chars}
pub use Rattle.kt_child.specs.Types.{Body, CaseAttempt, Chain, Child, Cleanup, Ended, FileRead, Job, OsFault, Outcome, Paths, ChildState, Role, SpawnPlan, StartAnswer, PollCounts, RunningChild}
pub use Rattle.kt_base.specs.declared.failed_start.Refused.{Refused}
pub use Rattle.kt_sched.specs.Children.{IsEvidence, pending_after_end, running_after_end, is_same_role, has_declared_cleanup}
pub use Rattle.kt_sched.specs.Trace.{End, Leads, NoEvent, Start, Then, Trace}
pub use Rattle.kt_child.specs.Driving.Starting.{StartCall, StartsByPlan, SpawnsInRole, Started, MakesCalls, refusal_cause, spawn_calls, open_call, spawn_call, new_running_child, work_dir_call}
pub use Rattle.kt_child.specs.Driving.DriverState.{PolledChild, DriverState, Ends, AddsResponse, FinishesByPolls, Starts, WaitsForEnd, children_after_start, polled_children, driver_state, driver_state_of}
pub use Rattle.kt_child.specs.Driving.ChildrenState.{ChildrenState, cases_of, is_among, pending_with, launcher_child, find_launcher_child, launcher_child_in}
pub use Rattle.kt_child.specs.Driving.JobPlan.{case_of, job_purpose, child_timeout_seconds, spawn_plan_for, job_spawn_plan, want_of}
pub use Rattle.kt_child.specs.Driving.DriverSteps.{DriverStarts, DriverWaits}
pub use Rattle.kt_child.specs.Driving.Numbers.{AttemptsDiffer, HasUniqueNumbers, ListOf, Request, Serves, ServesAll, Wait, is_attempt, numbers, AttemptNumbersAreUnique}
pub use Rattle.kt_child.specs.Driving.Roots.{FailsToCreateRoots, root_of}
pub use Rattle.kt_child.specs.Driving.Runs.{Runs, RunsFrom}
pub use Rattle.kt_child.specs.Ending.Ends.{FinishesChild, Removes, stderr_path, is_last_child, stdout_path}
pub use Rattle.kt_child.specs.Ending.Parts.{IsReadEnd, Reads, next_part_call}
pub use Rattle.kt_child.specs.Ending.Reads.{bytes_of}
pub use Rattle.kt_child.specs.Inner.Children.{IsChildrenState, IsRunningChild, HasPollsLeft, AreRunningCounts, TakesBytes, count_at, count_in, one_if, state_after_start, occurrences, with_pending}
pub use Rattle.kt_child.specs.Planning.ChildPlan.{child_of, paths_of, test_variable, variable_argument}
pub use Rattle.kt_child.specs.Polling.ChildOutcome.{ChildResponse, KillResponse, PollResponse, Yields, YieldsAfterKill, responses_so_far, running}
pub use Rattle.kt_child.specs.Polling.Polls.{poll_calls, poll_responses, is_followed_by_kill, progress_after_poll, counts_after_running}
pub use Rattle.kt_child.specs.Polling.Rounds.{PollsAll, EndsAtPoll, PollsUntil, PollsInRounds, child_after_running, children_after_running, last_round, whole_round}
pub use Rattle.kt_os.specs.System.Calls.{Call, Kill, MakeDir, Now, Pause, Poll, ReadFile, RemoveTree, SetLimit}
pub use Rattle.kt_child.specs.declared.driving.driver.Driver.{Driver}
pub use Rattle.kt_child.specs.declared.ending.PartsResult.{PartsResult}
pub use Rattle.kt_child.specs.declared.ending.PartsResult.TheVariants.{Complete}
pub use Rattle.kt_child.specs.declared.polling.ChildProgress.{ChildProgress}
pub use Rattle.kt_child.specs.declared.polling.ChildProgress.TheVariants.{StillRunning}
