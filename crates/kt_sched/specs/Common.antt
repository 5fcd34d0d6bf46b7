-- The names that the clauses of this crate cite, re-exported. Declares nothing.
pub use Rattle.kt_base.specs.declared.child.Role.{Role}
pub use Rattle.kt_sched.specs.Children.{IsIdle, is_same_role}
pub use Rattle.kt_sched.specs.EntryOf.{IsEntryOf, empty_output}
pub use Rattle.kt_sched.specs.Responses.{Responses, responses_after, no_responses}
pub use Rattle.kt_sched.specs.Inner.Answers.{CanCount, responses_after_put, counted}
pub use Rattle.kt_sched.specs.Inner.Cases.{ChangesStage, TakesEntry, can_start, initial_case, is_over, pending_at, positions_where, ready_at, stage_runs}
pub use Rattle.kt_sched.specs.Inner.Choice.{IsChosen, IsStartableCase}
pub use Rattle.kt_sched.specs.Next.{HasStepFacts, IsNext}
pub use Rattle.kt_sched.specs.Plan.{IsPlan, IsWidth}
pub use Rattle.kt_sched.specs.Run.{RunsPlan}
pub use Rattle.kt_sched.specs.SchedState.{IsNotTaken, HasRecord, HoldsForEachRun, IsAnswer, IsSettled, SchedState, RepresentsRun, RecordsEvent, ReducesChangesLeft, unstarted_record, is_active_stage, positions, changes_left}
pub use Rattle.kt_sched.specs.Trace.{End, Start}
pub use Rattle.kt_sched.specs.TurnOrder.{turns}
pub use Rattle.kt_sched.specs.declared.stage.Case.{Case}
pub use Rattle.kt_sched.specs.declared.job.Job.{Job}
pub use Rattle.kt_sched.specs.declared.next.Next.{Next}
pub use Rattle.kt_sched.specs.declared.stage.Stage.TheVariants.{Taken}
