-- The types that the definitions of this crate name, re-exported. Declares nothing.
pub use Rattle.kt_base.specs.Verdicts.{VerdictValue}
pub use Rattle.kt_base.specs.declared.child.Role.{Role}
pub use Rattle.kt_base.specs.declared.child.Role.TheVariants.{Body, Cleanup}
pub use Rattle.kt_base.specs.declared.entry.Entry.{Entry}
pub use Rattle.kt_base.specs.declared.entry.Output.{Output}
pub use Rattle.kt_sched.specs.declared.job.Ended.{Ended}
pub use Rattle.kt_sched.specs.declared.job.Job.{Job}
pub use Rattle.kt_sched.specs.declared.job.StartAnswer.{StartAnswer}
pub use Rattle.kt_sched.specs.declared.job.StartAnswer.TheVariants.{Refused, Started}
pub use Rattle.kt_sched.specs.declared.next.Answer.{Answer}
pub use Rattle.kt_sched.specs.declared.next.Next.{Next}
pub use Rattle.kt_sched.specs.declared.run_fault.RunFault.{RunFault}
pub use Rattle.kt_sched.specs.declared.run_fault.RunFault.TheVariants.{NoMemory, SinkFailed}
pub use Rattle.kt_sched.specs.declared.sink.SinkFault.{SinkFault}
pub use Rattle.kt_sched.specs.declared.stage.Case.{Case}
pub use Rattle.kt_sched.specs.declared.stage.CaseRecord.{CaseRecord}
pub use Rattle.kt_sched.specs.declared.stage.EndedBody.{EndedBody}
pub use Rattle.kt_sched.specs.declared.stage.Stage.{Stage}
pub use Rattle.kt_sched.specs.declared.stage.Stage.TheVariants.{Cleaning, Decided, Finished, PendingCleanup, Running, Taken, Waiting}
pub use Rattle.kt_sched.specs.declared.totals.Totals.{Totals}
