-- The types that the definitions of this crate cite, re-exported. Declares nothing.
pub use Rattle.kt_base.specs.Chains.{Chain}
pub use Rattle.kt_base.specs.declared.child.Interface.{Interface}
pub use Rattle.kt_base.specs.declared.child.Interface.TheVariants.{Atf}
pub use Rattle.kt_base.specs.declared.child.Outcome.{Outcome}
pub use Rattle.kt_base.specs.declared.child.Role.{Role}
pub use Rattle.kt_base.specs.declared.child.Role.TheVariants.{Body, Cleanup}
pub use Rattle.kt_base.specs.declared.variable.Variable.{Variable}
pub use Rattle.kt_atflist.specs.declared.listing.ListBytes.{ListBytes}
pub use Rattle.kt_atflist.specs.declared.listing.Listing.{Listing}
pub use Rattle.kt_sched.specs.Trace.{Trace}
pub use Rattle.kt_sched.specs.declared.job.Ended.{Ended}
pub use Rattle.kt_sched.specs.declared.job.Job.{Job}
pub use Rattle.kt_sched.specs.declared.job.StartAnswer.{StartAnswer}
pub use Rattle.kt_sched.specs.declared.job.StartAnswer.TheVariants.{Refused, Started}
pub use Rattle.kt_child.specs.declared.planning.CaseAttempt.{CaseAttempt}
pub use Rattle.kt_child.specs.declared.planning.SpawnPlan.{SpawnPlan}
pub use Rattle.kt_child.specs.declared.planning.Want.{Want}
pub use Rattle.kt_child.specs.declared.planning.workdir.Paths.{Paths}
pub use Rattle.kt_child.specs.declared.polling.PollCounts.{PollCounts}
pub use Rattle.kt_child.specs.declared.polling.RunningChild.{RunningChild}
pub use Rattle.kt_os.specs.declared.system.Child.{Child}
pub use Rattle.kt_os.specs.declared.system.EnvPlan.{EnvPlan}
pub use Rattle.kt_os.specs.declared.system.FileRead.{FileRead}
pub use Rattle.kt_os.specs.declared.system.FileRead.TheVariants.{Missing, Part}
pub use Rattle.kt_os.specs.declared.system.OsFault.{OsFault}
pub use Rattle.kt_os.specs.declared.system.ChildState.{ChildState}
pub use Rattle.kt_os.specs.declared.system.ChildState.TheVariants.{Exited, Running, Signaled}
