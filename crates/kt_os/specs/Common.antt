-- The names that the clauses of this crate cite, re-exported. Declares nothing.
pub use Rattle.std.specs.IoError.{error_kind}
pub use Rattle.std.specs.Process.{SameDir, SameEnv, SameOtherVars, SameProgramAndArgs, clears_env, command_args, command_program, command_var, status_bits}
pub use Rattle.kt_base.specs.Utf8.{utf8}
pub use Rattle.kt_os.specs.Host.HostAnswers.{HostLeads, IsReadOf, IsHostRead, IsNotMissing, DecodesWaitStatus, ConsumesAtMost, limit_after}
pub use Rattle.kt_os.specs.Host.ProcessStates.{AllProceed, AllStay, IsLastEnd, OthersStay, Proceeds, process_state_in, process_state}
pub use Rattle.kt_os.specs.Host.Lateness.{IsLateAt, UpdatesLateCheck, IsLateCheck}
pub use Rattle.kt_os.specs.Inner.Host.{SeeksTo, IsCommandOf, IsFaultOf, IsInFirstHalf, IsOpenFailure, MayBeRunning, setting_after_removals, setting_after_sets, queue_path}
pub use Rattle.kt_os.specs.Inner.HostFiles.{may_execute}
pub use Rattle.kt_os.specs.Machines.{longest_path, read_limit}
pub use Rattle.kt_os.specs.System.Calls.{Call, Kill, MakeDir, Now, OpenOutput, Pause, Poll, ReadFile, ReadPart, RemoveTree, SetLimit, Spawn}
pub use Rattle.kt_os.specs.System.Moments.{moment_of}
pub use Rattle.kt_os.specs.System.Reads.{IsReadWithin}
pub use Rattle.kt_os.specs.declared.system.OsFault.{OsFault}
