-- The names that most proofs of this crate cite, re-exported. Declares nothing.
pub use Rattle.std.proofs.lemmas.Bool.{and_parts}
pub use Rattle.std.proofs.lemmas.Bool.Decides.{nat_tests}
pub use Rattle.std.specs.Process.{SameDir, SameEnv, SameProgramAndArgs, clears_env, command_args, command_program, command_var}
pub use Rattle.std.specs.Str.{bytes_eq}
unfoldable pub use Rattle.std.specs.Str.{chars}
pub use Rattle.kt_base.specs.Utf8.{utf8}
pub use Rattle.kt_os.specs.Types.{Body, Child, Cleanup, Role}
pub use Rattle.kt_os.specs.Host.ProcessStates.{AllProceed, AllStay, OthersStay, Proceeds, ProcessState, is_same_child, is_same_role, process_state_in, process_state}
pub use Rattle.kt_os.specs.Inner.Host.{setting_after_removals, setting_after_sets}
pub use Rattle.kt_os.specs.Machines.{HasProgram, HostResponse, SearchesDirectories, directories, further, here, nowhere}
pub use Rattle.kt_os.specs.declared.host.host_child.HostChild.{HostChild}
