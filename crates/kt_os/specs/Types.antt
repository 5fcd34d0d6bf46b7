-- The types that the definitions of this crate cite, re-exported. Declares nothing.
pub use Rattle.std.specs.declared.io.Error.{Error}
pub use Rattle.kt_base.specs.Characters.{is_absolute}
pub use Rattle.kt_base.specs.Utf8.{utf8}
pub use Rattle.kt_base.specs.declared.child.Role.{Role}
pub use Rattle.kt_base.specs.declared.child.Role.TheVariants.{Body, Cleanup}
pub use Rattle.kt_base.specs.declared.variable.Variable.{Variable}
pub use Rattle.kt_os.specs.declared.machine.file_fault.FileFault.{FileFault}
pub use Rattle.kt_os.specs.declared.machine.process_env.ProcessEnv.{ProcessEnv}
pub use Rattle.kt_os.specs.declared.system.Child.{Child}
pub use Rattle.kt_os.specs.declared.system.EnvPlan.{EnvPlan}
pub use Rattle.kt_os.specs.declared.system.FileRead.{FileRead}
pub use Rattle.kt_os.specs.declared.system.FileRead.TheVariants.{Missing, Part}
pub use Rattle.kt_os.specs.declared.system.OsFault.{OsFault}
pub use Rattle.kt_os.specs.declared.system.ChildState.{ChildState}
pub use Rattle.kt_os.specs.declared.system.ChildState.TheVariants.{Exited, Running, Signaled}
