-- Exports the types that the definitions of this crate name. Declares nothing.
pub use Rattle.kt_base.specs.declared.variable.Variable.{Variable}
pub use Rattle.kt_script.specs.declared.fault.ScriptFault.{ScriptFault}
pub use Rattle.kt_script.specs.declared.syntax.Stmt.{Stmt}
pub use Rattle.kt_suite.specs.declared.cause.SuiteCause.{SuiteCause}
pub use Rattle.kt_suite.specs.declared.cause.SuiteCause.TheVariants.{BadInclude, BadValue, IncludeLoop, MissingProgram, NoMemory, NoSuite, NoSyntax, PathHasDirectory, Script, TooDeep, TooMany, UnknownCall, UnknownProperty, Unreadable, WrongSyntax}
pub use Rattle.kt_suite.specs.declared.fault.SuiteFault.{SuiteFault}
pub use Rattle.kt_suite.specs.declared.filter.Filter.{Filter}
pub use Rattle.kt_suite.specs.declared.filter.FilterFault.{FilterFault}
pub use Rattle.kt_suite.specs.declared.program.Program.{Program}
pub use Rattle.kt_suite.specs.declared.table.ProgramTable.{ProgramTable}
pub use Rattle.kt_suite.specs.declared.selecting.Item.{Item}
pub use Rattle.kt_suite.specs.declared.meaning.Meaning.{Meaning}
pub use Rattle.kt_suite.specs.declared.tree.ReadFault.{ReadFault}
