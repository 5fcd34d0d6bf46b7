-- Exports the definitions that the clauses of this crate cite. Declares nothing.
pub use Rattle.std.specs.List.{list_any}
pub use Rattle.std.specs.Option.{option_copied}
pub use Rattle.std.specs.String.{string_bytes}
pub use Rattle.kt_base.specs.LastValues.{last_values, value_of}
pub use Rattle.kt_base.specs.Limits.{largest_width}
pub use Rattle.kt_base.specs.declared.variable.Variable.{Variable}
pub use Rattle.kt_script.specs.Spelling.{Spells}
pub use Rattle.kt_script.specs.declared.syntax.Stmt.{Stmt}
pub use Rattle.kt_config.specs.Forms.{has_zero_byte, is_invalid_name_byte, is_variable_name, is_zero}
pub use Rattle.kt_config.specs.Holding.{Adds, HasValuesSetBy}
pub use Rattle.kt_config.specs.Inner.{SetsSuiteVariable, IsResultOfDefinitions, fault_of_script, suite_in}
pub use Rattle.kt_config.specs.Names.{definition_named}
pub use Rattle.kt_config.specs.Reading.{SucceedsWith, AddsDefinition, IfFault, HasFault, IsConfigFile, FailsWith, definitions_in, is_syntax_call, is_syntax_version, definition_in, definitions_of_file}
pub use Rattle.kt_config.specs.Values.{SuiteValues, HasUniqueNames, Values, variable_in, variables_in, variables_of}
pub use Rattle.kt_config.specs.declared.fault.ConfigFault.{ConfigFault}
pub use Rattle.kt_config.specs.declared.meaning.Definition.{Definition}
