-- Exports the names that most proofs of this crate cite. Declares nothing.
pub use Rattle.std.specs.Str.{IsUtf8, bytes_eq}
unfoldable pub use Rattle.std.specs.Str.{chars}
pub use Rattle.std.specs.String.{string_bytes, string_eq}
pub use Rattle.indexmap.specs.IndexMap.{insert_entry}
pub use Rattle.kt_base.proofs.Names.{last_values-pairs_without, or-none, or-some, same, same-flip, same-refl, value_of-append}
pub use Rattle.kt_base.specs.LastValues.{is_named, last_values, value_of, pairs_without}
pub use Rattle.kt_base.specs.declared.variable.Variable.{Variable}
pub use Rattle.kt_script.specs.Spelling.{Spells}
pub use Rattle.kt_script.specs.declared.fault.ScriptFault.{ScriptFault}
pub use Rattle.kt_script.specs.declared.syntax.Stmt.{Stmt}
pub use Rattle.kt_config.specs.Holding.{Adds, HasValuesSetBy, architecture_in, variables_set_for, non_empty_list, last_value_by, parallelism_in, platform_in, variable_for}
pub use Rattle.kt_config.specs.Inner.{SetsSuiteVariable, IsResultOfDefinitions, fault_of_script, suite_in}
pub use Rattle.kt_config.specs.Reading.{SucceedsWith, AddsDefinition, IfFault, HasFault, IsConfigFile, DefinitionsOrFault, FailsWith, definitions_in, definition_in, definitions_of_file, with_prepended_definition, combined_definitions}
pub use Rattle.kt_config.specs.Values.{SuiteValues, Values, variable_in, variables_of}
pub use Rattle.kt_config.specs.declared.meaning.Definition.{Definition}
