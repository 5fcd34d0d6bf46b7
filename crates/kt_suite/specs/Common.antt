-- Exports the definitions that the clauses of this crate cite. Declares nothing.
pub use Rattle.std.specs.List.{list_any}
pub use Rattle.std.specs.Str.{bytes_eq}
pub use Rattle.kt_base.specs.Characters.{is_slash}
pub use Rattle.kt_base.specs.LastValues.{last_values}
pub use Rattle.kt_base.specs.declared.variable.Variable.{Variable}
pub use Rattle.kt_suite.specs.Answers.{LeadsByCalls, Asked, HasStableResults}
pub use Rattle.kt_suite.specs.Disjoint.{IsDisjoint, IsFirstFault, ShareCase, covers, is_same_filter, overlaps, overlap_fault}
pub use Rattle.kt_suite.specs.Faults.{IsNoMemory, fault_at, read_fault, script_line}
pub use Rattle.kt_suite.specs.Filters.{IsFilterResult, filter_meaning}
pub use Rattle.kt_suite.specs.Inner.Steps.{IsParseFault, props_with, table_with, with_props}
pub use Rattle.kt_suite.specs.Inner.Walks.{RegistersProgram, EntersInclude, CountsInclude, HasFileMarks, OpensFile, StepsTo, LoadsMarks, ChecksOpening}
pub use Rattle.kt_suite.specs.Marks.{include_cause, suite_after}
pub use Rattle.kt_suite.specs.Matching.{IsWithin, MayMatch, is_within, matches}
pub use Rattle.kt_suite.specs.Meanings.{meaning_of}
pub use Rattle.kt_suite.specs.Paths.{sibling_of, directory_of, has_directory, is_component, is_plain_relative, name_in, parent_of}
pub use Rattle.kt_suite.specs.Registered.{LoadResult, Registered, Unfinished, program_limit}
pub use Rattle.kt_suite.specs.Tables.{declared, definition, table_of}
pub use Rattle.kt_suite.specs.declared.cause.SuiteCause.TheVariants.{Script}
