-- Exports the names that most proofs of this crate cite. Declares nothing.
pub use Rattle.std.proofs.lemmas.Bool.{and_from, and_parts, eq-eqb, eqb-true}
pub use Rattle.std.proofs.lemmas.Bool.Decides.{nat_tests}
pub use Rattle.std.proofs.lemmas.Iterator.Splits.{YieldsList-from_slice_split}
pub use Rattle.std.proofs.lemmas.List.{drop_more, take_at, take_rest}
pub use Rattle.std.proofs.lemmas.List.Elements.{Contains-append_left, Contains-append_right, Contains-push, filter-append}
pub use Rattle.std.specs.Fmt.{decimal}
pub use Rattle.std.specs.List.{Contains, filter, join_with_byte, list_any, slice_split}
pub use Rattle.std.specs.Option.{option_map_or, option_or}
pub use Rattle.std.specs.Str.{IsUtf8}
unfoldable pub use Rattle.std.specs.Str.{chars}
pub use Rattle.kt_base.proofs.Showing.{shows_as, shows_both, shows_error, shows_more}
pub use Rattle.kt_base.specs.Chains.{Chain}
pub use Rattle.kt_base.specs.Characters.{is_slash}
pub use Rattle.kt_base.specs.Utf8.{utf8}
pub use Rattle.kt_suite.specs.Types.{Filter, IncludeLoop, Item, Meaning, MissingProgram, NoSyntax, Program, ProgramTable, ReadFault, Script, ScriptFault, Stmt, SuiteCause, SuiteFault, TooDeep, TooMany, Variable}
pub use Rattle.kt_script.specs.LiteralText.{text_of}
pub use Rattle.kt_script.specs.Spelling.{HasFault, Spells}
pub use Rattle.kt_script.specs.declared.syntax.Pair.{Pair}
unfoldable pub use lib.Utf8.{encode}
pub use mathlib.Core.List.{append-nil, append_assoc}
pub use Rattle.kt_suite.specs.Answers.{LeadsByCalls, Asked, Exists, HasStableResults, Read, IsSameCall}
pub use Rattle.kt_suite.specs.Calls.{key_named}
pub use Rattle.kt_suite.specs.Disjoint.{ShareCase, covers, overlaps, overlap_fault, parts_cover}
pub use Rattle.kt_suite.specs.FaultMessages.{cause_message, fixed_message}
pub use Rattle.kt_suite.specs.Faults.{IsNoMemory, fault_at, read_fault, script_line}
pub use Rattle.kt_suite.specs.Filters.{is_kept_component, normalized_path}
pub use Rattle.kt_suite.specs.Inner.Steps.{IsParseFault, all_positions, first_match, is_match, is_miss, props_with, table_with, with_component, with_props}
pub use Rattle.kt_suite.specs.Inner.Walks.{RegistersProgram, AddsMarks, EntersInclude, CountsInclude, HasFileMarks, HasMeaningMarks, OpensFile, StepsTo, LoadsMarks, ChecksOpening, badly, declines, empty, enters, exceeds, fails, goes, lacks, opens, refuses, scant, short, stops, through, unclear, well}
pub use Rattle.kt_suite.specs.Marks.{CallMark, Fault, File, HasFileParts, Includes, ProgramMark, Mark, Part, OneMark, Site, HaveStatementParts, HasTreeMarks, Unfolds, end, entered, include_cause, lookup_mark, no_script, no_statement, none, one, opened, refused, statement_parts, says, site_fault, suite_after, unopened, fault_of_read}
pub use Rattle.kt_suite.specs.Matching.{IsWithin, is_within, matches, parts_match}
pub use Rattle.kt_suite.specs.Meanings.{meaning_of, opening_cause}
pub use Rattle.kt_suite.specs.Paths.{sibling_of, directory_of, is_component}
pub use Rattle.kt_suite.specs.Registered.{Decides, IsAtMostNextCall, DecidesNothing, LoadResult, Registered, Unfinished, all, faults_in, file_limit, file_too_many, files_in, is_fault, no_question, program_limit, program_too_many, programs_in, calls_in, stopped, thrown_away}
pub use Rattle.kt_suite.specs.Selecting.{unmatched_positions, is_unmatched, is_selected, matches_item, passing_positions, selected_positions}
pub use Rattle.kt_suite.specs.Tables.{declared, definition, definitions, first_invalid_pair_cause, is_property, key_cause, pair_cause, table_of, cause_or_value, value_cause}
pub use Rattle.kt_suite.specs.declared.registry.Registry.{Registry}
pub use Rattle.kt_suite.specs.declared.registry.LoadStep.{LoadStep}
pub use Rattle.kt_suite.specs.declared.registry.LoadStep.TheVariants.{Enter, Next}
pub use Rattle.kt_suite.specs.declared.tree.ReadFault.TheVariants.{Missing}
