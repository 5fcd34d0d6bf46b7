-- Exports the names that most proofs of this crate cite. Declares nothing.
pub use Rattle.std.proofs.lemmas.Bool.{false_from_ne_true, false≢true}
pub use Rattle.std.proofs.lemmas.List.{append-nil, nil_from_length}
pub use Rattle.std.proofs.lemmas.Str.{IsUtf8-from_is_utf8, IsUtf8-string_bytes, is_utf8-from_IsUtf8}
pub use Rattle.std.specs.List.{find, list_any, prefix_len}
pub use Rattle.std.specs.Str.{IsUtf8, is_utf8}
unfoldable pub use Rattle.std.specs.Str.{chars}
pub use Rattle.kt_base.specs.Lines.{is_newline, lines, with_prepended_byte}
pub use Rattle.kt_base.specs.Texts.{is_empty}
pub use Rattle.kt_base.specs.declared.child.Interface.{Interface}
pub use Rattle.kt_base.specs.declared.no_memory.NoMemory.{NoMemory}
pub use Rattle.kt_base.specs.declared.phrase.Phrase.{Phrase}
pub use Rattle.kt_base.specs.declared.verdict.Reason.{Reason}
pub use Rattle.kt_base.specs.declared.verdict.Reason.TheVariants.{Counted, Fixed}
pub use Rattle.kt_base.specs.declared.variable.Variable.{Variable}
pub use Rattle.kt_atflist.specs.BlockLines.{line_ident, is_case_name, line_key, line_value}
pub use Rattle.kt_atflist.specs.Blocks.{has_property, is_valid_property, is_listed, empty_case, with_property}
pub use Rattle.kt_atflist.specs.Cases.{AreCases, list_case, listed, main_case, overlaid_case, plain, tap, unlisted}
pub use Rattle.kt_atflist.specs.Inner.Keys.{characters, name_of, names_of}
pub use Rattle.kt_atflist.specs.Inner.Reading.{first_line_step, cases_with_block, later_line_step, property_line_step, result_after_step, case_name_in, initial_state, read_blocks, read_rest, read_lines, read_list, read_from_line_2, set_property, step_from}
pub use Rattle.kt_atflist.specs.Listings.{IsParsedList, IsListingResult, list_failure_reason, fault_phrase, no_list, read, too_long, unreadable, unstarted}
pub use Rattle.kt_atflist.specs.ReaderState.{ReaderState}
pub use Rattle.kt_atflist.specs.CaseList.{IsFaultyLine, HasFirstFault, IsNextState, IsResult, IsFault, IsList, IsOutOfMemory, IsResultOrOutOfMemory, ParseResult, IsBlockSequence, begins, ends, fault_at, first, first_line_causes, is_first_line_cause, is_later_line_cause, further, later_line_causes, gives, header, here, in_blocks, last_block, later, line, list, no_block, no_first, no_second, no_third, other_first, other_second}
pub use Rattle.kt_atflist.specs.declared.listing.CaseDef.{CaseDef}
pub use Rattle.kt_atflist.specs.declared.list_fault.ListCause.TheVariants.{BadHeader, BadLine, BadValue, NoIdent, NotUtf8, RepeatedIdent, RepeatedKey, UnknownKey}
pub use Rattle.kt_atflist.specs.declared.list_fault.ListFault.{ListFault}
pub use Rattle.kt_atflist.specs.declared.listing.Listing.{Listing}
pub use Rattle.kt_atflist.specs.declared.reading.ListStep.{ListStep}
pub use Rattle.kt_atflist.specs.declared.reading.ListStep.TheVariants.{NextState, FaultyLine}
