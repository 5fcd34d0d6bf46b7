-- Exports the definitions that the clauses of this crate cite. Declares nothing.
pub use Rattle.std.specs.List.{list_any, prefix_len}
pub use Rattle.kt_base.specs.Lines.{lines}
pub use Rattle.kt_base.specs.declared.child.Interface.{Interface}
pub use Rattle.kt_base.specs.declared.child.Interface.TheVariants.{Atf}
pub use Rattle.kt_base.specs.declared.variable.Variable.{Variable}
pub use Rattle.kt_atflist.specs.BlockLines.{line_ident, is_colon, is_case_name, line_key, value_after_colon, line_value}
pub use Rattle.kt_atflist.specs.Cases.{AreCases, list_case, main_case, overlaid_case}
pub use Rattle.kt_atflist.specs.Inner.Keys.{names_of}
pub use Rattle.kt_atflist.specs.Inner.Reading.{begin_block, first_line_step, change_result, cases_with_block, cases_at_end, later_line_step, property_line_step, case_name_in, initial_state, read_blocks, read_rest, read_lines, read_from_line_2, set_key, set_from_line, set_property, step_of}
pub use Rattle.kt_atflist.specs.Listings.{IsParsedList, IsListingResult, list_failure_reason, fault_phrase}
pub use Rattle.kt_atflist.specs.CaseList.{IsResult, IsOutOfMemory, IsResultOrOutOfMemory}
pub use Rattle.kt_atflist.specs.declared.listing.CaseDef.{CaseDef}
pub use Rattle.kt_atflist.specs.declared.list_fault.ListFault.{ListFault}
pub use Rattle.kt_atflist.specs.declared.listing.Listing.{Listing}
