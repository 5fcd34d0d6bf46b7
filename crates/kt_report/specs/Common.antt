-- The names that the clauses of this crate cite, re-exported. Declares nothing.
pub use Rattle.std.specs.List.{list_any, prefix_len}
pub use Rattle.std.specs.Str.{chars}
pub use Rattle.jiff_core.specs.Date.{epoch_day}
pub use Rattle.jiff_core.specs.declared.civil.date.Date.{Date}
pub use Rattle.kt_base.specs.Lossy.{lossy}
pub use Rattle.kt_base.specs.Emits.{Emits}
pub use Rattle.kt_base.specs.Utf8.{utf8}
pub use Rattle.kt_base.specs.declared.entry.Entry.{Entry}
pub use Rattle.kt_base.specs.declared.entry.Output.{Output}
pub use Rattle.kt_base.specs.declared.verdict.Kind.{Kind}
pub use Rattle.kt_base.specs.declared.entry.Run.{Run}
pub use Rattle.kt_report.specs.Cases.{case_texts, with_outputs}
pub use Rattle.kt_report.specs.Details.{WritesWithDetails, reads_if_verbose}
pub use Rattle.kt_report.specs.Digits.{last_digit, four_digits, seconds_bytes, three_digits, two_digits}
pub use Rattle.kt_report.specs.Escapes.{escaped, escaped_text}
pub use Rattle.kt_report.specs.Inner.Steps.{WritesEntries, WritesEntry}
pub use Rattle.kt_report.specs.Junits.{case_bytes, case_element, junit_end, junit_start, junit_bytes, junit_layout, output_element, result_element}
pub use Rattle.kt_report.specs.Lines.{line_bytes, printable_reason}
pub use Rattle.kt_report.specs.HiddenParts.{ChangesHiddenParts, with_entries}
pub use Rattle.kt_report.specs.Pairs.{entry_bytes, property_bytes, printable_byte, with_properties}
pub use Rattle.kt_report.specs.Texts.{IsDateOf, chosen_entries, entries_by_section, time_of_day_bytes, kind_count_bytes, totals_bytes, date_bytes, entries_of, moment_bytes, title_line_after, section_order, is_same_kind, printable_moment, summary_title_bytes, summary, text_bytes, text_layout, section_title, unfinished_bytes}
