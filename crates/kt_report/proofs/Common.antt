-- The names that most proofs of this crate cite, re-exported. Declares nothing.
pub use Rattle.std.proofs.lemmas.Bool.{and_parts, cases_lt, eqb-true, false≢true, ne_eqb}
pub use Rattle.std.proofs.lemmas.Bool.Decides.{nat_tests}
pub use Rattle.std.proofs.lemmas.Grind.{flat_map-append}
pub use Rattle.std.proofs.lemmas.List.{drop_more, flat_map_more, get_or-append-add, get_or-take, length-map, length-take, nil_from_length, take_all, take_more}
pub use Rattle.std.proofs.lemmas.Str.{IsUtf8-drop, IsUtf8-take, chars-append, chars-nil, chars_past_char, encode_ascii, encodes-chars, len_utf8_bounds, length-encode, length-le-encodes}
pub use Rattle.std.specs.Fmt.{decimal}
pub use Rattle.std.specs.List.{list_any, prefix_len}
pub use Rattle.std.specs.Str.{IsCharBoundary, IsUtf8}
unfoldable pub use Rattle.std.specs.Str.{chars}
pub use Rattle.jiff_core.specs.Span.{IsOnly}
pub use Rattle.jiff_core.specs.declared.civil.date.Date.{Date}
pub use Rattle.jiff_core.specs.declared.unit.Unit.TheVariants.{Day}
pub use Rattle.kt_base.proofs.Showing.{shows_as, shows_both, shows_error, shows_more, shows_none, shows_nothing}
pub use Rattle.kt_base.specs.Emits.{Emits}
pub use Rattle.kt_base.specs.Utf8.{utf8}
pub use Rattle.kt_base.specs.declared.entry.Entry.{Entry}
pub use Rattle.kt_base.specs.declared.verdict.Kind.{Kind}
pub use Rattle.kt_base.specs.declared.verdict.Kind.TheVariants.{Broken, ExpectedFailure, Failed, Passed, Skipped}
pub use Rattle.kt_report.specs.Digits.{seconds_bytes}
pub use Rattle.kt_report.specs.Escapes.{escaped, escaped_text}
pub use Rattle.kt_report.specs.Junits.{case_bytes, case_element, junit_end, junit_start, junit_layout, output_element, result_element}
pub use Rattle.kt_report.specs.Layouts.{Layout, bytes_up_to}
pub use Rattle.kt_report.specs.Lines.{line_bytes, printable_reason}
pub use Rattle.kt_report.specs.Pairs.{entry_bytes, property_bytes, printable_byte}
pub use Rattle.kt_report.specs.Texts.{entries_by_section, sections_layout, text_layout, chosen_entries, time_of_day_bytes, kind_count_bytes, totals_bytes, entries_of, has_kind, last_kind, moment_bytes, title_line_after, section_order, is_same_kind, section, sections, printable_moment, summary_title_bytes, summary, text_bytes, section_title, title_line, titled_section, titled_lines, unfinished_bytes}
