-- The names that most proofs of this crate cite, re-exported. Declares nothing.
pub use Rattle.std.proofs.lemmas.Bool.{eqb-true, false≢true, le-ltb, lt-ltb, ltb-false, ltb-true, ne_eqb}
pub use Rattle.std.proofs.lemmas.List.{append-nil, length-append, nil_from_length, take-append-drop}
pub use Rattle.std.proofs.lemmas.Slice.Eq.{bytes_eq-Decides}
pub use Rattle.std.specs.List.{cons_option, ends_with, filter, filter_map, find, list_all, list_any, prefix_len}
pub use Rattle.std.specs.Option.{option_or}
pub use Rattle.std.specs.Str.{bytes_eq}
unfoldable pub use Rattle.std.specs.Str.{chars}
pub use Rattle.kt_base.specs.Digits.{decimal_from, is_digit, number_up_to}
pub use Rattle.kt_base.specs.Lines.{is_newline, lines, with_prepended_byte}
pub use Rattle.kt_base.specs.Lossy.{lossy}
pub use Rattle.kt_claim.specs.Bytes.{is_blank, is_keyword_byte, newline, decimal_value}
pub use Rattle.kt_claim.specs.ClaimReaderState.{ClaimReaderState, KeepsBytes}
pub use Rattle.kt_claim.specs.Inner.LineStates.{Facts, KeepsIfReason, IsStateAfter, LineState, IsStateMidLine, facts_after_opening, bail_out_facts, facts_of, facts_of_kind, facts_with, with_held_cr, is_kind_known, is_reason, no_facts, facts_within_opening, plan_facts, test_facts}
pub use Rattle.kt_claim.specs.Inner.ResultReading.{claim_after_bracket, claim_of_keyword, claim_after, claim_with_reason, number_before_bracket, may_have_number, claim_with_number, claim_without_bracket, reason_in, byte_value, claim_from_number, claim_from_reason}
unfoldable pub use Rattle.kt_claim.specs.Inner.ResultReading.{claim_of, claim_of_line, number_in, keyword_of}
pub use Rattle.kt_claim.specs.Inner.TapReading.{HasLines, IsTally, first_item, has_second, one_if, state_of, with_plan}
pub use Rattle.kt_claim.specs.ResultFile.{IsClaimOf, IsNumber, IsReason, SpellsClaim, after_digits, after_number, after_leading_keyword, has_closing_bracket, digits, fault_of, line_has_fault, has_bracket, has_number, has_reason, is_keyword, limit, line, number_suffix, reason_suffix}
pub use Rattle.kt_claim.specs.TapStream.{begins, below_limit, count, directive_in, is_plan_end, leading_bytes, lines_before_bail_out, is_bail_out, is_test, is_unexcused, lines_of, without_leading, plan, plan_for, planned_from, skip_reason, reason_of_skip, tap_of_lines, without_trailing_blanks, plan_reason, without_cr}
pub use Rattle.kt_claim.specs.declared.open_line.LineProgress.{LineProgress}
pub use Rattle.kt_claim.specs.declared.open_line.LineProgress.TheVariants.{Digits, Nothing}
pub use Rattle.kt_claim.specs.declared.open_line.LineKind.{LineKind}
pub use Rattle.kt_claim.specs.declared.evidence.Claim.{Claim}
pub use Rattle.kt_claim.specs.declared.evidence.ClaimFault.{ClaimFault}
pub use Rattle.kt_claim.specs.declared.evidence.ClaimFault.TheVariants.{BadNumber, Empty, NoNewline, NoReason, SeveralLines, TooLong, UnexpectedReason, UnknownWord}
pub use Rattle.kt_claim.specs.declared.result_line.Keyword.{Keyword}
pub use Rattle.kt_claim.specs.declared.tally.Tally.{Tally}
