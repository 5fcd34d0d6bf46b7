-- The names that the clauses of this crate cite, re-exported. Declares nothing.
pub use Rattle.std.specs.List.{list_any}
pub use Rattle.kt_base.specs.Digits.{is_digit}
pub use Rattle.kt_base.specs.Lines.{is_newline}
pub use Rattle.kt_claim.specs.Bytes.{is_blank}
pub use Rattle.kt_claim.specs.ClaimReaderState.{HasRead}
pub use Rattle.kt_claim.specs.Inner.LineStates.{KeepsIfReason, IsStateAfter, IsStateMidLine, facts_after_opening, directive_after_letters, directive_facts, facts_of, facts_of_kind, facts_with, is_kind_known, is_reason_byte, is_reason, next_letter, facts_within_opening, plan_facts, facts_after_letter}
pub use Rattle.kt_claim.specs.Inner.TapReading.{HasLines, state_of}
pub use Rattle.kt_claim.specs.ResultFile.{IsClaimOf, limit}
pub use Rattle.kt_claim.specs.TapReaderState.{HasReadStream, KeepsOnlyReason}
pub use Rattle.kt_claim.specs.TapStream.{below_limit, directive_in, lines_of, plan_for, planned_from, reason_of, reason_of_skip, tap_of, tap_of_lines, without_trailing_blanks}
pub use Rattle.kt_claim.specs.declared.evidence.Claim.{Claim}
pub use Rattle.kt_claim.specs.declared.tally.Tally.{Tally}
