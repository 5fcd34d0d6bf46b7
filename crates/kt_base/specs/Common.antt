-- Exports the definitions that the clauses of this crate cite. Declares nothing.
pub use Rattle.std.specs.Fmt.{decimal}
pub use Rattle.std.specs.Io.KnownBytes.{Appends}
pub use Rattle.std.specs.IoError.{error_kind}
pub use Rattle.std.specs.List.{list_any, prefix_len}
pub use Rattle.std.specs.Str.{IsUtf8, chars}
pub use Rattle.kt_base.specs.Characters.{is_absolute, is_slash}
pub use Rattle.kt_base.specs.Digits.{decimal_from, is_digit, number_up_to}
pub use Rattle.kt_base.specs.Inner.Pairs.{shared_or_own}
pub use Rattle.kt_base.specs.Inner.ReasonParts.{number_text, parts_text}
pub use Rattle.kt_base.specs.Kinds.{good, kind_keyword}
pub use Rattle.kt_base.specs.LastValues.{Replaces, last_values, value_of}
pub use Rattle.kt_base.specs.Lines.{is_newline}
pub use Rattle.kt_base.specs.Lossy.{lossy}
pub use Rattle.kt_base.specs.Phrases.{phrase_text}
pub use Rattle.kt_base.specs.Reasons.{core_dump_text, counted_text, outcome_text, reason_text, refused_reason}
pub use Rattle.kt_base.specs.Emits.{Emits, joined}
pub use Rattle.kt_base.specs.Texts.{after, before, is_empty}
pub use Rattle.kt_base.specs.Utf8.{utf8}
pub use Rattle.kt_base.specs.Verdicts.{broken, expected_failure, failed, passed, skipped}
pub use Rattle.kt_base.specs.Words.{byte_keyword_row, value_of_keyword, keyword_row}
pub use Rattle.kt_base.specs.declared.variable.Variable.{Variable}
pub use Rattle.kt_base.specs.declared.verdict.Kind.TheVariants.{Passed}
