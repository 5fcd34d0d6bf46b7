-- Exports the names that most proofs of this crate cite. Declares nothing.
pub use Rattle.std.proofs.lemmas.Bool.{and_parts, eq-eqb, eqb-true, false_from_ne_true, le-leb, leb-true}
pub use Rattle.std.proofs.lemmas.Bool.Decides.{Decides-like, nat_tests, same_from_decides}
pub use Rattle.std.proofs.lemmas.Fmt.{IsAscii-decimal}
pub use Rattle.std.proofs.lemmas.List.{append-nil, length-drop, length-take-le, take_rest}
pub use Rattle.std.proofs.lemmas.Result.{err_from_is_err_and}
pub use Rattle.std.proofs.lemmas.Slice.Eq.{bytes_eq-Decides}
pub use Rattle.std.proofs.lemmas.Str.{IsCharBoundary-from_drop, IsUtf8-append, IsUtf8-drop, IsUtf8-encode, IsUtf8-from_is_utf8, IsUtf8-string_bytes, IsUtf8-take, chars-IsAscii, chars-append, chars-encodes, chars-nil, chars_from_encodes, chars_past_char, encode_same, encodes-IsAscii, encodes-append, encodes-chars, is_utf8-from_IsUtf8, len_utf8_bounds, length-encode}
pub use Rattle.std.specs.Char.{IsScalar, len_utf8}
pub use Rattle.std.specs.Fmt.{decimal}
pub use Rattle.std.specs.Io.KnownBytes.{Appends, Keeps}
pub use Rattle.std.specs.Option.{option_or}
pub use Rattle.std.specs.Str.{IsUtf8, IsValidUpTo, NonePass, bytes_eq, is_utf8}
unfoldable pub use Rattle.std.specs.Str.{chars}
pub use Rattle.std.specs.String.{string_bytes}
pub use Rattle.kt_base.specs.Digits.{decimal_from, number_up_to}
pub use Rattle.kt_base.specs.Inner.ReasonParts.{number_text}
pub use Rattle.kt_base.specs.LastValues.{Replaces, is_named, last_values, value_of, pairs_without}
pub use Rattle.kt_base.specs.Lossy.{decoded_character, utf8_prefix, continuation_length, lossy}
unfoldable pub use Rattle.kt_base.specs.Lossy.{leading_character, lossy_from}
pub use Rattle.kt_base.specs.Phrases.{phrase_text}
pub use Rattle.kt_base.specs.Emits.{AppendsText, Emits, joined, joined_after}
pub use Rattle.kt_base.specs.Texts.{after, before, is_empty}
pub use Rattle.kt_base.specs.Utf8.{utf8}
pub use Rattle.kt_base.specs.declared.phrase.Phrase.{Phrase}
pub use Rattle.kt_base.specs.declared.phrase.Phrase.TheVariants.{BailedOut, BodyTimedOut, CaseNotWaitedFor, CaseTimedOut, CleanupFailed, CleanupNotStarted, CleanupTimedOut, DiskNeeded, Dubious, ExpectedFailureButNoSuccess, FailedButNoFailure, ListBadHeader, ListBadLine, ListBadValue, ListEmpty, ListNoIdent, ListNotUtf8, ListNotWaitedFor, ListRepeatedIdent, ListRepeatedKey, ListTimedOut, ListTooLong, ListUnknownKey, ListUnreadable, MemoryNeeded, NoCleanExit, NoDirectory, NoList, NoMemoryToStart, NoOutput, NoSignal, NoTimeout, NonSuccess, NotSpawned, OtherExitCode, OtherSignal, PassedButNoSuccess, PrematureExit, ReceivedSignal, ResultBadNumber, ResultEmpty, ResultNoNewline, ResultNoReason, ResultSeveralLines, ResultTooLong, ResultUnexpectedReason, ResultUnknownWord, ResultsUnreadable, RootNeeded, SkippedButNoSuccess, TapNoPlan, TapPlanDiffers, TapSecondPlan, TapTooLong, TapUnreadable, TestsFailed, UnprivilegedNeeded}
pub use Rattle.kt_base.specs.declared.variable.Variable.{Variable}
