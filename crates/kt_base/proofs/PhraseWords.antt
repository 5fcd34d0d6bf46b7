-- The messages of phrases are ASCII: their bytes are their characters.
use Rattle.std.proofs.Common.{◌≡◌, refl}
use Rattle.kt_base.proofs.Common.{chars, Phrase, CaseNotWaitedFor, BodyTimedOut, CaseTimedOut, PrematureExit, ResultsUnreadable, ResultTooLong, ResultEmpty, ResultNoNewline, ResultSeveralLines, ResultUnknownWord, ResultBadNumber, ResultUnexpectedReason, ResultNoReason, PassedButNoSuccess, SkippedButNoSuccess, ExpectedFailureButNoSuccess, FailedButNoFailure, OtherExitCode, NoCleanExit, OtherSignal, NoSignal, NoTimeout, ReceivedSignal, NonSuccess, BailedOut, TapUnreadable, TapTooLong, TapNoPlan, TapSecondPlan, TapPlanDiffers, TestsFailed, Dubious, CleanupTimedOut, CleanupFailed, CleanupNotStarted, NoDirectory, NoOutput, NotSpawned, NoMemoryToStart, ListTimedOut, ListNotWaitedFor, NoList, ListUnreadable, ListTooLong, ListBadHeader, ListBadLine, ListNoIdent, ListRepeatedKey, ListRepeatedIdent, ListUnknownKey, ListBadValue, ListEmpty, ListNotUtf8, RootNeeded, UnprivilegedNeeded, MemoryNeeded, DiskNeeded, phrase_text}

pub chars-phrase : (phrase : Phrase) → chars (phrase_text phrase) ≡ phrase_text phrase
unfolding chars
chars-phrase CaseNotWaitedFor = refl
chars-phrase BodyTimedOut = refl
chars-phrase CaseTimedOut = refl
chars-phrase PrematureExit = refl
chars-phrase ResultsUnreadable = refl
chars-phrase ResultTooLong = refl
chars-phrase ResultEmpty = refl
chars-phrase ResultNoNewline = refl
chars-phrase ResultSeveralLines = refl
chars-phrase ResultUnknownWord = refl
chars-phrase ResultBadNumber = refl
chars-phrase ResultUnexpectedReason = refl
chars-phrase ResultNoReason = refl
chars-phrase PassedButNoSuccess = refl
chars-phrase SkippedButNoSuccess = refl
chars-phrase ExpectedFailureButNoSuccess = refl
chars-phrase FailedButNoFailure = refl
chars-phrase OtherExitCode = refl
chars-phrase NoCleanExit = refl
chars-phrase OtherSignal = refl
chars-phrase NoSignal = refl
chars-phrase NoTimeout = refl
chars-phrase ReceivedSignal = refl
chars-phrase NonSuccess = refl
chars-phrase BailedOut = refl
chars-phrase TapUnreadable = refl
chars-phrase TapTooLong = refl
chars-phrase TapNoPlan = refl
chars-phrase TapSecondPlan = refl
chars-phrase TapPlanDiffers = refl
chars-phrase TestsFailed = refl
chars-phrase Dubious = refl
chars-phrase CleanupTimedOut = refl
chars-phrase CleanupFailed = refl
chars-phrase CleanupNotStarted = refl
chars-phrase NoDirectory = refl
chars-phrase NoOutput = refl
chars-phrase NotSpawned = refl
chars-phrase NoMemoryToStart = refl
chars-phrase ListTimedOut = refl
chars-phrase ListNotWaitedFor = refl
chars-phrase NoList = refl
chars-phrase ListUnreadable = refl
chars-phrase ListTooLong = refl
chars-phrase ListBadHeader = refl
chars-phrase ListBadLine = refl
chars-phrase ListNoIdent = refl
chars-phrase ListRepeatedKey = refl
chars-phrase ListRepeatedIdent = refl
chars-phrase ListUnknownKey = refl
chars-phrase ListBadValue = refl
chars-phrase ListEmpty = refl
chars-phrase ListNotUtf8 = refl
chars-phrase RootNeeded = refl
chars-phrase UnprivilegedNeeded = refl
chars-phrase MemoryNeeded = refl
chars-phrase DiskNeeded = refl
