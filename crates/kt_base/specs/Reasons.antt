-- The texts of reasons.
use Rattle.std.specs.Prelude.{ℕ, Bool, true, false, List, [], ◌++◌, codes}
use Rattle.std.specs.Fmt.{decimal}
use Rattle.kt_base.specs.declared.child.Outcome.{Outcome}
use Rattle.kt_base.specs.declared.child.Outcome.TheVariants.{Exited, Signaled}
use Rattle.kt_base.specs.declared.phrase.Phrase.{Phrase}
use Rattle.kt_base.specs.declared.phrase.Phrase.TheVariants.{OtherExitCode, OtherSignal, TestsFailed, MemoryNeeded, DiskNeeded, NoDirectory, NoOutput, NotSpawned, NoMemoryToStart}
use Rattle.kt_base.specs.declared.verdict.Reason.{Reason}
use Rattle.kt_base.specs.declared.verdict.Reason.TheVariants.{Nothing, Fixed, Ended, Counted, Owned}
use Rattle.kt_base.specs.declared.failed_start.Refused.{Refused}
use Rattle.kt_base.specs.declared.failed_start.Refused.TheVariants.{Directory, Output, Spawn, Memory}
use Rattle.kt_base.specs.Phrases.{phrase_text}

-- `core_dump_text core`: the text that follows the number of a signal: ` (core dumped)` if `core`
-- is true, otherwise an empty text.
abbrev pub core_dump_text : Bool → List ℕ
core_dump_text false = []
core_dump_text true = codes " (core dumped)"

-- `outcome_text outcome`: the text of the exit status or signal in `outcome`, the outcome of a
-- process. It is empty for a timeout and for a failed wait.
abbrev pub outcome_text : Outcome → List ℕ
outcome_text (Exited code) = codes "exited with code " ++ decimal code
outcome_text (Signaled signal core) = codes "received signal " ++ decimal signal ++ core_dump_text core
outcome_text _ = []

-- `counted_text phrase m n`: the message of `phrase` with `m` as its first number and `n` as its
-- second. If the phrase has only one number, it is `m` at the end of the text, and `n` is not used.
abbrev pub counted_text : Phrase → ℕ → ℕ → List ℕ
counted_text OtherExitCode due got = codes "Expected exit code " ++ decimal due ++ codes " but got " ++ decimal got
counted_text OtherSignal due got = codes "Expected signal " ++ decimal due ++ codes " but got " ++ decimal got
counted_text TestsFailed some all = decimal some ++ codes " of " ++ decimal all ++ codes " tests failed"
counted_text MemoryNeeded due there = codes "Requires " ++ decimal due ++ codes " bytes of physical memory but only " ++ decimal there ++ codes " available"
counted_text DiskNeeded due there = codes "Requires " ++ decimal due ++ codes " bytes of free disk space but only " ++ decimal there ++ codes " available"
counted_text phrase n _ = phrase_text phrase ++ decimal n

-- `reason_text reason`: the text that `reason` represents. It is empty for `Nothing`.
abbrev pub reason_text : Reason → List ℕ
reason_text Nothing = []
reason_text (Fixed phrase) = phrase_text phrase
reason_text (Ended phrase ending) = phrase_text phrase ++ outcome_text ending
reason_text (Counted phrase m n) = counted_text phrase m n
reason_text (Owned text) = text

-- `refused_reason cause`: the reason of the `broken` verdict on a case after a failed start with
-- this `cause`. The failed start is that of the case's body, or of the program that lists its
-- cases.
abbrev pub refused_reason : Refused → Reason
refused_reason Directory = Fixed NoDirectory
refused_reason Output = Fixed NoOutput
refused_reason Spawn = Fixed NotSpawned
refused_reason Memory = Fixed NoMemoryToStart
