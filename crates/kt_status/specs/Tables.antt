-- The verdict tables: a relation for each table, with a constructor for each row. The first row
-- that fits decides.
use Rattle.std.specs.Prelude.{◌≡◌, ℕ, ◌<◌, ◌≤◌, Bool, false, List, ◌++◌, codes, Option, Some, None}
use Rattle.std.specs.Fmt.{decimal}
use Rattle.kt_base.specs.declared.child.Outcome.{Outcome}
use Rattle.kt_base.specs.declared.child.Outcome.TheVariants.{Exited, Signaled, TimedOut, WaitFailed}
use Rattle.kt_base.specs.declared.failed_start.Refused.{Refused}
use Rattle.kt_base.specs.declared.failed_start.Refused.TheVariants as refused
use Rattle.kt_base.specs.Reasons.{outcome_text}
use Rattle.kt_base.specs.Kinds.{good}
use Rattle.kt_base.specs.Verdicts as verdict
use Rattle.kt_base.specs.Verdicts.{VerdictValue}
use Rattle.kt_claim.specs.declared.evidence.Claim.{Claim}
use Rattle.kt_claim.specs.declared.evidence.Claim.TheVariants.{Missing, Unreadable, Malformed, Passed, Failed, Skipped, ExpectedFailure, ExpectedDeath, ExpectedTimeout, ExpectedExit, ExpectedSignal}
use Rattle.kt_claim.specs.declared.evidence.ClaimFault.{ClaimFault}
use Rattle.kt_claim.specs.declared.evidence.ClaimFault.TheVariants as result
use Rattle.kt_claim.specs.declared.evidence.Tap.{Tap}
use Rattle.kt_claim.specs.declared.evidence.Tap.TheVariants.{Invalid, BailedOut, SkipAll, Counted}
use Rattle.kt_claim.specs.declared.evidence.TapFault.{TapFault}
use Rattle.kt_claim.specs.declared.evidence.TapFault.TheVariants as stream
use Rattle.kt_claim.specs.declared.evidence.Evidence.{Evidence}
use Rattle.kt_claim.specs.declared.evidence.Evidence.TheVariants as evidence
use Rattle.kt_status.specs.declared.cleanup_end.CleanupEnd.{CleanupEnd}
use Rattle.kt_status.specs.declared.cleanup_end.CleanupEnd.TheVariants as cleanup

-- `claim_fault_text fault`: the end of a reason's text, which names the error `fault` of a result
-- file.
abbrev pub claim_fault_text : ClaimFault → List ℕ
claim_fault_text result.TooLong = codes "too long"
claim_fault_text result.Empty = codes "empty"
claim_fault_text result.NoNewline = codes "no final newline"
claim_fault_text result.SeveralLines = codes "several lines"
claim_fault_text result.UnknownWord = codes "unknown word"
claim_fault_text result.BadNumber = codes "bad number"
claim_fault_text result.UnexpectedReason = codes "unexpected reason"
claim_fault_text result.NoReason = codes "no reason"

-- `tap_fault_text fault`: the end of a reason's text, which names the error `fault` of TAP output.
abbrev pub tap_fault_text : TapFault → List ℕ
tap_fault_text stream.Unreadable = codes "output could not be read"
tap_fault_text stream.TooLong = codes "output too long"
tap_fault_text stream.NoPlan = codes "no plan"
tap_fault_text stream.SecondPlan = codes "second plan"
tap_fault_text stream.PlanDiffers = codes "plan differs from tests"

-- `IsExitOrSignal outcome`: a process with this `outcome` exited or received a signal.
pub data IsExitOrSignal : Outcome → Type 0 where
  exited : (code : ℕ) → IsExitOrSignal (Exited code)
  signaled : (signal : ℕ) (core : Bool) → IsExitOrSignal (Signaled signal core)

-- `AtfRow number claim outcome verdict`: the row `number` of the ATF table fits a case with this
-- `claim` and with this `outcome` of its body. The row gives `verdict`.
pub data AtfRow : ℕ → Claim → Outcome → VerdictValue → Type 0 where
  not_waited_for : (c : Claim) → AtfRow 1 c WaitFailed (verdict.broken (codes "Test case could not be waited for"))
  timed_out_as_expected : (r : List ℕ) → AtfRow 2 (ExpectedTimeout r) TimedOut (verdict.expected_failure r)
  body_timed_out : (c : Claim) → AtfRow 3 c TimedOut (verdict.broken (codes "Test case body timed out"))
  missing_file : (e : Outcome) → IsExitOrSignal e → AtfRow 4 Missing e (verdict.broken (codes "Premature exit; test case " ++ outcome_text e))
  unreadable_file : (e : Outcome) → IsExitOrSignal e → AtfRow 5 Unreadable e (verdict.broken (codes "Results file could not be read"))
  malformed_file : (f : ClaimFault) (e : Outcome) → IsExitOrSignal e → AtfRow 6 (Malformed f) e (verdict.broken (codes "Invalid result file: " ++ claim_fault_text f))
  passed : AtfRow 7 Passed (Exited 0) verdict.passed
  skipped : (r : List ℕ) → AtfRow 7 (Skipped r) (Exited 0) (verdict.skipped r)
  failed_as_expected : (r : List ℕ) → AtfRow 7 (ExpectedFailure r) (Exited 0) (verdict.expected_failure r)
  not_passed : (e : Outcome) → IsExitOrSignal e → AtfRow 8 Passed e (verdict.broken (codes "Passed test case should have reported success but " ++ outcome_text e))
  not_skipped : (r : List ℕ) (e : Outcome) → IsExitOrSignal e → AtfRow 9 (Skipped r) e (verdict.broken (codes "Skipped test case should have reported success but " ++ outcome_text e))
  not_expected_failure : (r : List ℕ) (e : Outcome) → IsExitOrSignal e → AtfRow 10 (ExpectedFailure r) e (verdict.broken (codes "Expected failure should have reported success but " ++ outcome_text e))
  failed : (r : List ℕ) → AtfRow 11 (Failed r) (Exited 1) (verdict.failed r)
  not_failed : (r : List ℕ) (e : Outcome) → IsExitOrSignal e → AtfRow 12 (Failed r) e (verdict.broken (codes "Failed test case should have reported failure but " ++ outcome_text e))
  ended_as_expected : (r : List ℕ) (e : Outcome) → IsExitOrSignal e → AtfRow 13 (ExpectedDeath r) e (verdict.expected_failure r)
  exited_as_expected : (r : List ℕ) (code : ℕ) → AtfRow 14 (ExpectedExit None r) (Exited code) (verdict.expected_failure r)
  exited_with_expected_status : (due : ℕ) (r : List ℕ) → AtfRow 14 (ExpectedExit (Some due) r) (Exited due) (verdict.expected_failure r)
  exited_with_other_status : (due : ℕ) (r : List ℕ) (code : ℕ)
      → AtfRow 15 (ExpectedExit (Some due) r) (Exited code) (verdict.failed (codes "Expected exit code " ++ decimal due ++ codes " but got " ++ decimal code))
  not_exited : (due : Option ℕ) (r : List ℕ) (signal : ℕ) (core : Bool)
      → AtfRow 16 (ExpectedExit due r) (Signaled signal core) (verdict.broken (codes "Expected clean exit but " ++ outcome_text (Signaled signal core)))
  signaled_as_expected : (r : List ℕ) (signal : ℕ) (core : Bool) → AtfRow 17 (ExpectedSignal None r) (Signaled signal core) (verdict.expected_failure r)
  killed_by_expected_signal : (due : ℕ) (r : List ℕ) (core : Bool) → AtfRow 17 (ExpectedSignal (Some due) r) (Signaled due core) (verdict.expected_failure r)
  killed_by_other_signal : (due : ℕ) (r : List ℕ) (signal : ℕ) (core : Bool)
      → AtfRow 18 (ExpectedSignal (Some due) r) (Signaled signal core) (verdict.failed (codes "Expected signal " ++ decimal due ++ codes " but got " ++ decimal signal))
  not_signaled : (due : Option ℕ) (r : List ℕ) (code : ℕ) → AtfRow 19 (ExpectedSignal due r) (Exited code) (verdict.broken (codes "Expected signal but " ++ outcome_text (Exited code)))
  not_timed_out : (r : List ℕ) (e : Outcome) → IsExitOrSignal e → AtfRow 20 (ExpectedTimeout r) e (verdict.broken (codes "Expected timeout but " ++ outcome_text e))

-- `PlainRow number outcome verdict`: the row `number` of the table of plain programs fits a program
-- with this `outcome`. The row gives `verdict`.
pub data PlainRow : ℕ → Outcome → VerdictValue → Type 0 where
  plain_not_waited_for : PlainRow 1 WaitFailed (verdict.broken (codes "Test case could not be waited for"))
  plain_timed_out : PlainRow 2 TimedOut (verdict.broken (codes "Test case timed out"))
  plain_signaled : (signal : ℕ) (core : Bool) → PlainRow 3 (Signaled signal core) (verdict.broken (codes "Received signal " ++ decimal signal))
  plain_passed : PlainRow 4 (Exited 0) verdict.passed
  plain_failed : (code : ℕ) → PlainRow 5 (Exited code) (verdict.failed (codes "Returned non-success exit status " ++ decimal code))

-- `TapRow number tap outcome verdict`: the row `number` of the TAP table fits a program with this
-- `outcome` and with `tap` as the summary of its TAP output. The row gives `verdict`.
pub data TapRow : ℕ → Tap → Outcome → VerdictValue → Type 0 where
  tap_not_waited_for : (t : Tap) → TapRow 1 t WaitFailed (verdict.broken (codes "Test case could not be waited for"))
  tap_timed_out : (t : Tap) → TapRow 2 t TimedOut (verdict.broken (codes "Test case timed out"))
  tap_signaled : (t : Tap) (signal : ℕ) (core : Bool) → TapRow 3 t (Signaled signal core) (verdict.broken (codes "Received signal " ++ decimal signal))
  tap_bailed_out : (code : ℕ) → TapRow 4 BailedOut (Exited code) (verdict.failed (codes "Bailed out"))
  tap_invalid : (f : TapFault) (code : ℕ) → TapRow 5 (Invalid f) (Exited code) (verdict.broken (codes "TAP test program yielded invalid data: " ++ tap_fault_text f))
  tap_skipped : (r : List ℕ) (code : ℕ) → TapRow 6 (SkipAll r) (Exited code) (verdict.skipped r)
  tap_failed : (some all code : ℕ) → 0 < some → TapRow 7 (Counted some all) (Exited code) (verdict.failed (decimal some ++ codes " of " ++ decimal all ++ codes " tests failed"))
  tap_passed : (some all : ℕ) → TapRow 8 (Counted some all) (Exited 0) verdict.passed
  tap_dubious : (some all code : ℕ)
      → TapRow 9 (Counted some all) (Exited code) (verdict.broken (codes "Dubious test program: reported all tests as passed but returned exit code " ++ decimal code))

-- `RefusalRow number refused verdict`: the row `number` of the table of failed starts fits a start
-- that failed with the error `refused`. The row gives `verdict`.
pub data RefusalRow : ℕ → Refused → VerdictValue → Type 0 where
  no_directory : RefusalRow 1 refused.Directory (verdict.broken (codes "Work directory could not be made"))
  no_output : RefusalRow 2 refused.Output (verdict.broken (codes "Output files could not be made"))
  not_spawned : RefusalRow 3 refused.Spawn (verdict.broken (codes "Test program could not be started"))
  no_memory : RefusalRow 4 refused.Memory (verdict.broken (codes "Test case could not be started for want of memory"))

-- `CleanupRow number body end verdict`: the row `number` of the table of cleanups fits if the body
-- has the verdict `body` and the cleanup has the result `end`. It gives `verdict`, the verdict on
-- the case.
pub data CleanupRow : ℕ → VerdictValue → CleanupEnd → VerdictValue → Type 0 where
  body_is_bad : (body : VerdictValue) (end : CleanupEnd) → good body.kind ≡ false → CleanupRow 1 body end body
  cleaned_up : (body : VerdictValue) → CleanupRow 2 body (cleanup.Ended (Exited 0)) body
  cleanup_timed_out : (body : VerdictValue) → CleanupRow 3 body (cleanup.Ended TimedOut) (verdict.broken (codes "Test case cleanup timed out"))
  cleanup_failed : (body : VerdictValue) (outcome : Outcome) → CleanupRow 4 body (cleanup.Ended outcome) (verdict.broken (codes "Test case cleanup did not terminate successfully"))
  cleanup_not_started : (body : VerdictValue) → CleanupRow 5 body cleanup.Refused (verdict.broken (codes "Test case cleanup could not be started"))

-- `IsFirstRow Row verdict`: the first row of the table `Row` that fits gives `verdict`.
-- `Row number other` holds if the row `number` fits and gives the verdict `other`.
pub record IsFirstRow (Row : ℕ → VerdictValue → Type 0) (verdict : VerdictValue) : Type 0 where
  pub number : ℕ
  pub fits : Row number verdict
  pub first : (m : ℕ) (other : VerdictValue) → Row m other → number ≤ m

-- `IsVerdict evidence outcome verdict`: `verdict` is the verdict on a body with this `evidence` and
-- `outcome`, by the table for ATF, TAP or plain programs.
abbrev pub IsVerdict : Evidence → Outcome → VerdictValue → Type 0
IsVerdict (evidence.Atf claim) outcome verdict = IsFirstRow (λ n v. AtfRow n claim outcome v) verdict
IsVerdict (evidence.Tap tap) outcome verdict = IsFirstRow (λ n v. TapRow n tap outcome v) verdict
IsVerdict evidence.Plain outcome verdict = IsFirstRow (λ n v. PlainRow n outcome v) verdict

-- `IsVerdictOfRefusal refused verdict`: `verdict` is the verdict on a case whose start failed with
-- the error `refused`.
abbrev pub IsVerdictOfRefusal : Refused → VerdictValue → Type 0
IsVerdictOfRefusal refused verdict = IsFirstRow (λ n v. RefusalRow n refused v) verdict

-- `IsVerdictAfterCleanup body end verdict`: `verdict` is the verdict on a case if the body has the
-- verdict `body` and the cleanup has the result `end`.
abbrev pub IsVerdictAfterCleanup : VerdictValue → CleanupEnd → VerdictValue → Type 0
IsVerdictAfterCleanup body end verdict = IsFirstRow (λ n v. CleanupRow n body end v) verdict
