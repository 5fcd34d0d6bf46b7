-- The verdict tables as functions. Each line of a definition is a row, and the first row that fits
-- decides.
use Rattle.std.specs.Prelude.{ℕ, Bool, false, List, ◌++◌, codes, if◌then◌else◌, nat_eq, nat_lt, Option, Some, None}
use Rattle.std.specs.Fmt.{decimal}
use Rattle.kt_base.specs.declared.child.Outcome.{Outcome}
use Rattle.kt_base.specs.declared.child.Outcome.TheVariants.{Exited, Signaled, TimedOut, WaitFailed}
use Rattle.kt_base.specs.declared.failed_start.Refused.{Refused}
use Rattle.kt_base.specs.Reasons.{outcome_text, reason_text, refused_reason}
use Rattle.kt_base.specs.Kinds.{good}
use Rattle.kt_base.specs.Verdicts.{VerdictValue, passed, skipped, expected_failure, failed, broken}
use Rattle.kt_claim.specs.declared.evidence.Claim.{Claim}
use Rattle.kt_claim.specs.declared.evidence.Claim.TheVariants.{Missing, Unreadable, Malformed, Passed, Failed, Skipped, ExpectedFailure, ExpectedDeath, ExpectedTimeout, ExpectedExit, ExpectedSignal}
use Rattle.kt_claim.specs.declared.evidence.Tap.{Tap}
use Rattle.kt_claim.specs.declared.evidence.Tap.TheVariants.{Invalid, BailedOut, SkipAll, Counted}
use Rattle.kt_claim.specs.declared.evidence.Evidence.{Evidence}
use Rattle.kt_claim.specs.declared.evidence.Evidence.TheVariants as evidence
use Rattle.kt_status.specs.Tables.{claim_fault_text, tap_fault_text}
use Rattle.kt_status.specs.declared.cleanup_end.CleanupEnd.{CleanupEnd}
use Rattle.kt_status.specs.declared.cleanup_end.CleanupEnd.TheVariants as cleanup

-- `exits_with n outcome`: a process with the outcome `outcome` exited with the status `n`.
abbrev pub exits_with : ℕ → Outcome → Bool
exits_with n (Exited code) = nat_eq code n
exits_with n _ = false

-- `exit_claim_verdict due reason outcome`: the verdict on an ATF case whose result file claims an
-- expected exit for `reason`, and whose body has the outcome `outcome`. The claimed status is
-- `due`, or any status if `due` is `None`.
abbrev pub exit_claim_verdict : Option ℕ → List ℕ → Outcome → VerdictValue
exit_claim_verdict None reason (Exited _) = expected_failure reason
exit_claim_verdict (Some due) reason (Exited code) =
    if nat_eq due code then expected_failure reason else failed (codes "Expected exit code " ++ decimal due ++ codes " but got " ++ decimal code)
exit_claim_verdict _ _ outcome = broken (codes "Expected clean exit but " ++ outcome_text outcome)

-- `signal_claim_verdict due reason outcome`: the verdict on an ATF case whose result file claims an
-- expected signal for `reason`, and whose body has the outcome `outcome`. The claimed signal is
-- `due`, or any signal if `due` is `None`.
abbrev pub signal_claim_verdict : Option ℕ → List ℕ → Outcome → VerdictValue
signal_claim_verdict None reason (Signaled _ _) = expected_failure reason
signal_claim_verdict (Some due) reason (Signaled signal _) =
    if nat_eq due signal then expected_failure reason else failed (codes "Expected signal " ++ decimal due ++ codes " but got " ++ decimal signal)
signal_claim_verdict _ _ outcome = broken (codes "Expected signal but " ++ outcome_text outcome)

-- `atf_exit_verdict claim outcome`: the verdict on an ATF case if its claim is `claim`, and its
-- body exited or received a signal. `outcome` is the outcome of the body.
abbrev pub atf_exit_verdict : Claim → Outcome → VerdictValue
atf_exit_verdict Missing outcome = broken (codes "Premature exit; test case " ++ outcome_text outcome)
atf_exit_verdict Unreadable outcome = broken (codes "Results file could not be read")
atf_exit_verdict (Malformed fault) outcome = broken (codes "Invalid result file: " ++ claim_fault_text fault)
atf_exit_verdict Passed outcome = if exits_with 0 outcome then passed else broken (codes "Passed test case should have reported success but " ++ outcome_text outcome)
atf_exit_verdict (Skipped reason) outcome = if exits_with 0 outcome then skipped reason else broken (codes "Skipped test case should have reported success but " ++ outcome_text outcome)
atf_exit_verdict (ExpectedFailure reason) outcome =
    if exits_with 0 outcome then expected_failure reason else broken (codes "Expected failure should have reported success but " ++ outcome_text outcome)
atf_exit_verdict (Failed reason) outcome = if exits_with 1 outcome then failed reason else broken (codes "Failed test case should have reported failure but " ++ outcome_text outcome)
atf_exit_verdict (ExpectedDeath reason) outcome = expected_failure reason
atf_exit_verdict (ExpectedExit due reason) outcome = exit_claim_verdict due reason outcome
atf_exit_verdict (ExpectedSignal due reason) outcome = signal_claim_verdict due reason outcome
atf_exit_verdict (ExpectedTimeout reason) outcome = broken (codes "Expected timeout but " ++ outcome_text outcome)

-- `atf_timeout_verdict claim`: the verdict on an ATF case if its claim is `claim`, and its body
-- timed out.
abbrev pub atf_timeout_verdict : Claim → VerdictValue
atf_timeout_verdict (ExpectedTimeout reason) = expected_failure reason
atf_timeout_verdict _ = broken (codes "Test case body timed out")

-- `atf_verdict claim outcome`: the verdict on an ATF case if its claim is `claim`, and its body has
-- the outcome `outcome`.
abbrev pub atf_verdict : Claim → Outcome → VerdictValue
atf_verdict claim WaitFailed = broken (codes "Test case could not be waited for")
atf_verdict claim TimedOut = atf_timeout_verdict claim
atf_verdict claim outcome = atf_exit_verdict claim outcome

-- `plain_verdict outcome`: the verdict on the case of a plain program with the outcome `outcome`.
abbrev pub plain_verdict : Outcome → VerdictValue
plain_verdict WaitFailed = broken (codes "Test case could not be waited for")
plain_verdict TimedOut = broken (codes "Test case timed out")
plain_verdict (Signaled signal _) = broken (codes "Received signal " ++ decimal signal)
plain_verdict (Exited code) = if nat_eq code 0 then passed else failed (codes "Returned non-success exit status " ++ decimal code)

-- `tap_exit_verdict tap code`: the verdict on the case of a TAP program that exited with the status
-- `code`. `tap` is the summary of its TAP output.
abbrev pub tap_exit_verdict : Tap → ℕ → VerdictValue
tap_exit_verdict BailedOut code = failed (codes "Bailed out")
tap_exit_verdict (Invalid fault) code = broken (codes "TAP test program yielded invalid data: " ++ tap_fault_text fault)
tap_exit_verdict (SkipAll reason) code = skipped reason
tap_exit_verdict (Counted some all) code =
    if nat_lt 0 some then failed (decimal some ++ codes " of " ++ decimal all ++ codes " tests failed")
    else if nat_eq code 0 then passed
    else broken (codes "Dubious test program: reported all tests as passed but returned exit code " ++ decimal code)

-- `tap_verdict tap outcome`: the verdict on the case of a TAP program with the outcome `outcome`.
-- `tap` is the summary of its TAP output.
abbrev pub tap_verdict : Tap → Outcome → VerdictValue
tap_verdict tap WaitFailed = broken (codes "Test case could not be waited for")
tap_verdict tap TimedOut = broken (codes "Test case timed out")
tap_verdict tap (Signaled signal _) = broken (codes "Received signal " ++ decimal signal)
tap_verdict tap (Exited code) = tap_exit_verdict tap code

-- `verdict_of evidence outcome`: the verdict on a body with this `evidence` and the outcome
-- `outcome`, by the table for ATF, TAP or plain programs.
abbrev pub verdict_of : Evidence → Outcome → VerdictValue
verdict_of (evidence.Atf claim) outcome = atf_verdict claim outcome
verdict_of (evidence.Tap tap) outcome = tap_verdict tap outcome
verdict_of evidence.Plain outcome = plain_verdict outcome

-- `verdict_of_refusal r`: the verdict on a case if the start of its body, or of the program that
-- lists its cases, failed with the error `r`.
abbrev pub verdict_of_refusal : Refused → VerdictValue
verdict_of_refusal r = broken (reason_text (refused_reason r))

-- `verdict_after_good_body body end`: the verdict on a case after a cleanup with the result `end`,
-- if `body`, the verdict on the case's body, counts as a success.
abbrev pub verdict_after_good_body : VerdictValue → CleanupEnd → VerdictValue
verdict_after_good_body body (cleanup.Ended (Exited code)) = if nat_eq code 0 then body else broken (codes "Test case cleanup did not terminate successfully")
verdict_after_good_body body (cleanup.Ended TimedOut) = broken (codes "Test case cleanup timed out")
verdict_after_good_body body (cleanup.Ended _) = broken (codes "Test case cleanup did not terminate successfully")
verdict_after_good_body body cleanup.Refused = broken (codes "Test case cleanup could not be started")

-- `verdict_after_cleanup body end`: the verdict on a case whose body has the verdict `body`, after
-- a cleanup with the result `end`. A verdict on the body that does not count as a success is kept.
abbrev pub verdict_after_cleanup : VerdictValue → CleanupEnd → VerdictValue
verdict_after_cleanup body end = if good body.kind then verdict_after_good_body body end else body
