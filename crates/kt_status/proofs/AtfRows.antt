-- The rows of the ATF table.
use Rattle.std.proofs.Common.{ℕ, Some, None, refl, sym, subst, arith, codes, nat_eq}
use Rattle.kt_status.proofs.Common.{Outcome, Exited, Signaled, TimedOut, WaitFailed, VerdictValue, AtfRow, atf_verdict}
use Rattle.kt_claim.specs.declared.evidence.Claim.{Claim}
use Rattle.kt_claim.specs.declared.evidence.Claim.TheVariants.{Missing, Unreadable, Malformed, Passed, Failed, Skipped, ExpectedFailure, ExpectedDeath, ExpectedTimeout, ExpectedExit, ExpectedSignal}
use Rattle.kt_base.specs.Verdicts as verdict
use Rattle.kt_status.specs.Tables as row
use Rattle.kt_status.proofs.RowOrder.{at_or_next, at_equal, IsLeastRow, passes, next, here}

-- `late_row c`: the number of the first row of the ATF table for the claim `c` after a timeout.
abbrev pub late_row : Claim → ℕ
late_row (ExpectedTimeout r) = 2
late_row _ = 3

-- `exit_row c code`: the number of the first row of the ATF table for the claim `c` after an exit
-- with status `code`.
abbrev pub exit_row : Claim → ℕ → ℕ
exit_row Missing code = 4
exit_row Unreadable code = 5
exit_row (Malformed f) code = 6
exit_row Passed code = at_or_next (nat_eq code 0) 7 8
exit_row (Skipped r) code = at_or_next (nat_eq code 0) 7 9
exit_row (ExpectedFailure r) code = at_or_next (nat_eq code 0) 7 10
exit_row (Failed r) code = at_or_next (nat_eq code 1) 11 12
exit_row (ExpectedDeath r) code = 13
exit_row (ExpectedExit None r) code = 14
exit_row (ExpectedExit (Some due) r) code = at_or_next (nat_eq due code) 14 15
exit_row (ExpectedSignal due r) code = 19
exit_row (ExpectedTimeout r) code = 20

-- `signal_row c signal`: the number of the first row of the ATF table for the claim `c` after the
-- signal `signal`.
abbrev pub signal_row : Claim → ℕ → ℕ
signal_row Missing signal = 4
signal_row Unreadable signal = 5
signal_row (Malformed f) signal = 6
signal_row Passed signal = 8
signal_row (Skipped r) signal = 9
signal_row (ExpectedFailure r) signal = 10
signal_row (Failed r) signal = 12
signal_row (ExpectedDeath r) signal = 13
signal_row (ExpectedExit due r) signal = 16
signal_row (ExpectedSignal None r) signal = 17
signal_row (ExpectedSignal (Some due) r) signal = at_or_next (nat_eq due signal) 17 18
signal_row (ExpectedTimeout r) signal = 20

-- `atf_row c e`: the number of the first row that fits the claim `c` and the outcome `e`.
abbrev pub atf_row : Claim → Outcome → ℕ
atf_row c (Exited code) = exit_row c code
atf_row c (Signaled signal core) = signal_row c signal
atf_row c TimedOut = late_row c
atf_row c WaitFailed = 1

-- ---- the ATF table

pub atf_fits : (c : Claim) (e : Outcome) → AtfRow (atf_row c e) c e (atf_verdict c e)
atf_fits c WaitFailed = row.not_waited_for c
atf_fits (ExpectedTimeout r) TimedOut = row.timed_out_as_expected r
atf_fits Missing TimedOut = row.body_timed_out Missing
atf_fits Unreadable TimedOut = row.body_timed_out Unreadable
atf_fits (Malformed f) TimedOut = row.body_timed_out (Malformed f)
atf_fits Passed TimedOut = row.body_timed_out Passed
atf_fits (Failed r) TimedOut = row.body_timed_out (Failed r)
atf_fits (Skipped r) TimedOut = row.body_timed_out (Skipped r)
atf_fits (ExpectedFailure r) TimedOut = row.body_timed_out (ExpectedFailure r)
atf_fits (ExpectedDeath r) TimedOut = row.body_timed_out (ExpectedDeath r)
atf_fits (ExpectedExit due r) TimedOut = row.body_timed_out (ExpectedExit due r)
atf_fits (ExpectedSignal due r) TimedOut = row.body_timed_out (ExpectedSignal due r)
atf_fits Missing (Exited code) = row.missing_file (Exited code) (row.exited code)
atf_fits Missing (Signaled s core) = row.missing_file (Signaled s core) (row.signaled s core)
atf_fits Unreadable (Exited code) = row.unreadable_file (Exited code) (row.exited code)
atf_fits Unreadable (Signaled s core) = row.unreadable_file (Signaled s core) (row.signaled s core)
atf_fits (Malformed f) (Exited code) = row.malformed_file f (Exited code) (row.exited code)
atf_fits (Malformed f) (Signaled s core) = row.malformed_file f (Signaled s core) (row.signaled s core)
atf_fits Passed (Exited code) = at_equal 7 8 code 0 _ _ (λ n v. AtfRow n Passed (Exited code) v)
    (λ is. subst (λ (x : ℕ). AtfRow 7 Passed (Exited x) verdict.passed) (sym is) row.passed) (row.not_passed (Exited code) (row.exited code))
atf_fits Passed (Signaled s core) = row.not_passed (Signaled s core) (row.signaled s core)
atf_fits (Skipped r) (Exited code) = at_equal 7 9 code 0 _ _ (λ n v. AtfRow n (Skipped r) (Exited code) v)
    (λ is. subst (λ (x : ℕ). AtfRow 7 (Skipped r) (Exited x) (verdict.skipped r)) (sym is) (row.skipped r)) (row.not_skipped r (Exited code) (row.exited code))
atf_fits (Skipped r) (Signaled s core) = row.not_skipped r (Signaled s core) (row.signaled s core)
atf_fits (ExpectedFailure r) (Exited code) = at_equal 7 10 code 0 _ _ (λ n v. AtfRow n (ExpectedFailure r) (Exited code) v)
    (λ is. subst (λ (x : ℕ). AtfRow 7 (ExpectedFailure r) (Exited x) (verdict.expected_failure r)) (sym is) (row.failed_as_expected r)) (row.not_expected_failure r (Exited code) (row.exited code))
atf_fits (ExpectedFailure r) (Signaled s core) = row.not_expected_failure r (Signaled s core) (row.signaled s core)
atf_fits (Failed r) (Exited code) = at_equal 11 12 code 1 _ _ (λ n v. AtfRow n (Failed r) (Exited code) v)
    (λ is. subst (λ (x : ℕ). AtfRow 11 (Failed r) (Exited x) (verdict.failed r)) (sym is) (row.failed r)) (row.not_failed r (Exited code) (row.exited code))
atf_fits (Failed r) (Signaled s core) = row.not_failed r (Signaled s core) (row.signaled s core)
atf_fits (ExpectedDeath r) (Exited code) = row.ended_as_expected r (Exited code) (row.exited code)
atf_fits (ExpectedDeath r) (Signaled s core) = row.ended_as_expected r (Signaled s core) (row.signaled s core)
atf_fits (ExpectedExit None r) (Exited code) = row.exited_as_expected r code
atf_fits (ExpectedExit None r) (Signaled s core) = row.not_exited None r s core
atf_fits (ExpectedExit (Some due) r) (Exited code) = at_equal 14 15 due code _ _ (λ n v. AtfRow n (ExpectedExit (Some due) r) (Exited code) v)
    (λ is. subst (λ (x : ℕ). AtfRow 14 (ExpectedExit (Some due) r) (Exited x) (verdict.expected_failure r)) is (row.exited_with_expected_status due r)) (row.exited_with_other_status due r code)
atf_fits (ExpectedExit (Some due) r) (Signaled s core) = row.not_exited (Some due) r s core
atf_fits (ExpectedSignal None r) (Exited code) = row.not_signaled None r code
atf_fits (ExpectedSignal None r) (Signaled s core) = row.signaled_as_expected r s core
atf_fits (ExpectedSignal (Some due) r) (Exited code) = row.not_signaled (Some due) r code
atf_fits (ExpectedSignal (Some due) r) (Signaled s core) = at_equal 17 18 due s _ _ (λ n v. AtfRow n (ExpectedSignal (Some due) r) (Signaled s core) v)
    (λ is. subst (λ (x : ℕ). AtfRow 17 (ExpectedSignal (Some due) r) (Signaled x core) (verdict.expected_failure r)) is (row.killed_by_expected_signal due r core)) (row.killed_by_other_signal due r s core)
atf_fits (ExpectedTimeout r) (Exited code) = row.not_timed_out r (Exited code) (row.exited code)
atf_fits (ExpectedTimeout r) (Signaled s core) = row.not_timed_out r (Signaled s core) (row.signaled s core)

pub timed_out : (c : Claim) → IsLeastRow (late_row c) (atf_verdict c TimedOut) 3 (verdict.broken (codes "Test case body timed out"))
timed_out (ExpectedTimeout r) = (omega arith, λ e. absurd (omega arith))
timed_out Missing = here _ _
timed_out Unreadable = here _ _
timed_out (Malformed f) = here _ _
timed_out Passed = here _ _
timed_out (Failed r) = here _ _
timed_out (Skipped r) = here _ _
timed_out (ExpectedFailure r) = here _ _
timed_out (ExpectedDeath r) = here _ _
timed_out (ExpectedExit due r) = here _ _
timed_out (ExpectedSignal due r) = here _ _

pub atf_least : (n : ℕ) (c : Claim) (e : Outcome) (v : VerdictValue) → AtfRow n c e v → IsLeastRow (atf_row c e) (atf_verdict c e) n v
atf_least _ _ _ _ (row.not_waited_for c) = here _ _
atf_least _ _ _ _ (row.timed_out_as_expected r) = here _ _
atf_least _ _ _ _ (row.body_timed_out c) = timed_out c
atf_least _ _ _ _ (row.missing_file _ (row.exited code)) = here _ _
atf_least _ _ _ _ (row.missing_file _ (row.signaled s core)) = here _ _
atf_least _ _ _ _ (row.unreadable_file _ (row.exited code)) = here _ _
atf_least _ _ _ _ (row.unreadable_file _ (row.signaled s core)) = here _ _
atf_least _ _ _ _ (row.malformed_file f _ (row.exited code)) = here _ _
atf_least _ _ _ _ (row.malformed_file f _ (row.signaled s core)) = here _ _
atf_least _ _ _ _ row.passed = here _ _
atf_least _ _ _ _ (row.skipped r) = here _ _
atf_least _ _ _ _ (row.failed_as_expected r) = here _ _
atf_least _ _ _ _ (row.not_passed _ (row.exited code)) = next 7 8 code 0 _ _ (omega arith)
atf_least _ _ _ _ (row.not_passed _ (row.signaled s core)) = here _ _
atf_least _ _ _ _ (row.not_skipped r _ (row.exited code)) = next 7 9 code 0 _ _ (omega arith)
atf_least _ _ _ _ (row.not_skipped r _ (row.signaled s core)) = here _ _
atf_least _ _ _ _ (row.not_expected_failure r _ (row.exited code)) = next 7 10 code 0 _ _ (omega arith)
atf_least _ _ _ _ (row.not_expected_failure r _ (row.signaled s core)) = here _ _
atf_least _ _ _ _ (row.failed r) = here _ _
atf_least _ _ _ _ (row.not_failed r _ (row.exited code)) = next 11 12 code 1 _ _ (omega arith)
atf_least _ _ _ _ (row.not_failed r _ (row.signaled s core)) = here _ _
atf_least _ _ _ _ (row.ended_as_expected r _ (row.exited code)) = here _ _
atf_least _ _ _ _ (row.ended_as_expected r _ (row.signaled s core)) = here _ _
atf_least _ _ _ _ (row.exited_as_expected r code) = here _ _
atf_least _ _ _ _ (row.exited_with_expected_status due r) = passes 14 15 due due _ _ refl
atf_least _ _ _ _ (row.exited_with_other_status due r code) = next 14 15 due code _ _ (omega arith)
atf_least _ _ _ _ (row.not_exited None r s core) = here _ _
atf_least _ _ _ _ (row.not_exited (Some due) r s core) = here _ _
atf_least _ _ _ _ (row.signaled_as_expected r s core) = here _ _
atf_least _ _ _ _ (row.killed_by_expected_signal due r core) = passes 17 18 due due _ _ refl
atf_least _ _ _ _ (row.killed_by_other_signal due r s core) = next 17 18 due s _ _ (omega arith)
atf_least _ _ _ _ (row.not_signaled None r code) = here _ _
atf_least _ _ _ _ (row.not_signaled (Some due) r code) = here _ _
atf_least _ _ _ _ (row.not_timed_out r _ (row.exited code)) = here _ _
atf_least _ _ _ _ (row.not_timed_out r _ (row.signaled s core)) = here _ _
