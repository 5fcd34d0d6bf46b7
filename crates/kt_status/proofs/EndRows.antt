-- The rows of the tables of failed starts and of cleanups.
use Rattle.std.proofs.Common.{◌≡◌, ℕ, ◌<◌, Bool, true, false, refl, sym, subst, arith, codes, nat_eq, if◌then◌else◌}
use Rattle.kt_status.proofs.Common.{Outcome, Exited, Signaled, TimedOut, WaitFailed, VerdictValue, RefusalRow, CleanupRow, IsVerdictOfRefusal, IsVerdictAfterCleanup, verdict_of_refusal, verdict_after_good_body, verdict_after_cleanup}
use Rattle.kt_base.specs.declared.failed_start.Refused.{Refused}
use Rattle.kt_base.specs.Kinds.{good}
use Rattle.kt_status.specs.declared.cleanup_end.CleanupEnd.{CleanupEnd}
use Rattle.kt_base.specs.declared.failed_start.Refused.TheVariants as refused
use Rattle.kt_base.specs.Verdicts as verdict
use Rattle.kt_status.specs.Tables as row
use Rattle.kt_status.specs.declared.cleanup_end.CleanupEnd.TheVariants as cleanup
use Rattle.kt_status.proofs.RowOrder.{at_or_next, at_equal, IsLeastRow, next, here, only}

-- ---- failed starts

-- `refusal_row r`: the number of the row of the table of failed starts for the error `r`.
abbrev pub refusal_row : Refused → ℕ
refusal_row refused.Directory = 1
refusal_row refused.Output = 2
refusal_row refused.Spawn = 3
refusal_row refused.Memory = 4

pub refusal_fits : (r : Refused) → RefusalRow (refusal_row r) r (verdict_of_refusal r)
refusal_fits refused.Directory = row.no_directory
refusal_fits refused.Output = row.no_output
refusal_fits refused.Spawn = row.not_spawned
refusal_fits refused.Memory = row.no_memory

pub refusal_least : (n : ℕ) (r : Refused) (v : VerdictValue) → RefusalRow n r v → IsLeastRow (refusal_row r) (verdict_of_refusal r) n v
refusal_least _ _ _ row.no_directory = here _ _
refusal_least _ _ _ row.no_output = here _ _
refusal_least _ _ _ row.not_spawned = here _ _
refusal_least _ _ _ row.no_memory = here _ _

pub refusal_only : (r : Refused) (v : VerdictValue) → v ≡ verdict_of_refusal r → IsVerdictOfRefusal r v × ((other : VerdictValue) → IsVerdictOfRefusal r other → v ≡ other)
refusal_only r v is = rw is (only (λ n v. RefusalRow n r v) (refusal_row r) (verdict_of_refusal r) (refusal_fits r) (λ m x h. refusal_least m r x h))

-- ---- cleanups

-- `end_row end`: the number of the first row of the table of cleanups for a good verdict on the
-- body and the result `end` of the cleanup.
abbrev pub end_row : CleanupEnd → ℕ
end_row (cleanup.Ended (Exited code)) = at_or_next (nat_eq code 0) 2 4
end_row (cleanup.Ended TimedOut) = 3
end_row (cleanup.Ended (Signaled s core)) = 4
end_row (cleanup.Ended WaitFailed) = 4
end_row cleanup.Refused = 5

-- `cleanup_row body end`: the number of the first row of the table of cleanups for the verdict
-- `body` on the body and the result `end` of the cleanup.
abbrev pub cleanup_row : VerdictValue → CleanupEnd → ℕ
cleanup_row body end = if good body.kind then end_row end else 1

pub end_fits : (body : VerdictValue) (end : CleanupEnd) → CleanupRow (end_row end) body end (verdict_after_good_body body end)
end_fits body (cleanup.Ended (Exited code)) = at_equal 2 4 code 0 _ _ (λ n v. CleanupRow n body (cleanup.Ended (Exited code)) v)
    (λ is. subst (λ (x : ℕ). CleanupRow 2 body (cleanup.Ended (Exited x)) body) (sym is) (row.cleaned_up body)) (row.cleanup_failed body (Exited code))
end_fits body (cleanup.Ended TimedOut) = row.cleanup_timed_out body
end_fits body (cleanup.Ended (Signaled s core)) = row.cleanup_failed body (Signaled s core)
end_fits body (cleanup.Ended WaitFailed) = row.cleanup_failed body WaitFailed
end_fits body cleanup.Refused = row.cleanup_not_started body

pub cleanup_fits_at : (t : Bool) (body : VerdictValue) (end : CleanupEnd) → good body.kind ≡ t → CleanupRow (if t then end_row end else 1) body end (if t then verdict_after_good_body body end else body)
cleanup_fits_at true body end e = end_fits body end
cleanup_fits_at false body end e = row.body_is_bad body end e

pub end_least : (body : VerdictValue) (outcome : Outcome) → IsLeastRow (end_row (cleanup.Ended outcome)) (verdict_after_good_body body (cleanup.Ended outcome)) 4 (verdict.broken (codes "Test case cleanup did not terminate successfully"))
end_least body (Exited code) = next 2 4 code 0 _ _ (omega arith)
end_least body TimedOut = (omega arith, λ e. absurd (omega arith))
end_least body (Signaled s core) = here _ _
end_least body WaitFailed = here _ _

-- Whether the verdict on the body is good or bad, a row after the row for bad verdicts is not
-- before the first row that fits.
pub if_good : (t : Bool) (first n : ℕ) (x body v : VerdictValue) → 1 < n → IsLeastRow first x n v → IsLeastRow (if t then first else 1) (if t then x else body) n v
if_good true first n x body v lt h = h
if_good false first n x body v lt h = (omega arith, λ e. absurd (omega arith))

pub bad_row : (body : VerdictValue) (end : CleanupEnd) → good body.kind ≡ false → IsLeastRow (cleanup_row body end) (verdict_after_cleanup body end) 1 body
bad_row body end e = rw e (here 1 body)

pub cleanup_least : (n : ℕ) (body : VerdictValue) (end : CleanupEnd) (v : VerdictValue) → CleanupRow n body end v → IsLeastRow (cleanup_row body end) (verdict_after_cleanup body end) n v
cleanup_least _ _ _ _ (row.body_is_bad body end bad) = bad_row body end bad
cleanup_least _ _ _ _ (row.cleaned_up body) = if_good (good body.kind) 2 2 body body body (omega arith) (here 2 body)
cleanup_least _ _ _ _ (row.cleanup_timed_out body) = if_good (good body.kind) 3 3 _ body _ (omega arith) (here 3 _)
cleanup_least _ _ _ _ (row.cleanup_failed body outcome) = if_good (good body.kind) (end_row (cleanup.Ended outcome)) 4 _ body _ (omega arith) (end_least body outcome)
cleanup_least _ _ _ _ (row.cleanup_not_started body) = if_good (good body.kind) 5 5 _ body _ (omega arith) (here 5 _)

pub cleanup_only : (body : VerdictValue) (end : CleanupEnd) (v : VerdictValue) → v ≡ verdict_after_cleanup body end
    → IsVerdictAfterCleanup body end v × ((other : VerdictValue) → IsVerdictAfterCleanup body end other → v ≡ other)
cleanup_only body end v is =
    rw is (only (λ n v. CleanupRow n body end v) (cleanup_row body end) (verdict_after_cleanup body end) (cleanup_fits_at (good body.kind) body end refl) (λ m x h. cleanup_least m body end x h))
