-- The rows of the tables of plain programs and of TAP, and the verdict on a body.
use Rattle.std.proofs.Common.{◌≡◌, ℕ, ◌<◌, Bool, true, false, refl, sym, subst, arith, nat_eq, nat_lt, if◌then◌else◌}
use Rattle.kt_status.proofs.Common.{ltb-true, lt-ltb, Outcome, Exited, Signaled, TimedOut, WaitFailed, VerdictValue, AtfRow, PlainRow, TapRow, IsVerdict, atf_verdict, plain_verdict, tap_verdict, verdict_of}
use Rattle.kt_claim.specs.declared.evidence.Tap.{Tap}
use Rattle.kt_claim.specs.declared.evidence.Tap.TheVariants.{Invalid, BailedOut, SkipAll, Counted}
use Rattle.kt_claim.specs.declared.evidence.Evidence.{Evidence}
use Rattle.kt_base.specs.Verdicts as verdict
use Rattle.kt_claim.specs.declared.evidence.Evidence.TheVariants as evidence
use Rattle.kt_status.specs.Tables as row
use Rattle.kt_status.proofs.RowOrder.{at_or_next, at_equal, IsLeastRow, next, here, only}
use Rattle.kt_status.proofs.AtfRows.{atf_row, atf_fits, atf_least}

-- `plain_row e`: the number of the first row of the table of plain programs for the outcome `e`.
abbrev pub plain_row : Outcome → ℕ
plain_row WaitFailed = 1
plain_row TimedOut = 2
plain_row (Signaled signal core) = 3
plain_row (Exited code) = at_or_next (nat_eq code 0) 4 5

-- `counted_row some code`: the number of the first row of the TAP table if `some` tests failed and
-- the program exited with status `code`.
abbrev pub counted_row : ℕ → ℕ → ℕ
counted_row some code = if nat_lt 0 some then 7 else at_or_next (nat_eq code 0) 8 9

-- `tap_row t e`: the number of the first row of the TAP table for the results `t` and the outcome
-- `e`.
abbrev pub tap_row : Tap → Outcome → ℕ
tap_row t WaitFailed = 1
tap_row t TimedOut = 2
tap_row t (Signaled signal core) = 3
tap_row BailedOut (Exited code) = 4
tap_row (Invalid f) (Exited code) = 5
tap_row (SkipAll r) (Exited code) = 6
tap_row (Counted some all) (Exited code) = counted_row some code

-- ---- the table of plain programs

pub plain_fits : (e : Outcome) → PlainRow (plain_row e) e (plain_verdict e)
plain_fits WaitFailed = row.plain_not_waited_for
plain_fits TimedOut = row.plain_timed_out
plain_fits (Signaled s core) = row.plain_signaled s core
plain_fits (Exited code) = at_equal 4 5 code 0 _ _ (λ n v. PlainRow n (Exited code) v)
    (λ is. subst (λ (x : ℕ). PlainRow 4 (Exited x) verdict.passed) (sym is) row.plain_passed) (row.plain_failed code)

pub plain_least : (n : ℕ) (e : Outcome) (v : VerdictValue) → PlainRow n e v → IsLeastRow (plain_row e) (plain_verdict e) n v
plain_least _ _ _ row.plain_not_waited_for = here _ _
plain_least _ _ _ row.plain_timed_out = here _ _
plain_least _ _ _ (row.plain_signaled s core) = here _ _
plain_least _ _ _ row.plain_passed = here _ _
plain_least _ _ _ (row.plain_failed code) = next 4 5 code 0 _ _ (omega arith)

-- ---- the TAP table

pub counted_fits : (t : Bool) (some all code : ℕ) → nat_lt 0 some ≡ t → TapRow (counted_row some code) (Counted some all) (Exited code) (tap_verdict (Counted some all) (Exited code))
counted_fits true some all code e = rw e (row.tap_failed some all code (ltb-true 0 some e))
counted_fits false some all code e = rw e (at_equal 8 9 code 0 _ _ (λ n v. TapRow n (Counted some all) (Exited code) v)
    (λ is. subst (λ (x : ℕ). TapRow 8 (Counted some all) (Exited x) verdict.passed) (sym is) (row.tap_passed some all)) (row.tap_dubious some all code))

pub tap_fits : (t : Tap) (e : Outcome) → TapRow (tap_row t e) t e (tap_verdict t e)
tap_fits t WaitFailed = row.tap_not_waited_for t
tap_fits t TimedOut = row.tap_timed_out t
tap_fits t (Signaled s core) = row.tap_signaled t s core
tap_fits BailedOut (Exited code) = row.tap_bailed_out code
tap_fits (Invalid f) (Exited code) = row.tap_invalid f code
tap_fits (SkipAll r) (Exited code) = row.tap_skipped r code
tap_fits (Counted some all) (Exited code) = counted_fits (nat_lt 0 some) some all code refl

-- Whether a test failed or not, a row `m` after the row for failed tests is not before the first
-- row that fits.
pub behind_failed : (t : Bool) (first m : ℕ) (x y v : VerdictValue) → 7 < m → IsLeastRow first y m v → IsLeastRow (if t then 7 else first) (if t then x else y) m v
behind_failed true first m x y v lt h = (omega arith, λ e. absurd (omega arith))
behind_failed false first m x y v lt h = h

pub failed_row : (some code : ℕ) (x y : VerdictValue) → 0 < some → IsLeastRow (counted_row some code) (if nat_lt 0 some then x else y) 7 x
failed_row some code x y lt = rw (lt-ltb 0 some lt) (here 7 x)

pub tap_least : (n : ℕ) (t : Tap) (e : Outcome) (v : VerdictValue) → TapRow n t e v → IsLeastRow (tap_row t e) (tap_verdict t e) n v
tap_least _ _ _ _ (row.tap_not_waited_for t) = here _ _
tap_least _ _ _ _ (row.tap_timed_out t) = here _ _
tap_least _ _ _ _ (row.tap_signaled t s core) = here _ _
tap_least _ _ _ _ (row.tap_bailed_out code) = here _ _
tap_least _ _ _ _ (row.tap_invalid f code) = here _ _
tap_least _ _ _ _ (row.tap_skipped r code) = here _ _
tap_least _ _ _ _ (row.tap_failed some all code lt) = failed_row some code _ _ lt
tap_least _ _ _ _ (row.tap_passed some all) = behind_failed (nat_lt 0 some) 8 8 _ _ _ (omega arith) (here 8 verdict.passed)
tap_least _ _ _ _ (row.tap_dubious some all code) = behind_failed (nat_lt 0 some) (at_or_next (nat_eq code 0) 8 9) 9 _ _ _ (omega arith) (next 8 9 code 0 _ _ (omega arith))

-- ---- bodies

-- `verdict_of` is the verdict on a body by the tables, and no other verdict is.
pub body_only : (e : Evidence) (o : Outcome) (v : VerdictValue) → v ≡ verdict_of e o → IsVerdict e o v × ((other : VerdictValue) → IsVerdict e o other → v ≡ other)
body_only (evidence.Atf c) o v is = rw is (only (λ n v. AtfRow n c o v) (atf_row c o) (atf_verdict c o) (atf_fits c o) (λ m x h. atf_least m c o x h))
body_only (evidence.Tap t) o v is = rw is (only (λ n v. TapRow n t o v) (tap_row t o) (tap_verdict t o) (tap_fits t o) (λ m x h. tap_least m t o x h))
body_only evidence.Plain o v is = rw is (only (λ n v. PlainRow n o v) (plain_row o) (plain_verdict o) (plain_fits o) (λ m x h. plain_least m o x h))
