-- The result of a TAP stream.
use Rattle.std.specs.Prelude.{ℕ, Bool, true, false, not, ◌&&◌, ◌||◌, ◌==◌, nat_lt, if◌then◌else◌, List, [], ◌∷◌, map, length, drop, codes, Option, Some, None, is_some, option_map}
use Rattle.std.specs.Char.{to_ascii_lowercase}
use Rattle.std.specs.List.{list_any, filter, filter_map}
use Rattle.std.specs.Option.{option_or}
use Rattle.kt_base.specs.Digits.{is_digit, decimal_from}
use Rattle.kt_base.specs.Lossy.{lossy}
use Rattle.kt_base.specs.Lines.{lines}
use Rattle.kt_claim.specs.Bytes.{is_blank}
use Rattle.kt_claim.specs.declared.evidence.Tap.{Tap}
use Rattle.kt_claim.specs.declared.evidence.Tap.TheVariants.{Invalid, BailedOut, SkipAll, Counted}
use Rattle.kt_claim.specs.declared.evidence.TapFault.TheVariants.{TooLong, NoPlan, SecondPlan, PlanDiffers}

-- `limit`: the greatest length of a TAP stream, in bytes.
abbrev pub limit : ℕ
limit = 16777216

-- ---- lines

-- `without_cr line`: `line` without a carriage return (13) at its end.
abbrev pub without_cr : List ℕ → List ℕ
without_cr [] = []
without_cr (b ∷ []) = if b == 13 then [] else b ∷ []
without_cr (b ∷ c ∷ rest) = b ∷ without_cr (c ∷ rest)

-- `lines_of text`: the lines of `text`, without newlines and without a carriage return at their
-- ends.
abbrev pub lines_of : List ℕ → List (List ℕ)
lines_of text = map without_cr (lines text)

-- ---- words

-- `begins word text`: `text` begins with the bytes `word`.
abbrev pub begins : List ℕ → List ℕ → Bool
begins [] text = true
begins (c ∷ word) [] = false
begins (c ∷ word) (b ∷ text) = b == c && begins word text

-- `begins_ignoring_case word text`: `text` begins with `word`, in upper or lower case. `word`
-- itself is in lower case.
abbrev pub begins_ignoring_case : List ℕ → List ℕ → Bool
begins_ignoring_case [] text = true
begins_ignoring_case (c ∷ word) [] = false
begins_ignoring_case (c ∷ word) (b ∷ text) = to_ascii_lowercase b == c && begins_ignoring_case word text

-- `without_leading test text`: `text` without the bytes before the first byte that fails `test`.
abbrev pub without_leading : (ℕ → Bool) → List ℕ → List ℕ
without_leading test [] = []
without_leading test (b ∷ text) = if test b then without_leading test text else b ∷ text

-- `leading_bytes test text`: the bytes of `text` before the first byte that fails `test`.
abbrev pub leading_bytes : (ℕ → Bool) → List ℕ → List ℕ
leading_bytes test [] = []
leading_bytes test (b ∷ text) = if test b then b ∷ leading_bytes test text else []

-- `is_not_blank b`: `b` is neither a space nor a tab.
abbrev pub is_not_blank : ℕ → Bool
is_not_blank b = not (is_blank b)

-- `without_trailing_blanks text`: `text` without the blanks at its end.
abbrev pub without_trailing_blanks : List ℕ → List ℕ
without_trailing_blanks [] = []
without_trailing_blanks (b ∷ rest) = if is_blank b && length (without_trailing_blanks rest) == 0 then [] else b ∷ without_trailing_blanks rest

-- ---- kinds of lines

-- `is_bail_out line`: `line` bails out: it begins with `Bail out!`.
abbrev pub is_bail_out : List ℕ → Bool
is_bail_out line = begins (codes "Bail out!") line

-- `is_word_end text`: `text` is empty or begins with a blank.
abbrev pub is_word_end : List ℕ → Bool
is_word_end [] = true
is_word_end (b ∷ rest) = is_blank b

-- `starts_with_word word line`: `line` begins with `word`, and a blank or the end follows.
abbrev pub starts_with_word : List ℕ → List ℕ → Bool
starts_with_word word line = begins word line && is_word_end (drop (length word) line)

-- `is_not_ok line`: `line` is a failed test, with a directive or not.
abbrev pub is_not_ok : List ℕ → Bool
is_not_ok line = starts_with_word (codes "not ok") line

-- `is_test line`: `line` is a test, passed or failed.
abbrev pub is_test : List ℕ → Bool
is_test line = starts_with_word (codes "ok") line || is_not_ok line

-- ---- directives

-- `Directive`: a directive: true for a skip directive or false for a todo directive, and the bytes
-- of its reason.
abbrev pub Directive : Type 0
Directive = Bool × List ℕ

-- `reason_of text`: the reason of a directive, where `text` are the bytes after its four letters.
-- The rest of the directive's word and the blanks around the reason are left out.
abbrev pub reason_of : List ℕ → List ℕ
reason_of text = without_trailing_blanks (without_leading is_blank (without_leading is_not_blank text))

-- `directive_at text`: the directive that `text` begins with, if any.
abbrev pub directive_at : List ℕ → Option Directive
directive_at text =
    if begins_ignoring_case (codes "todo") text then Some (false, reason_of (drop 4 text))
    else if begins_ignoring_case (codes "skip") text then Some (true, reason_of (drop 4 text))
    else None

-- `directive_after_hash escaped b rest`: the directive in `rest` after its leading blanks, if any.
-- `b` is the byte before `rest`, and `escaped` is true if a backslash precedes `b`. Unless `b` is a
-- hash (35) and `escaped` is false, there is no directive.
abbrev pub directive_after_hash : Bool → ℕ → List ℕ → Option Directive
directive_after_hash escaped b rest = if b == 35 && not escaped then directive_at (without_leading is_blank rest) else None

-- `directive_in escaped text`: the first directive in `text`, if any. `escaped` is true if a
-- backslash precedes `text`.
abbrev pub directive_in : Bool → List ℕ → Option Directive
directive_in escaped [] = None
directive_in escaped (b ∷ rest) = option_or (directive_after_hash escaped b rest) (directive_in (b == 92) rest)

-- `directive line`: the first directive in `line`, if any.
abbrev pub directive : List ℕ → Option Directive
directive line = directive_in false line

-- `is_unexcused line`: `line` is a failed test without a directive.
abbrev pub is_unexcused : List ℕ → Bool
is_unexcused line = is_not_ok line && not (is_some (directive line))

-- ---- plans

-- `is_plan_end text`: `text` is empty or begins with a hash.
abbrev pub is_plan_end : List ℕ → Bool
is_plan_end [] = true
is_plan_end (b ∷ rest) = b == 35

-- `below_limit n`: `n` if it is less than 1,000,000,000, otherwise `None`. A plan has fewer tests
-- than this limit.
abbrev pub below_limit : ℕ → Option ℕ
below_limit n = if nat_lt n 1000000000 then Some n else None

-- `value_from value digits`: the number below 1,000,000,000 that the earlier digits and then
-- `digits` spell, if any. `value` is the value of the earlier digits, or `None` without earlier
-- digits.
abbrev pub value_from : Option ℕ → List ℕ → Option ℕ
value_from None [] = None
value_from None (d ∷ digits) = below_limit (decimal_from 0 (d ∷ digits))
value_from (Some n) digits = below_limit (decimal_from n digits)

-- `planned_from value text`: the number below 1,000,000,000 that the earlier digits and the digits
-- at the start of `text` spell. After the digits, only blanks may precede the end or a hash,
-- otherwise the result is `None`. `value` is the value of the earlier digits, if any.
abbrev pub planned_from : Option ℕ → List ℕ → Option ℕ
planned_from value text = if is_plan_end (without_leading is_blank (without_leading is_digit text)) then value_from value (leading_bytes is_digit text) else None

-- `planned line`: the number of tests that `line` plans, or `None` if `line` is not a plan.
abbrev pub planned : List ℕ → Option ℕ
planned line = if begins (codes "1..") line then planned_from None (drop 3 line) else None

-- `reason_of_skip directive`: the reason of `directive` if it is a skip directive, else no bytes.
abbrev pub reason_of_skip : Option Directive → List ℕ
reason_of_skip (Some (true, reason)) = reason
reason_of_skip _ = []

-- `skip_reason reason`: the text of the bytes `reason`, or `No reason given` if `reason` is empty.
abbrev pub skip_reason : List ℕ → List ℕ
skip_reason [] = codes "No reason given"
skip_reason (b ∷ reason) = lossy (b ∷ reason)

-- `plan_reason n reason`: the reason of a plan of `n` tests: `skip_reason reason` if `n` is 0, else
-- an empty text.
abbrev pub plan_reason : ℕ → List ℕ → List ℕ
plan_reason n reason = if n == 0 then skip_reason reason else []

-- `plan_for reason n`: a plan of `n` tests with the reason `plan_reason n reason`.
abbrev pub plan_for : List ℕ → ℕ → ℕ × List ℕ
plan_for reason n = (n, plan_reason n reason)

-- `plan line`: the number of tests that `line` plans, and the plan's reason, if `line` is a plan.
abbrev pub plan : List ℕ → Option (ℕ × List ℕ)
plan line = option_map (plan_for (reason_of_skip (directive line))) (planned line)

-- ---- the stream

-- `lines_before_bail_out lines`: the lines among `lines` before the first bail out.
abbrev pub lines_before_bail_out : List (List ℕ) → List (List ℕ)
lines_before_bail_out [] = []
lines_before_bail_out (line ∷ lines) = if is_bail_out line then [] else line ∷ lines_before_bail_out lines

-- `count test lines`: the number of `lines` that pass `test`.
abbrev pub count : (List ℕ → Bool) → List (List ℕ) → ℕ
count test lines = length (filter test lines)

-- `tap_of_plan planned reason tests failures`: the result of a stream with one plan of `planned`
-- tests and the reason `reason`. The stream has `tests` tests, and `failures` of them failed
-- without a directive.
abbrev pub tap_of_plan : ℕ → List ℕ → ℕ → ℕ → Tap
tap_of_plan planned reason tests failures =
    if not (planned == tests) then Invalid PlanDiffers
    else if tests == 0 then SkipAll reason
    else Counted failures tests

-- `tap_of_plans plans tests failures`: the result of a stream that has the plans `plans` and no
-- bail out. The stream has `tests` tests, and `failures` of them failed without a directive.
abbrev pub tap_of_plans : List (ℕ × List ℕ) → ℕ → ℕ → Tap
tap_of_plans [] tests failures = Invalid NoPlan
tap_of_plans ((planned, reason) ∷ []) tests failures = tap_of_plan planned reason tests failures
tap_of_plans (one ∷ other ∷ more) tests failures = Invalid SecondPlan

-- `tap_of_lines lines`: the result of a stream of the lines `lines`.
abbrev pub tap_of_lines : List (List ℕ) → Tap
tap_of_lines lines =
    if list_any is_bail_out lines then BailedOut
    else tap_of_plans (filter_map plan (lines_before_bail_out lines)) (count is_test (lines_before_bail_out lines)) (count is_unexcused (lines_before_bail_out lines))

-- `tap_of text`: the result of the TAP stream `text`.
abbrev pub tap_of : List ℕ → Tap
tap_of text = if nat_lt limit (length text) then Invalid TooLong else tap_of_lines (lines_of text)
