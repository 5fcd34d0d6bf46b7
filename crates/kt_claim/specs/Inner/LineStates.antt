-- The facts of an open TAP line, as a function of the bytes that follow.
use Rattle.std.specs.Prelude.{◌≡◌, ℕ, Bool, true, false, not, ◌&&◌, if◌then◌else◌, List, [], ◌∷◌, ◌++◌, length, drop, codes, Option, Some, None, is_some, option_map}
use Rattle.kt_claim.specs.Bytes.{is_blank}
use Rattle.std.specs.Option.{option_or}
use Rattle.kt_claim.specs.TapStream.{without_cr, begins, begins_ignoring_case, without_leading, without_trailing_blanks, is_bail_out, is_word_end, is_test, is_unexcused, Directive, reason_of, directive_at, directive_in, is_plan_end, below_limit, planned_from, reason_of_skip, skip_reason, plan_for, plan}
use Rattle.kt_claim.specs.declared.open_line.LineProgress.{LineProgress}
use Rattle.kt_claim.specs.declared.open_line.LineProgress.TheVariants as begun
use Rattle.kt_claim.specs.declared.open_line.DirectivePrefix.{DirectivePrefix}
use Rattle.kt_claim.specs.declared.open_line.DirectivePrefix.TheVariants.{T, To, Tod, S, Sk, Ski}
use Rattle.kt_claim.specs.declared.open_line.LineKind.{LineKind}
use Rattle.kt_claim.specs.declared.open_line.LineKind.TheVariants as kind
use Rattle.kt_claim.specs.declared.open_line.Opening.{Opening}
use Rattle.kt_claim.specs.declared.open_line.Opening.TheVariants as opening
use Rattle.kt_claim.specs.declared.open_line.DirectivePurpose.{DirectivePurpose}
use Rattle.kt_claim.specs.declared.open_line.DirectivePurpose.TheVariants.{Excuse, Explain}

-- `Facts`: the facts of a TAP line that affect the result of its stream. The line may bail out, be
-- a test, be a failed test without a directive, and have a plan.
pub record Facts : Type 0 where
  pub bails : Bool
  pub tests : Bool
  pub fails : Bool
  pub plans : Option (ℕ × List ℕ)

-- `facts_of line`: the `Facts` of `line`, a line of a TAP stream without its newline and carriage
-- return.
abbrev pub facts_of : List ℕ → Facts
facts_of line = record { bails = is_bail_out line; tests = is_test line; fails = is_unexcused line; plans = plan line }

-- `no_facts`: the `Facts` of a TAP line that is neither a bail out, nor a test, nor a plan.
abbrev pub no_facts : Facts
no_facts = record { bails = false; tests = false; fails = false; plans = None }

-- `bail_out_facts`: the `Facts` of a TAP line that bails out.
abbrev pub bail_out_facts : Facts
bail_out_facts = record { bails = true; tests = false; fails = false; plans = None }

-- `test_facts tests fails`: the `Facts` of a TAP line that is neither a bail out nor a plan. It is
-- a test if `tests` is true, and a failed test without a directive if `fails` is true.
abbrev pub test_facts : Bool → Bool → Facts
test_facts tests fails = record { bails = false; tests = tests; fails = fails; plans = None }

-- `plan_facts plans`: the `Facts` of a TAP line that is neither a bail out nor a test. `plans` has
-- the number of tests and the reason of its plan, or is `None` if the line is not a plan.
abbrev pub plan_facts : Option (ℕ × List ℕ) → Facts
plan_facts plans = record { bails = false; tests = false; fails = false; plans = plans }

-- `facts_of_kind kind reason`: the `Facts` of a TAP line of the kind `kind`. A plan of no tests has
-- the reason `reason`.
abbrev pub facts_of_kind : LineKind → List ℕ → Facts
facts_of_kind kind.Other reason = no_facts
facts_of_kind kind.Bail reason = bail_out_facts
facts_of_kind kind.Test reason = test_facts true false
facts_of_kind kind.Failure reason = test_facts true true
facts_of_kind (kind.Plan n) reason = plan_facts (Some (plan_for reason n))

-- `facts_after_opening o more`: the `Facts` of a TAP line that consists of the opening `o` and the
-- bytes `more`.
abbrev pub facts_after_opening : Opening → List ℕ → Facts
facts_after_opening opening.BailOut more = bail_out_facts
facts_after_opening opening.Ok more = test_facts (is_word_end more) false
facts_after_opening opening.NotOk more = test_facts (is_word_end more) (is_word_end more && not (is_some (directive_in false more)))
facts_after_opening opening.Plan more = plan_facts (option_map (plan_for (reason_of_skip (directive_in false more))) (planned_from None more))

-- `facts_within_opening o whole more`: the `Facts` of a TAP line that begins with the opening `o`,
-- followed by the bytes `more`. If `whole` is false, the opening is incomplete, and the line
-- doesn't affect the result of the stream.
abbrev pub facts_within_opening : Opening → Bool → List ℕ → Facts
facts_within_opening o false more = no_facts
facts_within_opening o true more = facts_after_opening o more

-- `directive_facts purpose found`: the `Facts` of a TAP line in which a directive was looked for.
-- `found` is the directive, if any was found, and `purpose` is the purpose of the search. For
-- `Excuse`, the line is a failed test, and for `Explain`, a plan of no tests.
abbrev pub directive_facts : DirectivePurpose → Option Directive → Facts
directive_facts Excuse found = test_facts true (not (is_some found))
directive_facts Explain found = plan_facts (Some (0, skip_reason (reason_of_skip found)))

-- `missing_letters l`: the letters of a directive that are still missing after its first letters
-- `l`.
abbrev pub missing_letters : DirectivePrefix → List ℕ
missing_letters T = codes "odo"
missing_letters To = codes "do"
missing_letters Tod = codes "o"
missing_letters S = codes "kip"
missing_letters Sk = codes "ip"
missing_letters Ski = codes "p"

-- `is_skip l`: the letters `l` begin a skip directive.
abbrev pub is_skip : DirectivePrefix → Bool
is_skip S = true
is_skip Sk = true
is_skip Ski = true
is_skip _ = false

-- `directive_after_letters l more`: the directive that consists of its first letters `l` and then
-- the bytes `more`, or `None` if they are not a directive.
abbrev pub directive_after_letters : DirectivePrefix → List ℕ → Option Directive
directive_after_letters l more = if begins_ignoring_case (missing_letters l) more then Some (is_skip l, reason_of (drop (length (missing_letters l)) more)) else None

-- `facts_with begun kept more`: the `Facts` of a TAP line that is in the state `begun` and ends
-- after `more`, its further bytes. `kept` is the part of a plan's reason that was read before
-- `more`.
abbrev pub facts_with : LineProgress → List ℕ → List ℕ → Facts
facts_with begun.Nothing kept more = facts_of more
facts_with (begun.PartialOpening o lacks) kept more = facts_within_opening o (begins lacks.now more) (drop (length lacks.now) more)
facts_with (begun.Digits value) kept more = plan_facts (option_map (plan_for (reason_of_skip (directive_in false more))) (planned_from value more))
facts_with (begun.Blanks n) kept more =
    plan_facts (option_map (plan_for (reason_of_skip (directive_in false more))) (if is_plan_end (without_leading is_blank more) then below_limit n else None))
facts_with (begun.DirectiveSearch purpose escaped) kept more = directive_facts purpose (directive_in escaped more)
facts_with (begun.Hash purpose) kept more = directive_facts purpose (option_or (directive_at (without_leading is_blank more)) (directive_in false more))
facts_with (begun.DirectiveLetters purpose l) kept more = directive_facts purpose (option_or (directive_after_letters l more) (directive_in false more))
facts_with begun.Word kept more = plan_facts (Some (0, skip_reason (reason_of more)))
facts_with begun.Gap kept more = plan_facts (Some (0, skip_reason (without_trailing_blanks (without_leading is_blank more))))
facts_with begun.Reason kept more = plan_facts (Some (0, skip_reason (without_trailing_blanks (kept ++ more))))
facts_with (begun.KnownKind k) kept more = facts_of_kind k []

-- `is_reason_byte begun b`: `b`, the byte after the state `begun`, belongs to the reason of a plan.
abbrev pub is_reason_byte : LineProgress → ℕ → Bool
is_reason_byte begun.Reason b = true
is_reason_byte begun.Gap b = not (is_blank b)
is_reason_byte _ b = false

-- `is_reason begun`: the state `begun` follows bytes of the reason of a plan of no tests.
abbrev pub is_reason : LineProgress → Bool
is_reason begun.Reason = true
is_reason _ = false

-- `is_kind_known begun`: the bytes after the state `begun` don't affect the `Facts` of the TAP
-- line.
abbrev pub is_kind_known : LineProgress → Bool
is_kind_known (begun.KnownKind k) = true
is_kind_known _ = false

-- `IsEmptyUnless may kept`: the list `kept` is empty unless `may` is true.
abbrev pub IsEmptyUnless : Bool → List ℕ → Type 0
IsEmptyUnless true kept = Unit {0}
IsEmptyUnless false kept = kept ≡ []

-- `KeepsIfReason begun kept`: `kept` are the bytes that a reader keeps of a TAP line in the state
-- `begun`. There are none unless bytes of a plan's reason were read.
abbrev pub KeepsIfReason : LineProgress → List ℕ → Type 0
KeepsIfReason begun kept = IsEmptyUnless (is_reason begun) kept

-- `with_held_cr held_cr more`: the bytes `more`, with a carriage return before them if `held_cr` is
-- true.
abbrev pub with_held_cr : Bool → List ℕ → List ℕ
with_held_cr false more = more
with_held_cr true more = 13 ∷ more

-- `LineState`: the state of an open line. It has the state of the reader within the line, and the
-- kept bytes of a reason. `held_cr` is true if a carriage return is held back.
pub record LineState : Type 0 where
  pub begun : LineProgress
  pub kept : List ℕ
  pub held_cr : Bool

-- `IsStateAfter begun kept held_cr came`: after the bytes `came` of a TAP line, the reader is in
-- the state `begun` and keeps the bytes `kept` of a plan's reason. It holds back a carriage return
-- if `held_cr` is true. These three values give the `Facts` of the line for any bytes that follow.
pub record IsStateAfter (begun : LineProgress) (kept : List ℕ) (held_cr : Bool) (came : List ℕ) : Type 0 where
  pub keeps : KeepsIfReason begun kept
  pub facts : (more : List ℕ) → facts_of (without_cr (came ++ more)) ≡ facts_with begun kept (without_cr (with_held_cr held_cr more))

-- `IsStateMidLine begun kept came`: after the bytes `came` of a TAP line, the reader is in the
-- state `begun` and keeps the bytes `kept` of a plan's reason. It holds back no carriage return.
-- These two values give the `Facts` of the line if more bytes follow.
pub record IsStateMidLine (begun : LineProgress) (kept came : List ℕ) : Type 0 where
  pub keeps : KeepsIfReason begun kept
  pub facts : (b : ℕ) (more : List ℕ) → facts_of (without_cr (came ++ b ∷ more)) ≡ facts_with begun kept (without_cr (b ∷ more))

-- `next_letter l`: the letter that follows the first letters `l` of a directive.
abbrev pub next_letter : DirectivePrefix → ℕ
next_letter T = 111
next_letter To = 100
next_letter Tod = 111
next_letter S = 107
next_letter Sk = 105
next_letter Ski = 112

-- `facts_after_letter purpose l more`: the `Facts` of a TAP line that ends with the letters `l`,
-- the next letter of their directive, and the bytes `more`. `purpose` is the purpose of the search
-- for the directive.
abbrev pub facts_after_letter : DirectivePurpose → DirectivePrefix → List ℕ → Facts
facts_after_letter purpose T more = directive_facts purpose (option_or (directive_after_letters To more) (directive_in false more))
facts_after_letter purpose To more = directive_facts purpose (option_or (directive_after_letters Tod more) (directive_in false more))
facts_after_letter purpose Tod more = directive_facts purpose (Some (false, reason_of more))
facts_after_letter purpose S more = directive_facts purpose (option_or (directive_after_letters Sk more) (directive_in false more))
facts_after_letter purpose Sk more = directive_facts purpose (option_or (directive_after_letters Ski more) (directive_in false more))
facts_after_letter purpose Ski more = directive_facts purpose (Some (true, reason_of more))
