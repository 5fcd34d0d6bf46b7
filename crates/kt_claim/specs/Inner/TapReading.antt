-- The tally and the open line of a reader of a TAP stream.
use Rattle.std.specs.Prelude.{◌≡◌, ℕ, ◌+◌, ◌≤◌, Bool, true, false, if◌then◌else◌, List, [], ◌∷◌, ◌++◌, map, length, Option, Some, None, is_some}
use Rattle.std.specs.List.{list_any, filter_map}
use Rattle.kt_base.specs.Lines.{is_newline, lines}
use Rattle.kt_claim.specs.Inner.LineStates.{LineState, IsStateAfter}
use Rattle.kt_claim.specs.TapStream.{is_bail_out, is_test, is_unexcused, plan, count, lines_before_bail_out, without_cr}
use Rattle.kt_claim.specs.declared.open_line.OpenLine.{OpenLine}
use Rattle.kt_claim.specs.declared.tally.Tally.{Tally}

-- `one_if b`: 1 if `b` is true, otherwise 0.
abbrev pub one_if : Bool → ℕ
one_if true = 1
one_if false = 0

-- `first_item list`: the first item of `list`, or `None` if `list` is empty.
abbrev pub first_item : {T : Type 0} → List T → Option T
first_item [] = None
first_item (x ∷ xs) = Some x

-- `has_second list`: `list` has two items or more.
abbrev pub has_second : {T : Type 0} → List T → Bool
has_second (x ∷ y ∷ xs) = true
has_second _ = false

-- `IsTally tally lines`: `tally` is the tally of the TAP lines `lines`. It has the numbers of tests
-- and the plans before the first bail out, and whether a line bails out.
pub record IsTally (tally : Tally) (lines : List (List ℕ)) : Type 0 where
  pub bailed : tally.bailed ≡ list_any is_bail_out lines
  pub planned : tally.plan ≡ first_item (filter_map plan (lines_before_bail_out lines))
  pub second : tally.second ≡ has_second (filter_map plan (lines_before_bail_out lines))
  pub tests : tally.tests ≡ count is_test (lines_before_bail_out lines)
  pub failures : tally.failures ≡ count is_unexcused (lines_before_bail_out lines)

-- `state_of line`: the state of the open line `line`, with its kept bytes as a list.
abbrev pub state_of : OpenLine → LineState
state_of line = record { begun = line.begun; kept = line.kept.items; held_cr = line.held_cr }

-- `HasLines tally line fed`: the bytes `fed` are complete lines, whose tally is `tally`, followed
-- by an open line in the state `line`.
pub record HasLines (tally : Tally) (line : LineState) (fed : List ℕ) : Type 0 where
  pub whole : List (List ℕ)
  pub open_line : List ℕ
  pub tallied : IsTally tally (map without_cr whole)
  pub one_line : list_any is_newline open_line ≡ false
  pub rest : (more : List ℕ) → lines (fed ++ more) ≡ whole ++ lines (open_line ++ more)
  pub fits : length whole + length open_line ≤ length fed
  pub known : IsStateAfter line.begun line.kept line.held_cr open_line

-- `with_plan tally tests reason`: `tally` with one more plan, of `tests` tests with the reason
-- `reason`. A plan after the first only sets `second`.
abbrev pub with_plan : Tally → ℕ → List ℕ → Tally
with_plan tally tests reason = if is_some tally.plan then record tally { second = true } else record tally { plan = Some (tests, reason) }
