-- The output and the exit status of `test`, once its plan is made.
use Rattle.std.specs.Prelude.{ℕ, Bool, true, false, List, [], ◌∷◌, ◌++◌, ◌==◌, ◌&&◌, Result, length, if◌then◌else◌}
use Rattle.kt_cli.specs.Types.{Began, CaseOptions, Entry, Job, CommandSelection, StoreCall, StoreFault, utf8}
use Rattle.kt_cli.specs.Totals.{lines, totals_text, good_count, bad_count}
use Rattle.kt_cli.specs.Warnings.{warnings}

-- `all_matched unmatched`: `true` if `unmatched`, the indexes of the filters that select no case,
-- is empty.
abbrev pub all_matched : List ℕ → Bool
all_matched [] = true
all_matched (position ∷ unmatched) = false

-- `totals_and_warnings good total bad words unmatched`: the end of the output of `test`: the totals
-- of the run, and a warning for each of the filters `words` at an index in `unmatched`. `good` of
-- `total` cases passed, were skipped or failed as expected, and `bad` cases failed or are broken.
abbrev pub totals_and_warnings : ℕ → ℕ → ℕ → List (List ℕ) → List ℕ → List ℕ
totals_and_warnings good total bad words unmatched = utf8 (totals_text good total bad) ++ utf8 (warnings words unmatched)

-- `test_output entries words unmatched`: the output of `test`: the lines of `entries`, the totals,
-- and a warning for each of the filters `words` at an index in `unmatched`.
abbrev pub test_output : List Entry → List (List ℕ) → List ℕ → List ℕ
test_output entries words unmatched = lines entries ++ totals_and_warnings (good_count entries) (length entries) (bad_count entries) words unmatched

-- `exit_status bad unmatched`: the exit status of a command with `bad` failed or broken cases and
-- the unmatched filters `unmatched`: 0 if there are neither, else 1.
abbrev pub exit_status : ℕ → List ℕ → ℕ
exit_status bad unmatched = if bad == 0 && all_matched unmatched then 0 else 1

-- `test_exit entries unmatched`: the exit status of `test` with the recorded `entries` and the
-- unmatched filters `unmatched`: 0 if no entry failed or is broken and `unmatched` is empty, else
-- 1.
abbrev pub test_exit : List Entry → List ℕ → ℕ
test_exit entries unmatched = exit_status (bad_count entries) unmatched

-- A plan before its run begins, with its jobs and its width. `words` are the filters as given, and
-- `unmatched` are the indexes of the filters that select no case. `moment` is the start of the run,
-- in milliseconds since 1970-01-01 UTC.
pub record PlannedRun : Type 0 where
  pub plan : List Job
  pub width : ℕ
  pub words : List (List ℕ)
  pub unmatched : List ℕ
  pub moment : ℕ

-- `planned_run plan options picked moment`: the planned run of `plan`, for the selection `picked`
-- by `options`, with the start `moment`.
abbrev pub planned_run : List Job → CaseOptions → CommandSelection → ℕ → PlannedRun
planned_run plan options picked moment =
    record { plan = plan; width = picked.settings.config.parallelism; words = options.filters; unmatched = picked.chosen.unmatched; moment = moment }

-- `begin_call planned answer`: the store call that begins the run `planned`, with its result
-- `answer`.
abbrev pub begin_call : PlannedRun → Result ℕ StoreFault → StoreCall
begin_call planned answer = Began (length planned.plan) planned.moment answer
