-- The limits on the time and the steps of removals.
use Rattle.std.specs.Prelude.{ℕ, ◌+◌, ◌*◌, ◌/◌, ◌≤◌, Option, Some, None}

-- `IsSpent micros steps taken`: a removal has used up its time limit of `micros` microseconds. The
-- removal began `taken` microseconds ago. If the clock failed, `taken` is absent, and each of the
-- `steps` steps of the removal counts as 100 microseconds.
abbrev pub IsSpent : ℕ → ℕ → Option ℕ → Type 0
IsSpent micros steps (Some taken) = micros ≤ taken
IsSpent micros steps None = micros / 100 ≤ steps

-- `case_limit_micros`: the time limit for the removal of a case's directory, in microseconds.
abbrev pub case_limit_micros : ℕ
case_limit_micros = 5000

-- `root_limit_micros waiting`: the time limit for the removal of the root directory, in
-- microseconds, while `waiting` directories are in the queue.
abbrev pub root_limit_micros : ℕ → ℕ
root_limit_micros waiting = 5000000 + 10000 * waiting

-- `min_root_steps waiting`: the minimum number of steps before the time limit can stop the removal
-- of the root directory, while `waiting` directories are in the queue.
abbrev pub min_root_steps : ℕ → ℕ
min_root_steps waiting = 20000 + 50 * waiting
