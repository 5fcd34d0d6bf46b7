-- Limits that several crates share.
use Rattle.std.specs.Prelude.{ℕ}

-- `largest_width`: the largest number of test cases that may run at the same time.
abbrev pub largest_width : ℕ
largest_width = 256

-- `longest_timeout_seconds`: the longest time limit of a test case, in seconds.
abbrev pub longest_timeout_seconds : ℕ
longest_timeout_seconds = 1000000

-- `greatest_run_number`: the greatest number that a run can have. Runs are numbered from 1.
abbrev pub greatest_run_number : ℕ
greatest_run_number = 1000000

-- `latest_moment_millis`: the last millisecond of the year 9999, counted from 1970 in UTC.
abbrev pub latest_moment_millis : ℕ
latest_moment_millis = 253402300799999
