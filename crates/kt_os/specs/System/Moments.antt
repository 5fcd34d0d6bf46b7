-- Timestamps of the system, in milliseconds since 1970 in UTC.
use Rattle.std.specs.Prelude.{ℕ, Result, Ok, Err, leb, if◌then◌else◌}
use Rattle.kt_os.specs.Types.{OsFault}
use Rattle.kt_base.specs.Limits.{latest_moment_millis}

-- `recordable_moment moment`: the timestamp `moment`, or 0 if it is later than the latest timestamp
-- that can be recorded.
abbrev pub recordable_moment : ℕ → ℕ
recordable_moment moment = if leb moment latest_moment_millis then moment else 0

-- `moment_of result`: the timestamp for a read of the clock with the result `result`. It is 0 if
-- the read failed or the time is later than the latest timestamp that can be recorded.
abbrev pub moment_of : Result ℕ OsFault → ℕ
moment_of (Ok moment) = recordable_moment moment
moment_of (Err fault) = 0
