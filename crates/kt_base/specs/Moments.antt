-- Timestamps that can be recorded.
use Rattle.std.specs.Prelude.{ℕ, ◌≤◌}
use Rattle.kt_base.specs.declared.entry.Entry.{Entry}
use Rattle.kt_base.specs.Limits.{latest_moment_millis}

-- `IsMoment moment`: the timestamp `moment`, in milliseconds since 1970 in UTC, is before the year
-- 10000.
abbrev pub IsMoment : ℕ → Type 0
IsMoment moment = moment ≤ latest_moment_millis

-- `IsStorable entry`: a store accepts the times of `entry`: its start time and its duration are at
-- most `latest_moment_millis`.
pub record IsStorable (entry : Entry) : Type 0 where
  pub started : IsMoment entry.started
  pub millis : IsMoment entry.millis
