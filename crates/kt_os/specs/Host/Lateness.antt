-- Children that are polled late, and the check for them.
use Rattle.std.specs.Prelude.{◌≡◌, ◌↔◌, ◌⊎◌, ◌+◌, ◌-◌, ◌*◌, ◌/◌, ◌<◌, ℕ, List, slice_get, Bool, false, Option, Some, None, IsSome, IsSomeAnd, IsTrue, Result, Ok, Err}
use Rattle.std.specs.Map.{values_of}
use Rattle.std.specs.Time.{instant_nanos}
use Rattle.std.specs.declared.io.Error.{Error}
use Rattle.std.specs.declared.time.Instant.{Instant}
use Rattle.kt_os.specs.Types.{Child}
use Rattle.kt_os.specs.declared.host.host_child.HostChild.{HostChild}

-- `IsLate limit responses millis`: a child is polled late if it has only `responses` `Running`
-- responses `millis` milliseconds after its start. At 100 polls a second, it has then missed more
-- than two polls. After the last poll of its timeout of `limit` seconds, a child is not late.
abbrev pub IsLate : ℕ → ℕ → ℕ → Type 0
IsLate limit responses millis = (responses < 100 * limit) × (10 * (responses + 2) < millis)

-- `IsLateAt now h`: the child `h` is polled late at `now` (`IsLate`). It has a process without a
-- known end.
abbrev pub IsLateAt : {P I O E : Type 0} → Instant → HostChild P I O E → Type 0
IsLateAt now h =
    (h.end_found ≡ false) × IsSome h.process
    × IsSomeAnd h.pace.started (λ start. IsLate h.pace.limit h.pace.responses ((instant_nanos now - instant_nanos start) / 1000000))

module _ {P I O E : Type 0} (held : List (Child × HostChild P I O E)) where
  -- `IsAnyLate now`: one of the children `held` is polled late at `now`.
  abbrev pub IsAnyLate : Instant → Type 0
  IsAnyLate now = (place : ℕ) × IsSomeAnd (slice_get (values_of held) place) (IsLateAt now)

  -- `IsLateCheck time late`: `late` is the result of a check for late children. `time` is the time
  -- of the check, or the error of the clock. `late` is `true` if one of the children `held` is
  -- polled late at that time, and `false` otherwise or if the clock fails. Nothing ties `time` to a
  -- read of the clock.
  abbrev pub IsLateCheck : Result Instant Error → Bool → Type 0
  IsLateCheck (Ok now) late = IsTrue late ↔ IsAnyLate now
  IsLateCheck (Err error) late = late ≡ false

  -- `UpdatesLateCheck old new`: the stored result of the last check for late children among `held`
  -- goes from `old` to `new`. It is kept, cleared (`None`), or replaced by the result of a new
  -- check. Nothing ties the time of the new check to a read of the clock.
  abbrev pub UpdatesLateCheck : Option Bool → Option Bool → Type 0
  UpdatesLateCheck old new = (new ≡ old) ⊎ (new ≡ None) ⊎ ((late : Bool) × (new ≡ Some late) × (time : Result Instant Error) × IsLateCheck time late)
