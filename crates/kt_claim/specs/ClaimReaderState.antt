-- The state of a reader of a result file.
use Rattle.std.specs.Prelude.{◌≡◌, ℕ, ◌<◌, ◌≤◌, Bool, true, false, List, length}
use Rattle.kt_claim.specs.ResultFile.{limit}

-- `ClaimReaderState`: the state of a reader of a result file, as callers see it. It has the bytes
-- that the reader keeps. `too_long` is true if the file is too long, and `failed` if an allocation
-- failed.
pub record ClaimReaderState : Type 0 where
  pub kept : List ℕ
  pub too_long : Bool
  pub failed : Bool

-- `KeepsBytes too_long kept fed`: the bytes `kept` and the flag `too_long` are the state of a
-- reader of a result file that read the bytes `fed`. If `too_long` is false, `kept` is `fed`, which
-- has at most `limit` bytes. If `too_long` is true, `fed` has more than `limit` bytes.
abbrev pub KeepsBytes : Bool → List ℕ → List ℕ → Type 0
KeepsBytes true kept fed = limit < length fed
KeepsBytes false kept fed = (kept ≡ fed) × (length fed ≤ limit)

-- `HasRead reader fed`: `reader` has read the bytes `fed`, and no allocation failed.
abbrev pub HasRead : ClaimReaderState → List ℕ → Type 0
HasRead reader fed = (reader.failed ≡ false) × KeepsBytes reader.too_long reader.kept fed
