-- The state of a reader of a TAP stream, as callers see it.
use Rattle.std.specs.Prelude.{◌≡◌, ℕ, ◌<◌, ◌≤◌, ◌⊎◌, Bool, true, false, List, [], ◌++◌, length, Some}
use Rattle.kt_base.specs.Lines.{lines}
use Rattle.kt_claim.specs.TapStream.{limit, without_cr, without_trailing_blanks, skip_reason, plan}
use Rattle.kt_claim.specs.Inner.LineStates.{LineState, with_held_cr}
use Rattle.kt_claim.specs.Inner.TapReading.{HasLines}
use Rattle.kt_claim.specs.declared.tally.Tally.{Tally}

-- `TapReaderState`: the state of a reader of a TAP stream, as callers see it. It has the tally of
-- the complete lines, the state of the open line, and the number of bytes read. `too_long` is true
-- if the stream is too long, and `failed` if an allocation failed.
pub record TapReaderState : Type 0 where
  pub tally : Tally
  pub line : LineState
  pub length : ℕ
  pub too_long : Bool
  pub failed : Bool

-- `RepresentsStream too_long reader fed`: `reader` is the state of a reader of a TAP stream that
-- read the bytes `fed`. If `too_long` is false, `reader` has the number of these bytes, the tally
-- of their complete lines and their open line. There are at most `limit` bytes. If `too_long` is
-- true, `fed` has more than `limit` bytes.
abbrev pub RepresentsStream : Bool → TapReaderState → List ℕ → Type 0
RepresentsStream true reader fed = limit < length fed
RepresentsStream false reader fed = (reader.length ≡ length fed) × (length fed ≤ limit) × HasLines reader.tally reader.line fed

-- `HasReadStream reader fed`: `reader` has read the bytes `fed`, and no allocation failed.
abbrev pub HasReadStream : TapReaderState → List ℕ → Type 0
HasReadStream reader fed = (reader.failed ≡ false) × RepresentsStream reader.too_long reader fed

-- `KeepsOnlyReason line fed`: after the bytes `fed` of a TAP stream, the state `line` of the open
-- line keeps no bytes, or only bytes of a reason. In the second case, the open line is a plan of no
-- tests. The kept bytes are its reason, as far as it was read.
abbrev pub KeepsOnlyReason : LineState → List ℕ → Type 0
KeepsOnlyReason line fed =
    (line.kept ≡ [])
    ⊎ ((whole : List (List ℕ)) × (came : List ℕ) × ((more : List ℕ) → lines (fed ++ more) ≡ whole ++ lines (came ++ more))
    × ((more : List ℕ) → plan (without_cr (came ++ more)) ≡ Some (0, skip_reason (without_trailing_blanks (line.kept ++ without_cr (with_held_cr line.held_cr more))))))
