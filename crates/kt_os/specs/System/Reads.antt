-- Reads of a file by the system.
use Rattle.std.specs.Prelude.{ℕ, ◌≤◌, length, Result, Ok}
use Rattle.kt_os.specs.Types.{FileRead, OsFault, Part}

-- `IsReadWithin limit answer`: a read with the result `answer` returns at most `limit` bytes.
abbrev pub IsReadWithin : ℕ → Result FileRead OsFault → Type 0
IsReadWithin limit (Ok (Part bytes follows)) = length bytes ≤ limit
IsReadWithin limit answer = Unit {0}
