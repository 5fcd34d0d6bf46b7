-- The read of a file in parts.
use Rattle.std.specs.Prelude.{◌≡◌, ℕ, ◌+◌, ◌-◌, ◌<◌, ◌==◌, min, List, [], ◌∷◌, ◌++◌, length, true, false, Option, Some, None, Result, Ok, Err, ◌⊎◌, leb, if◌then◌else◌}
use Rattle.kt_child.specs.Types.{FileRead, Missing as NoFile, OsFault, Part}
use Rattle.kt_child.specs.declared.ending.PartsResult.{PartsResult}
use Rattle.kt_child.specs.declared.ending.PartsResult.TheVariants.{Missing, Unreadable, TooLong, Complete}
use Rattle.kt_child.specs.Ending.Reads.{bytes_of}
use Rattle.kt_os.specs.System.Calls.{Call, ReadPart}

-- `next_part_call path part limit got answer`: the call that reads the next part of the file at
-- `path`, after `got` bytes, with the result `answer`. It reads at most `part` bytes, and none
-- after the first `limit` bytes.
abbrev pub next_part_call : List ℕ → ℕ → ℕ → ℕ → Result FileRead OsFault → Call
next_part_call path part limit got answer = ReadPart path got (min part (limit - got)) answer

-- `end_after_part limit got read`: the result of reading a whole file, if the read of its part
-- after `got` bytes returned `read`. It is `None` if another part must be read. At most `limit`
-- bytes are read.
abbrev pub end_after_part : ℕ → ℕ → FileRead → Option PartsResult
end_after_part limit got NoFile = Some (if got == 0 then Missing else Unreadable)
end_after_part limit got (Part bytes false) = Some Complete
end_after_part limit got (Part [] true) = Some Unreadable
end_after_part limit got (Part (b ∷ bytes) true) = if leb limit (got + length (b ∷ bytes)) then Some TooLong else None

-- `IsReadEnd limit got result end`: `end` is the result of reading a whole file (`end_after_part`),
-- if the read of its part after `got` bytes had the result `result`. At most `limit` bytes are
-- read. `end` is `None` if another part must be read. It is `Unreadable` if the read of the part
-- fails, or an allocation for the bytes of the part. An empty part needs no allocation.
abbrev pub IsReadEnd : ℕ → ℕ → Result FileRead OsFault → Option PartsResult → Type 0
IsReadEnd limit got (Err fault) end = end ≡ Some Unreadable
IsReadEnd limit got (Ok NoFile) end = end ≡ end_after_part limit got NoFile
IsReadEnd limit got (Ok (Part bytes follows)) end =
    ((0 < length bytes) × (end ≡ Some Unreadable)) ⊎ (end ≡ end_after_part limit got (Part bytes follows))

-- `Reads path part limit got calls end bytes`: `calls` read the file at `path` after the bytes
-- `got`, in parts of at most `part` bytes, up to `limit` bytes in all. `end` is the result of the
-- read, and `bytes` are `got` and all bytes that `calls` read.
pub data Reads (path : List ℕ) (part limit : ℕ) : List ℕ → List Call → PartsResult → List ℕ → Type 0 where
  last : (got : List ℕ) (answer : Result FileRead OsFault) (end : PartsResult) → IsReadEnd limit (length got) answer (Some end)
      → Reads path part limit got (next_part_call path part limit (length got) answer ∷ []) end (got ++ bytes_of answer)
  more : (got bytes : List ℕ) (answer : Result FileRead OsFault) (calls : List Call) (end : PartsResult) → IsReadEnd limit (length got) answer None
      → Reads path part limit (got ++ bytes_of answer) calls end bytes
      → Reads path part limit got (next_part_call path part limit (length got) answer ∷ calls) end bytes
