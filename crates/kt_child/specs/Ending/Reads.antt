-- Reads of the files that a child left.
use Rattle.std.specs.Prelude.{ℕ, ◌≤◌, List, [], length, true, false, Result, Ok}
use Rattle.kt_child.specs.Types.{FileRead, ListBytes, OsFault, Part}
use Rattle.kt_atflist.specs.declared.listing.ListBytes.TheVariants.{Read, Unreadable, TooLong}

-- `bytes_of answer`: the bytes that a read with the result `answer` returned. There are none if the
-- read failed or the file is missing.
abbrev pub bytes_of : Result FileRead OsFault → List ℕ
bytes_of (Ok (Part bytes follows)) = bytes
bytes_of answer = []

-- `list_of answer`: the list of test cases in a file whose read had the result `answer`. It is
-- `TooLong` if more bytes follow, and `Unreadable` if the read failed or the file is missing.
abbrev pub list_of : Result FileRead OsFault → ListBytes
list_of (Ok (Part bytes true)) = TooLong
list_of (Ok (Part bytes false)) = Read bytes
list_of answer = Unreadable

-- `IsListWithin list`: if `list` was read, it has at most 1,048,576 bytes.
abbrev pub IsListWithin : ListBytes → Type 0
IsListWithin (Read bytes) = length bytes ≤ 1048576
IsListWithin bytes = Unit {0}
