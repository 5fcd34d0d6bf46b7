-- The possible results of the host's calls.
use Rattle.std.specs.Prelude.{◌≡◌, ◌≢◌, ◌≤◌, ◌/◌, ◌%◌, ◌==◌, ◌<◌, ℕ, List, length, take, true, false, Some, None, IfSome, IsSome, IsSomeAnd, ◌+◌, ◌⊎◌, Bool, Option, Result, Ok, Err}
use Rattle.std.specs.Process.{status_bits}
use Rattle.std.specs.IoError.{error_kind}
use Rattle.std.specs.declared.io.Error.{Error}
use Rattle.std.specs.declared.io.ErrorKind.TheVariants.{NotFound}
use Rattle.std.specs.declared.process.status.ExitStatus.{ExitStatus}
use Rattle.kt_os.specs.Types.{Child, Exited, FileRead, Missing, OsFault, Part, ChildState, Running, Signaled}
use Rattle.kt_os.specs.Host.ProcessStates.{ProcessState, Proceeds, AllProceed, AllStay, OthersStay}
use Rattle.kt_os.specs.System.Reads.{IsReadWithin}
use Rattle.kt_os.specs.System.Calls.{Call, SetLimit, OpenOutput, Spawn, Poll, Kill, Pause, ReadFile, ReadPart}

-- `IsFullRead limit answer`: if more bytes follow after a read with the result `answer`, this
-- result has exactly `limit` bytes.
abbrev pub IsFullRead : ℕ → Result FileRead OsFault → Type 0
IsFullRead limit (Ok (Part bytes true)) = length bytes ≡ limit
IsFullRead limit answer = Unit {0}

-- `HasNotFoundError answer`: if a read with the result `answer` found no file, some I/O error has
-- the kind `NotFound`. Nothing ties this error to the calls of the system.
abbrev pub HasNotFoundError : Result FileRead OsFault → Type 0
HasNotFoundError (Ok Missing) = (error : Error) × (error_kind error ≡ NotFound)
HasNotFoundError answer = Unit {0}

-- `IsHostRead limit answer`: a read with the result `answer` returns at most `limit` bytes, and
-- exactly `limit` bytes if more follow in the file. If the result is `Missing`, some I/O error has
-- the kind `NotFound`. Nothing ties this error to the calls of the system.
abbrev pub IsHostRead : ℕ → Result FileRead OsFault → Type 0
IsHostRead limit answer = IsReadWithin limit answer × IsFullRead limit answer × HasNotFoundError answer

-- `IsReadOf limit xs result`: a read of a file whose remaining bytes are `xs` may have the result
-- `result`: the first `limit` bytes, and whether more follow. The read may fail, but its result is
-- not `Missing`.
abbrev pub IsReadOf : ℕ → List ℕ → Result FileRead OsFault → Type 0
IsReadOf limit xs (Err _) = Unit {0}
IsReadOf limit xs (Ok Missing) = ⊥
IsReadOf limit xs (Ok (Part bytes true)) = (bytes ≡ take limit xs) × (limit < length xs)
IsReadOf limit xs (Ok (Part bytes false)) = (bytes ≡ xs) × (length xs ≤ limit)

-- `ConsumesAtMost limit left rest`: a read consumes at most `limit` bytes of a file. `left` and
-- `rest` are the remaining bytes of the file before and after the read. If `left` is unknown
-- (`None`), nothing is specified. If `left` is known, `rest` is known, too.
abbrev pub ConsumesAtMost : ℕ → Option (List ℕ) → Option (List ℕ) → Type 0
ConsumesAtMost limit left rest = IfSome left (λ xs. IsSomeAnd rest (λ ys. length xs ≤ length ys + limit))

-- `IsNotMissing answer`: `answer`, the result of reading an opened file, is not `Missing`.
abbrev pub IsNotMissing : Result FileRead OsFault → Type 0
IsNotMissing (Ok Missing) = ⊥
IsNotMissing answer = Unit {0}

-- `DecodesWaitStatus bits result`: `result` is the state of a child that the wait status `bits`
-- reports (wait(2)). If its low 7 bits are 0, the child exited, and bits 8 to 15 are the exit
-- status. Otherwise the low 7 bits are the signal that ended the child, and bit 7 reports a core
-- dump. If the low 7 bits are 127, the child has not ended, and `result` is an error.
abbrev pub DecodesWaitStatus : ℕ → Result ChildState OsFault → Type 0
DecodesWaitStatus bits (Ok Running) = ⊥
DecodesWaitStatus bits (Ok (Exited code)) = (bits % 128 ≡ 0) × (code ≡ bits / 256 % 256)
DecodesWaitStatus bits (Ok (Signaled signal core)) =
    (signal ≡ bits % 128) × (bits % 128 ≢ 0) × (bits % 128 ≢ 127) × (core ≡ (bits / 128 % 2 == 1))
DecodesWaitStatus bits (Err _) = bits % 128 ≡ 127

-- `ReportsEnd child old answer new IsLast`: a poll of `child` returns `answer`, the state that the
-- wait status of its process reports. `old` and `new` give the states of all children before and
-- after the poll. In `old`, `child` has a process. If `old` has the wait status of that process,
-- the poll reports this status. In `new`, `child` has no process, and the other states are
-- unchanged. `IsLast` is the relation of the last reported end: it is true of `child` and the wait
-- status.
abbrev pub ReportsEnd : Child → (Child → ProcessState) → Result ChildState OsFault → (Child → ProcessState) → (Child → ExitStatus → Type 0) → Type 0
ReportsEnd child old answer new IsLast =
    (status : ExitStatus) × IsSome (old child) × Proceeds (old child) (Some (Some status)) × DecodesWaitStatus (status_bits status) answer
    × IsLast child status × (new child ≡ None) × OthersStay child old new

-- `HostPolls child old answer new IsLast late`: a poll of `child` may return `answer`, and the
-- states of the children go from `old` to `new`. Only a child with a process is reported as
-- running. If the end of this process is known, `late`, the result of the last check for late
-- children, must be `Some true`. A failed poll may remove the child. `IsLast` is true of the child
-- and status of the last reported end.
abbrev pub HostPolls : Child → (Child → ProcessState) → Result ChildState OsFault → (Child → ProcessState) → (Child → ExitStatus → Type 0) → Option Bool → Type 0
HostPolls child old (Ok Running) new IsLast late = IsSome (old child) × (late ≢ Some true → old child ≡ Some None) × AllStay old new
HostPolls child old (Err fault) new IsLast late = (Proceeds (old child) (new child) ⊎ (new child ≡ None)) × OthersStay child old new
HostPolls child old answer new IsLast late = ReportsEnd child old answer new IsLast

-- `HostLeads old call new IsLast late`: `call` may lead the children from the states `old` to
-- `new`. `IsLast` is true of the child and status of the last reported end. `late` is the result of
-- the last check for late children. A child has a process after its start succeeded. It has no
-- process after an output file is opened for it, or after its start failed. Only a child with a
-- process is killed. A pause may find ends. A read has a result that `IsHostRead` allows. The
-- relation specifies no times, and it does not require that a call succeeds.
abbrev pub HostLeads : (Child → ProcessState) → Call → (Child → ProcessState) → (Child → ExitStatus → Type 0) → Option Bool → Type 0
HostLeads old (OpenOutput child path answer) new IsLast late = (new child ≡ None) × OthersStay child old new
HostLeads old (Spawn child program words env dir (Ok done)) new IsLast late = IsSome (new child) × OthersStay child old new
HostLeads old (Spawn child program words env dir (Err fault)) new IsLast late = (new child ≡ None) × OthersStay child old new
HostLeads old (Poll child answer) new IsLast late = HostPolls child old answer new IsLast late
HostLeads old (Kill child true) new IsLast late = IsSome (old child) × AllStay old new
HostLeads old (Pause done) new IsLast late = AllProceed old new
HostLeads old (ReadFile path limit answer) new IsLast late = IsHostRead limit answer × AllStay old new
HostLeads old (ReadPart path from limit answer) new IsLast late = IsHostRead limit answer × AllStay old new
HostLeads old call new IsLast late = AllStay old new

-- `limit_after call old`: the timeout of the next child in seconds, after `call`. It was `old`
-- before, and only `SetLimit` changes it.
abbrev pub limit_after : Call → ℕ → ℕ
limit_after (SetLimit child limit) old = limit
limit_after call old = old
