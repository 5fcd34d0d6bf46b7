-- The exit status and the output of a command when its results file is closed.
use Rattle.std.specs.Prelude.{ℕ, Bool, true, false, List, ◌≡◌, ◌==◌, Option, Result, Ok, Err}
use Rattle.kt_cli.specs.Types.{StoreFault, utf8}
use Rattle.kt_cli.specs.FaultLines.{store_fault_line}
use Rattle.kt_cli.specs.Pages.{Printed}
use Rattle.kt_cli.specs.Refused.{failure_exit}

-- `CloseFailed failed fault old new intended_exit exit`: a command with the exit status
-- `intended_exit` failed with `fault` to close its results file. `failed` is whether the command
-- had failed before the close (`intended_exit` is 2). If so, nothing is printed, and `exit` is
-- `intended_exit`. Otherwise the error line of `fault` is printed, and `exit` is 2. `old` and `new`
-- are the contents of the writer before and after.
abbrev pub CloseFailed : Bool → StoreFault → Option (List ℕ) → Option (List ℕ) → ℕ → ℕ → Type 0
CloseFailed true fault old new intended_exit exit = (new ≡ old) × (exit ≡ intended_exit)
CloseFailed false fault old new intended_exit exit = Printed old new exit (utf8 (store_fault_line fault)) failure_exit

-- `ClosesResults closed old new intended_exit exit`: `exit` is the exit status of a command that
-- had the status `intended_exit` before its results file was closed with the result `closed`. After
-- a successful close, `exit` is `intended_exit`, and nothing is printed. After a failed close,
-- `CloseFailed` holds. `old` and `new` are the contents of the writer before and after.
abbrev pub ClosesResults : Result (Unit {0}) StoreFault → Option (List ℕ) → Option (List ℕ) → ℕ → ℕ → Type 0
ClosesResults (Ok done) old new intended_exit exit = (new ≡ old) × (exit ≡ intended_exit)
ClosesResults (Err fault) old new intended_exit exit = CloseFailed (intended_exit == failure_exit) fault old new intended_exit exit
