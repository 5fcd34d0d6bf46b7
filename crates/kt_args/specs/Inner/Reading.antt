-- Results of the private functions that read a command line.
use Rattle.std.specs.Prelude.{◌≡◌, ⊤, ℕ, List, Option, Some, None, Result, Ok, Err}
use Rattle.kt_base.specs.declared.verdict.Kind.{Kind}
use Rattle.kt_args.specs.declared.command_fault.CommandFault.{CommandFault}
use Rattle.kt_args.specs.declared.command_fault.CommandFault.TheVariants as fault

-- `ParsesRun expected result`: `result` is the result of parsing the option `--run`. It is the
-- optional run number in `expected`, or the error `BadRun` if `expected` is `None`.
abbrev pub ParsesRun : Option (Option ℕ) → Result (Option ℕ) CommandFault → Type 0
ParsesRun expected (Ok run') = expected ≡ Some run'
ParsesRun expected (Err fault.BadRun) = expected ≡ None
ParsesRun expected other = ⊥

-- `ParsesKinds expected result`: `result` is the result of parsing a results filter. It has the
-- kinds in `expected`, or is the error `BadKind` if `expected` is `None`. It may also be a failed
-- allocation.
abbrev pub ParsesKinds : Option (List Kind) → Result (List Kind) CommandFault → Type 0
ParsesKinds expected (Ok kinds) = expected ≡ Some kinds
ParsesKinds expected (Err fault.BadKind) = expected ≡ None
ParsesKinds expected (Err (fault.NoMemory shortage)) = ⊤
ParsesKinds expected (Err other) = ⊥

-- `IsResultOrNoMemory expected result`: `result`, the result of parsing, is equal to `expected`,
-- the specified result. It may also be a failed allocation.
abbrev pub IsResultOrNoMemory : {A : Type 0} → Result A CommandFault → Result A CommandFault → Type 0
IsResultOrNoMemory expected (Err (fault.NoMemory shortage)) = ⊤
IsResultOrNoMemory expected result = expected ≡ result
