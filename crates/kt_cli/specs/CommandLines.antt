-- The command in the arguments of a process.
use Rattle.std.specs.Prelude.{◌≡◌, ℕ, List, Result, Ok, Err, IsErrAnd}
use Rattle.std.specs.IoError.{error_kind}
use Rattle.kt_cli.specs.Types.{Command, CommandFault, Error}
use Rattle.std.specs.declared.io.ErrorKind.TheVariants.{OutOfMemory}
use Rattle.kt_args.specs.Reading.{ParsesCommand, IsArgsFault}

-- `IsCommandOfArgs own words command`: `command` is the result of parsing the arguments of a
-- process. `words` is the system's result for the arguments, and `own` returns the arguments after
-- the program's own name. If `words` is an error, `command` is a fault.
abbrev pub IsCommandOfArgs : {W : Type 0} → (W → List (List ℕ)) → Result W Error → Result Command CommandFault → Type 0
IsCommandOfArgs own (Ok words) command = ParsesCommand (own words) command
IsCommandOfArgs own (Err error) command = IsErrAnd command (IsArgsFault (error_kind error ≡ OutOfMemory))
