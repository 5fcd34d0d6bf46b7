-- The error lines and exit statuses of commands that could not begin.
use Rattle.std.specs.Prelude.{ℕ, Bool, List, ◌≡◌, Option}
use Rattle.kt_cli.specs.Types.{CommandFault, DriverFault, Emits}
use Rattle.kt_child.specs.Driving.Roots.{driver_message}
use Rattle.kt_args.specs.declared.command_fault.CommandFault.TheVariants as command
use Rattle.kt_args.specs.FaultMessages.{command_message}
use Rattle.kt_cli.specs.FaultLines.{fault_line}

-- `driver_line fault`: the error line of a command whose driver could not be created because of
-- `fault`.
abbrev pub driver_line : DriverFault → List ℕ
driver_line fault = fault_line (driver_message fault)

-- `command_text fault`: the text that is printed for arguments that were rejected with `fault`: the
-- text of a `Usage` fault (the message of `clap`), and an error line for another fault.
abbrev pub command_text : CommandFault → List ℕ
command_text (command.Usage text) = text
command_text other = fault_line (command_message other)

-- The exit status of a failed command (kyua(1)).
abbrev pub failure_exit : ℕ
failure_exit = 2

-- The exit status of a command with wrong arguments (kyua(1)).
abbrev pub wrong_arguments_exit : ℕ
wrong_arguments_exit = 3

-- `command_exit fault`: the exit status of a command whose arguments were rejected with `fault`: 2
-- if memory ran out, else 3.
abbrev pub command_exit : CommandFault → ℕ
command_exit (command.NoMemory shortage) = failure_exit
command_exit other = wrong_arguments_exit

-- `PrintedWithStatus old new exit bytes intended_exit`: from content `old` to content `new` of a
-- writer, `bytes` were written, or a proper prefix if the write failed. `exit` is `intended_exit`
-- in both cases.
pub record PrintedWithStatus (old new : Option (List ℕ)) (exit : ℕ) (bytes : List ℕ) (intended_exit : ℕ) : Type 0 where
  pub failed : Bool
  pub shows : Emits old new failed bytes
  pub exits : exit ≡ intended_exit
