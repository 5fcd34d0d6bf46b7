-- The messages of the errors of a command line.
use Rattle.std.specs.Prelude.{ℕ, List, codes}
use Rattle.kt_args.specs.declared.command_fault.CommandFault.{CommandFault}
use Rattle.kt_args.specs.declared.command_fault.CommandFault.TheVariants.{NoMemory, Usage, BadKind, BadRun}

-- `command_message fault`: the message that is printed for `fault`, an error of a command line.
abbrev pub command_message : CommandFault → List ℕ
command_message (NoMemory shortage) = codes "out of memory"
command_message (Usage text) = text
command_message BadKind = codes "bad results filter"
command_message BadRun = codes "bad run number"
