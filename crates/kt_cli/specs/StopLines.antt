-- The error lines and exit statuses of commands that a fault stopped before any case was started.
use Rattle.std.specs.Prelude.{ℕ, List}
use Rattle.kt_plan.specs.SelectionMessages.{selection_error_message}
use Rattle.kt_cli.specs.Types.{SelectionError}
use Rattle.kt_plan.specs.declared.selection_error.SelectionError.TheVariants as stop
use Rattle.kt_cli.specs.FaultLines.{fault_line}

-- `stop_line fault`: the error line of a command that `fault` stopped.
abbrev pub stop_line : SelectionError → List ℕ
stop_line fault = fault_line (selection_error_message fault)

-- `stop_exit fault`: the exit status of a command that `fault` stopped: 3 if the arguments are
-- wrong, else 2.
abbrev pub stop_exit : SelectionError → ℕ
stop_exit (stop.NoMemory refusal) = 2
stop_exit stop.UnreadableConfiguration = 2
stop_exit (stop.Configuration fault) = 2
stop_exit (stop.Variable name fault) = 3
stop_exit (stop.Filter word fault) = 3
stop_exit stop.NeedsCase = 3
stop_exit (stop.Tree fault) = 2
stop_exit stop.TooManyCases = 2
