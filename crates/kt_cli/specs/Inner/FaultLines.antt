-- The error lines of runs.
use Rattle.std.specs.Prelude.{ℕ, List}
use Rattle.kt_sched.specs.FaultMessages.{run_message}
use Rattle.kt_cli.specs.Types.{RunFault}
use Rattle.kt_cli.specs.FaultLines.{fault_line}

-- `run_line fault`: the error line of a run that failed with `fault`.
abbrev pub run_line : RunFault → List ℕ
run_line fault = fault_line (run_message fault)
