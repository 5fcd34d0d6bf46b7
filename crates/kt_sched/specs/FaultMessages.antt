-- The messages of errors, as they are printed.
use Rattle.std.specs.Prelude.{ℕ, List, codes}
use Rattle.kt_sched.specs.Types.{NoMemory, RunFault, SinkFailed, SinkFault}
use Rattle.kt_sched.specs.declared.sink.SinkFault.TheVariants.{Memory, Other}

-- `sink_message fault`: the message of `fault`, the error of a put.
abbrev pub sink_message : SinkFault → List ℕ
sink_message Memory = codes "out of memory"
sink_message Other = codes "results store failed"

-- `run_message fault`: the message of `fault`, the error of a run.
abbrev pub run_message : RunFault → List ℕ
run_message (NoMemory refusal) = codes "out of memory"
run_message (SinkFailed fault) = sink_message fault
