use Rattle.kt_doubles.proofs.Common.{Finished}
use Rattle.kt_doubles.proofs.MemoryLaws.{serves_in_memory}
use Rattle.kt_doubles.proofs.mem_runs.MemRunsResultStore.finish.Goals as goal

pub returns : goal.returns
returns c = serves_in_memory _ (Finished c.args.run c.finish_run.result) _ c.finish_run.ensures
