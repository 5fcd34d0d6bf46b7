use Rattle.kt_doubles.proofs.Common.{Began}
use Rattle.kt_doubles.proofs.MemoryLaws.{serves_in_memory}
use Rattle.kt_doubles.proofs.mem_runs.MemRunsResultStore.begin.Goals as goal

pub returns : goal.returns
returns c = serves_in_memory _ (Began c.args.total c.args.moment c.add_run.result) _ c.add_run.ensures
